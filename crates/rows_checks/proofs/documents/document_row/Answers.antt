use Rattle.std.proofs.Common.{[], ◌∷◌, sym, subst}
use Rattle.sqlite_value.specs.declared.value.Value.TheVariants.{Text}
use Rattle.sqlite.specs.Held.{state}
use Rattle.rows_tables.specs.Places.{document_tree}
use Rattle.rows_tables.specs.Cells.{number}
use Rattle.rows_tables.specs.Queries.{Means, TakesParams, of_table}
use Rattle.rows_checks.proofs.CheckedDocuments.{one_text, one_tests, one_shows, one_names, one_is, one_takes, gets_document}
use Rattle.rows_checks.proofs.documents.document_row.Goals as goal

pub returns-clause-gets : goal.returns-clause-gets
returns-clause-gets g c clean has =
    let means = subst (λ s. Means s one_text (of_table document_tree one_tests one_shows []) one_names 3) (sym has.schema_is) one_is in
    let takes = subst (λ s. TakesParams s (of_table document_tree one_tests one_shows []) (Text c.args.account ∷ number c.args.job ∷ number c.args.document ∷ []) 3) (sym has.schema_is) (one_takes c.args.account c.args.job c.args.document) in
    gets_document (state g.R.S.Store (g.R.Reads.held c.args.connection.now)) (state g.R.S.Store (g.R.Reads.held c.find_row.new.self)) c.args.account c.args.job c.args.document has c.find_row.result
    ((rw (c.bytes.ensures.value, c.number.ensures, c.number-2.ensures) at (c.find_row.ensures.finds clean)) document_tree one_tests one_shows one_names 3 means takes)

pub find_row-requires : goal.find_row-requires
find_row-requires g c =
    rw (c.bytes.ensures.value, c.number.ensures, c.number-2.ensures) (record { tree = document_tree; tests = one_tests; shows = one_shows; names = one_names; parameters = 3; means = one_is; takes = (one_takes c.args.account c.args.job c.args.document) })
