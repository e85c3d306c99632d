use Rattle.std.proofs.Common.{[], ◌∷◌, sym, subst, refl}
use Rattle.sqlite_value.specs.declared.value.Value.TheVariants.{Text}
use Rattle.sqlite.specs.Held.{state}
use Rattle.rows_tables.specs.Places.{document_tree}
use Rattle.rows_tables.specs.Cells.{number}
use Rattle.rows_tables.specs.Queries.{Means, TakesParams, of_table}
use Rattle.rows_statements.proofs.WalkLemmas.{in_some_order}
use Rattle.rows_statements.proofs.DocumentWalk.{walk_text, walk_tests, walk_shows, walk_names, walk_is, walk_takes, all_shown}
use Rattle.rows_statements.proofs.documents.walk_documents.Goals as goal

pub returns-clause-walks : goal.returns-clause-walks
returns-clause-walks g c clean has =
    let old = state g.R.S.Store (g.R.Reads.held c.args.connection.now) in
    let job = c.args.found.now.job in
    let means = subst (λ s. Means s walk_text (of_table document_tree walk_tests walk_shows []) walk_names 2) (sym has.schema_is) walk_is in
    let takes = subst (λ s. TakesParams s (of_table document_tree walk_tests walk_shows []) (Text c.args.account ∷ number job ∷ []) 2) (sym has.schema_is) (walk_takes c.args.account job) in
    rw (all_shown old.now c.args.account job) at (in_some_order _ _ old _ _ _ document_tree walk_tests walk_shows (Text c.args.account ∷ number job ∷ []) c.walk.result ((rw (c.bytes.ensures.value, c.number.ensures) at (c.walk.ensures.walks clean)) (of_table document_tree walk_tests walk_shows []) walk_names 2 (record { ungrouped = refl; unfolded = refl }) means takes))

pub walk-requires : goal.walk-requires
walk-requires g c =
    let job = c.args.found.now.job in
    rw (c.bytes.ensures.value, c.number.ensures) (record { query = (of_table document_tree walk_tests walk_shows []); no_sums = record { ungrouped = refl; unfolded = refl }; names = walk_names; parameters = 2; means = walk_is; takes = (walk_takes c.args.account job) })
