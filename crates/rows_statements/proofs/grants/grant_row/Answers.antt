use Rattle.std.proofs.Common.{[], ◌∷◌, sym, subst}
use Rattle.sqlite_value.specs.declared.value.Value.TheVariants.{Text}
use Rattle.sqlite.specs.Held.{state}
use Rattle.rows_tables.specs.Places.{grants_tree}
use Rattle.rows_tables.specs.Cells.{number}
use Rattle.rows_tables.specs.Queries.{Means, TakesParams, of_table}
use Rattle.rows_statements.proofs.GrantLemmas.{find_grant_text, grant_tests, grant_shows, grant_names, find_grant_is, find_grant_takes, gets_grant}
use Rattle.rows_statements.proofs.grants.grant_row.Goals as goal

pub returns-clause-gets : goal.returns-clause-gets
returns-clause-gets g c clean has =
    let means = subst (λ s. Means s find_grant_text (of_table grants_tree grant_tests grant_shows []) grant_names 2) (sym has.schema_is) find_grant_is in
    let takes = subst (λ s. TakesParams s (of_table grants_tree grant_tests grant_shows []) (Text c.args.account ∷ number c.args.month ∷ []) 2) (sym has.schema_is) (find_grant_takes c.args.account c.args.month) in
    gets_grant (state g.R.S.Store (g.R.Reads.held c.args.connection.now)) (state g.R.S.Store (g.R.Reads.held c.find_row.new.self)) c.args.account c.args.month has c.find_row.result
    ((rw (c.bytes.ensures.value, c.number.ensures) at (c.find_row.ensures.finds clean)) grants_tree grant_tests grant_shows grant_names 2 means takes)

pub find_row-requires : goal.find_row-requires
find_row-requires g c =
    rw (c.bytes.ensures.value, c.number.ensures) (record { tree = grants_tree; tests = grant_tests; shows = grant_shows; names = grant_names; parameters = 2; means = find_grant_is; takes = (find_grant_takes c.args.account c.args.month) })
