use Rattle.std.proofs.Common.{[], ◌∷◌, sym, subst}
use Rattle.sqlite_value.specs.declared.value.Value.TheVariants.{Text}
use Rattle.sqlite.specs.Held.{state}
use Rattle.rows_tables.specs.Places.{rates_tree}
use Rattle.rows_tables.specs.Queries.{Means, TakesParams, of_table}
use Rattle.rows_tables.proofs.KeyedTables.{rates_in}
use Rattle.rows_statements.proofs.NamedValues.{tests, shows, gets_row}
use Rattle.rows_statements.proofs.RateLemmas.{find_text, names, find_is, find_takes}
use Rattle.rows_statements.proofs.rates.rate_row.Goals as goal

pub returns-clause-gets : goal.returns-clause-gets
returns-clause-gets g c clean has =
    let means = subst (λ s. Means s find_text (of_table rates_tree tests shows []) names 1) (sym has.schema_is) find_is in
    let takes = subst (λ s. TakesParams s (of_table rates_tree tests shows []) (Text c.args.name ∷ []) 1) (sym has.schema_is) (find_takes c.args.name) in
    gets_row rates_in (state g.R.S.Store (g.R.Reads.held c.args.connection.now)) (state g.R.S.Store (g.R.Reads.held c.find_row.new.self)) c.args.name has c.find_row.result
    ((rw c.bytes.ensures.value at (c.find_row.ensures.finds clean)) rates_tree tests shows names 1 means takes)

pub find_row-requires : goal.find_row-requires
find_row-requires g c =
    rw c.bytes.ensures.value (record { tree = rates_tree; tests = tests; shows = shows; names = names; parameters = 1; means = find_is; takes = (find_takes c.args.name) })
