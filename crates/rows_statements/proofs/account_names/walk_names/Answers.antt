use Rattle.std.proofs.Common.{sym, subst, refl}
use Rattle.sqlite.specs.Held.{state}
use Rattle.account_state.specs.Names.{from_name}
use Rattle.rows_tables.specs.Queries.{Means, TakesParams}
use Rattle.rows_statements.specs.NameLists.{name_cells, ShowsNames}
use Rattle.rows_statements.proofs.WalkLemmas.{told_as}
use Rattle.rows_statements.proofs.NameListing.{names_text, names_query, names_shown, names_is, names_takes, shows_names}
use Rattle.rows_statements.proofs.account_names.walk_names.Goals as goal

pub returns-clause-walks : goal.returns-clause-walks
returns-clause-walks g c clean has =
    let old = state g.R.S.Store (g.R.Reads.held c.args.connection.now) in
    let start = from_name c.args.behind.now in
    let means = subst (λ s. Means s names_text names_query names_shown 1) (sym has.schema_is) names_is in
    let takes = subst (λ s. TakesParams s names_query (name_cells start) 1) (sym has.schema_is) (names_takes start) in
    told_as _ _ old _ _ _ _ (ShowsNames c.args.behind.now old.now) (shows_names old.now has c.args.behind.now) c.walk.result
    ((rw c.start_text.ensures at (c.walk.ensures.walks clean)) names_query names_shown 1 (record { ungrouped = refl; unfolded = refl }) means takes)

pub walk-requires : goal.walk-requires
walk-requires g c =
    let start = from_name c.args.behind.now in
    rw c.start_text.ensures (record { query = names_query; no_sums = record { ungrouped = refl; unfolded = refl }; names = names_shown; parameters = 1; means = names_is; takes = (names_takes start) })
