use Rattle.std.proofs.Common.{[], sym, subst, refl}
use Rattle.sqlite.specs.Held.{state}
use Rattle.rows_tables.specs.Queries.{Means, TakesParams}
use Rattle.rows_statements.specs.DeviceLists.{ShowsDevices}
use Rattle.rows_statements.proofs.WalkLemmas.{told_as}
use Rattle.rows_statements.proofs.DeviceListing.{list_text, list_query, list_names, list_is, list_takes, shows_devices}
use Rattle.rows_statements.proofs.device_list.walk_switches.Goals as goal

pub returns-clause-walks : goal.returns-clause-walks
returns-clause-walks g c clean has =
    let old = state g.R.S.Store (g.R.Reads.held c.args.connection.now) in
    let means = subst (λ s. Means s list_text list_query list_names 0) (sym has.schema_is) list_is in
    let takes = subst (λ s. TakesParams s list_query [] 0) (sym has.schema_is) list_takes in
    told_as _ _ old _ _ _ _ (ShowsDevices old.now) (shows_devices old.now has) c.walk.result (c.walk.ensures.walks clean list_query list_names 0 (record { ungrouped = refl; unfolded = refl }) means takes)

pub walk-requires : goal.walk-requires
walk-requires g c =
    record { query = list_query; no_sums = record { ungrouped = refl; unfolded = refl }; names = list_names; parameters = 0; means = list_is; takes = list_takes }
