use Rattle.std.proofs.Common.{[], sym, subst, refl}
use Rattle.sqlite.specs.Held.{state}
use Rattle.rows_tables.specs.Places.{device_tree}
use Rattle.rows_tables.specs.Queries.{Means, TakesParams, of_table}
use Rattle.rows_statements.proofs.WalkLemmas.{in_some_order}
use Rattle.rows_statements.proofs.DeviceWalk.{walk_text, walk_shows, walk_names, walk_is, walk_takes, all_shown}
use Rattle.rows_statements.proofs.devices.walk_devices.Goals as goal

pub returns-clause-walks : goal.returns-clause-walks
returns-clause-walks g c clean has =
    let old = state g.R.S.Store (g.R.Reads.held c.args.connection.now) in
    let means = subst (λ s. Means s walk_text (of_table device_tree [] walk_shows []) walk_names 0) (sym has.schema_is) walk_is in
    let takes = subst (λ s. TakesParams s (of_table device_tree [] walk_shows []) [] 0) (sym has.schema_is) walk_takes in
    rw (all_shown (old.now.trees device_tree)) at (in_some_order _ _ old _ _ _ device_tree [] walk_shows [] c.walk.result (c.walk.ensures.walks clean (of_table device_tree [] walk_shows []) walk_names 0 (record { ungrouped = refl; unfolded = refl }) means takes))

pub walk-requires : goal.walk-requires
walk-requires g c =
    record { query = (of_table device_tree [] walk_shows []); no_sums = record { ungrouped = refl; unfolded = refl }; names = walk_names; parameters = 0; means = walk_is; takes = walk_takes }
