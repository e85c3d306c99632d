use Rattle.std.proofs.Common.{[], ◌∷◌, sym, subst, refl}
use Rattle.sqlite_value.specs.declared.value.Value.TheVariants.{Text}
use Rattle.sqlite.specs.Held.{state}
use Rattle.rows_tables.specs.Places.{job_tree}
use Rattle.rows_tables.specs.Queries.{Means, TakesParams, of_table}
use Rattle.rows_statements.proofs.WalkLemmas.{in_some_order}
use Rattle.rows_statements.proofs.TallyWalk.{tally_shows, tally_names}
use Rattle.rows_statements.proofs.QueuedText.{queued_text, queued_tests, queued_is, queued_takes}
use Rattle.rows_statements.proofs.QueuedWalk.{queued_shown}
use Rattle.rows_statements.proofs.unfinished.walk_queued.Goals as goal

pub returns-clause-walks : goal.returns-clause-walks
returns-clause-walks g c clean has =
    let old = state g.R.S.Store (g.R.Reads.held c.args.connection.now) in
    let means = subst (λ s. Means s queued_text (of_table job_tree queued_tests tally_shows []) tally_names 1) (sym has.schema_is) queued_is in
    let takes = subst (λ s. TakesParams s (of_table job_tree queued_tests tally_shows []) (Text c.args.account ∷ []) 1) (sym has.schema_is) (queued_takes c.args.account) in
    rw (queued_shown c.args.account old.now) at (in_some_order _ _ old _ _ _ job_tree queued_tests tally_shows (Text c.args.account ∷ []) c.walk.result ((rw c.bytes.ensures.value at (c.walk.ensures.walks clean)) (of_table job_tree queued_tests tally_shows []) tally_names 1 (record { ungrouped = refl; unfolded = refl }) means takes))

pub walk-requires : goal.walk-requires
walk-requires g c =
    rw c.bytes.ensures.value (record { query = (of_table job_tree queued_tests tally_shows []); no_sums = record { ungrouped = refl; unfolded = refl }; names = tally_names; parameters = 1; means = queued_is; takes = (queued_takes c.args.account) })
