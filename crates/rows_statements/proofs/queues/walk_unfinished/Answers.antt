use Rattle.std.proofs.Common.{sym, subst, refl}
use Rattle.sqlite.specs.Held.{state}
use Rattle.rows_tables.specs.Queries.{Means, TakesParams}
use Rattle.rows_statements.specs.Queues.{by_rising_number, AreListed}
use Rattle.rows_statements.specs.SoundRows.{unfinished_rows}
use Rattle.account_state.specs.Queues.{not_completed, first_jobs}
use Rattle.rows_statements.proofs.WalkLemmas.{told_as}
use Rattle.rows_statements.proofs.QueueTexts.{names, params, unfinished_text, unfinished_query, unfinished_is, unfinished_takes}
use Rattle.rows_statements.proofs.QueueRows.{unfinished_listed}
use Rattle.rows_statements.proofs.queues.walk_unfinished.Goals as goal

pub returns-clause-walks : goal.returns-clause-walks
returns-clause-walks g c clean has =
    let old = state g.R.S.Store (g.R.Reads.held c.args.connection.now) in
    let means = subst (λ s. Means s unfinished_text unfinished_query names 2) (sym has.schema_is) unfinished_is in
    let takes = subst (λ s. TakesParams s unfinished_query (params c.args.account c.args.limit) 2) (sym has.schema_is) (unfinished_takes c.args.account c.args.limit) in
    told_as _ _ old _ _ _ _ (AreListed (λ all. first_jobs c.args.limit (not_completed all)) by_rising_number c.args.limit (unfinished_rows old.now c.args.account) old.now c.args.account) (unfinished_listed c.args.account c.args.limit old.now has) c.walk.result
    ((rw (c.bytes.ensures.value, c.limit_of.ensures) at (c.walk.ensures.walks clean)) unfinished_query names 2 (record { ungrouped = refl; unfolded = refl }) means takes)

pub walk-requires : goal.walk-requires
walk-requires g c =
    rw (c.bytes.ensures.value, c.limit_of.ensures) (record { query = unfinished_query; no_sums = record { ungrouped = refl; unfolded = refl }; names = names; parameters = 2; means = unfinished_is; takes = (unfinished_takes c.args.account c.args.limit) })
