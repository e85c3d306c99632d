use Rattle.std.proofs.Common.{[], ◌∷◌, sym, subst, refl}
use Rattle.sqlite_value.specs.declared.value.Value.TheVariants.{Text}
use Rattle.sqlite.specs.Held.{state}
use Rattle.rows_tables.specs.Places.{job_tree}
use Rattle.rows_tables.specs.Queries.{Means, TakesParams, of_table}
use Rattle.rows_statements.proofs.WalkLemmas.{in_some_order}
use Rattle.rows_survey.proofs.ChargeWalk.{charged_text, charged_tests, charged_shows, charged_names, charged_is, charged_takes, jobs_shown}
use Rattle.rows_survey.proofs.charges.walk_jobs.Goals as goal

pub returns-clause-walks : goal.returns-clause-walks
returns-clause-walks g c clean has =
    let old = state g.R.S.Store (g.R.Reads.held c.args.connection.now) in
    let means = subst (λ s. Means s charged_text (of_table job_tree charged_tests charged_shows []) charged_names 1) (sym has.schema_is) charged_is in
    let takes = subst (λ s. TakesParams s (of_table job_tree charged_tests charged_shows []) (Text c.args.account ∷ []) 1) (sym has.schema_is) (charged_takes c.args.account) in
    rw (jobs_shown c.args.account old.now) at (in_some_order _ _ old _ _ _ job_tree charged_tests charged_shows (Text c.args.account ∷ []) c.walk.result ((rw c.bytes.ensures.value at (c.walk.ensures.walks clean)) (of_table job_tree charged_tests charged_shows []) charged_names 1 (record { ungrouped = refl; unfolded = refl }) means takes))

pub walk-requires : goal.walk-requires
walk-requires g c =
    rw c.bytes.ensures.value (record { query = (of_table job_tree charged_tests charged_shows []); no_sums = record { ungrouped = refl; unfolded = refl }; names = charged_names; parameters = 1; means = charged_is; takes = (charged_takes c.args.account) })
