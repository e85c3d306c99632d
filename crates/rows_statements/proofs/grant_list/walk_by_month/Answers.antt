use Rattle.std.proofs.Common.{[], ◌∷◌, sym, subst, refl}
use Rattle.sqlite_value.specs.declared.value.Value.TheVariants.{Text}
use Rattle.sqlite.specs.Held.{state}
use Rattle.rows_tables.specs.Queries.{Means, TakesParams}
use Rattle.rows_statements.specs.GrantLists.{AreByMonth}
use Rattle.rows_statements.proofs.WalkLemmas.{told_as}
use Rattle.rows_statements.proofs.GrantWalk.{granted_names}
use Rattle.rows_statements.proofs.GrantLists.{by_month_text, by_month_query, by_month_is, by_month_takes, shown_by_month}
use Rattle.rows_statements.proofs.grant_list.walk_by_month.Goals as goal

pub returns-clause-walks : goal.returns-clause-walks
returns-clause-walks g c clean has =
    let old = state g.R.S.Store (g.R.Reads.held c.args.connection.now) in
    let means = subst (λ s. Means s by_month_text by_month_query granted_names 1) (sym has.schema_is) by_month_is in
    let takes = subst (λ s. TakesParams s by_month_query (Text c.args.account ∷ []) 1) (sym has.schema_is) (by_month_takes c.args.account) in
    told_as _ _ old _ _ _ _ (AreByMonth old.now c.args.account) (shown_by_month c.args.account old.now has) c.walk.result
    ((rw c.bytes.ensures.value at (c.walk.ensures.walks clean)) by_month_query granted_names 1 (record { ungrouped = refl; unfolded = refl }) means takes)

pub walk-requires : goal.walk-requires
walk-requires g c =
    rw c.bytes.ensures.value (record { query = by_month_query; no_sums = record { ungrouped = refl; unfolded = refl }; names = granted_names; parameters = 1; means = by_month_is; takes = (by_month_takes c.args.account) })
