use Rattle.std.proofs.Common.{[], ◌∷◌, sym, subst}
use Rattle.sqlite_value.specs.declared.value.Value.TheVariants.{Text}
use Rattle.sqlite.specs.Held.{state}
use Rattle.rows_tables.specs.Places.{job_tree}
use Rattle.rows_tables.specs.Cells.{number}
use Rattle.rows_tables.specs.Queries.{Means, TakesParams, of_table}
use Rattle.rows_statements.proofs.JobRows.{find_text, tests, shows, names, find_is, find_takes, gets_job}
use Rattle.rows_statements.proofs.jobs.job_row.Goals as goal

pub returns-clause-gets : goal.returns-clause-gets
returns-clause-gets g c clean has =
    let means = subst (λ s. Means s find_text (of_table job_tree tests shows []) names 2) (sym has.schema_is) find_is in
    let takes = subst (λ s. TakesParams s (of_table job_tree tests shows []) (Text c.args.account ∷ number c.args.job ∷ []) 2) (sym has.schema_is) (find_takes c.args.account c.args.job) in
    gets_job (state g.R.S.Store (g.R.Reads.held c.args.connection.now)) (state g.R.S.Store (g.R.Reads.held c.find_row.new.self)) c.args.account c.args.job has c.find_row.result
    ((rw (c.bytes.ensures.value, c.number.ensures) at (c.find_row.ensures.finds clean)) job_tree tests shows names 2 means takes)

pub find_row-requires : goal.find_row-requires
find_row-requires g c =
    rw (c.bytes.ensures.value, c.number.ensures) (record { tree = job_tree; tests = tests; shows = shows; names = names; parameters = 2; means = find_is; takes = (find_takes c.args.account c.args.job) })
