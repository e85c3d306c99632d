use Rattle.rows_statements.specs.Rows.{EndsJob}
use Rattle.rows_statements.specs.Changed.{FinishesJob}
use Rattle.rows_statements.specs.JobSums.{charges, reserves}
use Rattle.rows_statements.proofs.Retelling.{told_as}
use Rattle.rows_statements.proofs.SummedJobs.{ended_sum, charges_shown, reserves_shown}
use Rattle.rows_statements.proofs.CountedRows.{ended_counted}
use Rattle.rows_statements.proofs.LeftAlone.{ended_alone, ended_leaves_account}
use Rattle.rows_statements.proofs.OwnRooms.{ended_room}
use Rattle.rows_statements.proofs.job_changes.end_job.Goals as goal

pub returns : goal.returns
returns g c = record { ends = told_as g.S.Store c.args.connection.now c.put_ended.new.connection (EndsJob c.args.account c.args.number c.args.standing.now) (FinishesJob c.args.account c.args.number c.args.standing.now) c.put_ended.result (λ clean has after made. record { room = ended_room c.args.account c.args.number c.args.standing.now _ _ made; account = ended_leaves_account c.args.account c.args.number c.args.standing.now _ _ made; alone = ended_alone c.args.account c.args.number c.args.standing.now _ _ made; reserved = ended_sum reserves c.args.account (reserves_shown c.args.account) c.args.number c.args.standing.now _ _ made; charged = ended_sum charges c.args.account (charges_shown c.args.account) c.args.number c.args.standing.now _ _ made; counted = ended_counted c.args.account c.args.number c.args.standing.now _ _ made }) c.put_ended.ensures.ends }
