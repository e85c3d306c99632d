use Rattle.rows_statements.specs.Rows.{AddsJob}
use Rattle.rows_statements.specs.Changed.{MakesJob}
use Rattle.rows_statements.specs.NewDocuments.{first_of}
use Rattle.rows_statements.specs.JobSums.{charges, reserves}
use Rattle.rows_statements.proofs.Retelling.{told_as}
use Rattle.rows_statements.proofs.SummedJobs.{added_job_sum, charges_shown, reserves_shown}
use Rattle.rows_statements.proofs.CountedRows.{added_job_counted}
use Rattle.rows_statements.proofs.LeftAlone.{added_job_alone}
use Rattle.rows_statements.proofs.OwnRooms.{added_job_account, added_job_room}
use Rattle.rows_statements.proofs.job_changes.make_job.Goals as goal

pub returns-clause-makes : goal.returns-clause-makes
returns-clause-makes g c = told_as g.S.Store c.args.connection.now c.put_job.new.connection (AddsJob c.args.account c.args.job.now (first_of c.args.job.now.job c.args.document)) (MakesJob c.args.account c.args.job.now (first_of c.args.job.now.job c.args.document)) c.put_job.result (λ clean has after made. record { room = added_job_room c.args.account c.args.job.now _ _ _ made; account = added_job_account c.args.account c.args.job.now _ _ _ made; alone = added_job_alone c.args.account c.args.job.now _ _ _ made; reserved = added_job_sum reserves c.args.account (reserves_shown c.args.account) c.args.job.now _ _ _ made; charged = added_job_sum charges c.args.account (charges_shown c.args.account) c.args.job.now _ _ _ made; counted = added_job_counted c.args.account c.args.job.now _ _ _ made }) c.put_job.ensures.adds
