use Rattle.rows_statements.specs.Rows.{Restands}
use Rattle.rows_statements.specs.Changed.{RestandsJob}
use Rattle.rows_statements.specs.NewDocuments.{first_of}
use Rattle.rows_statements.specs.JobSums.{charges, reserves}
use Rattle.rows_statements.proofs.Retelling.{told_as}
use Rattle.rows_statements.proofs.SummedJobs.{restood_sum, charges_shown, reserves_shown}
use Rattle.rows_statements.proofs.CountedRows.{restood_counted}
use Rattle.rows_statements.proofs.LeftAlone.{restood_alone, restood_leaves_account}
use Rattle.rows_statements.proofs.OwnRooms.{restood_room}
use Rattle.rows_statements.proofs.job_changes.restand_job.Goals as goal

pub returns-clause-restands : goal.returns-clause-restands
returns-clause-restands g c = told_as g.S.Store c.args.connection.now c.put_standing.new.connection (Restands c.args.account c.args.number c.args.standing.now (first_of c.args.number c.args.document)) (RestandsJob c.args.account c.args.number c.args.standing.now (first_of c.args.number c.args.document)) c.put_standing.result (λ clean has after made. record { room = restood_room c.args.account c.args.number c.args.standing.now _ _ _ made; account = restood_leaves_account c.args.account c.args.number c.args.standing.now _ _ _ made; alone = restood_alone c.args.account c.args.number c.args.standing.now _ _ _ made; reserved = restood_sum reserves c.args.account (reserves_shown c.args.account) c.args.number c.args.standing.now _ _ _ made; charged = restood_sum charges c.args.account (charges_shown c.args.account) c.args.number c.args.standing.now _ _ _ made; counted = restood_counted c.args.account c.args.number c.args.standing.now _ _ _ made }) c.put_standing.ensures.restands
