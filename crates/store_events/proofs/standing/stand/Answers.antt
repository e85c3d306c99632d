use Rattle.std.proofs.Common.{None, sym, ◌∙◌}
use Rattle.std.proofs.lemmas.Result.{err_from_is_err_and}
use Rattle.rows_statements.specs.Changed.{FinishesJob, RestandsJob}
use Rattle.rows_statements.proofs.Retelling.{answered_as, failed_as, told_as}
use Rattle.store_events.specs.ProofKnown.{StandsJob}
use Rattle.store_events.proofs.Found.{finished_stands, restood_stands}
use Rattle.store_events.proofs.standing.stand.Goals as goal

pub returns-then-is_unfinished-clause-stands : goal.returns-then-is_unfinished-clause-stands
returns-then-is_unfinished-clause-stands g c =
    let unfinished = sym c.is_unfinished.ensures ∙ c.if-is_unfinished.true in
    told_as g.S.Store c.args.connection.now c.restand_job.new.connection (RestandsJob c.args.account c.args.job.now.job c.args.standing.now None) (StandsJob c.args.account c.args.job.now c.args.standing.now) c.restand_job.result (λ clean has after made. restood_stands c.args.account c.args.job.now c.args.standing.now c.requires.before c.requires.in_range c.requires.kept unfinished _ after made) c.restand_job.ensures.restands

pub returns-clause-stands : goal.returns-clause-stands
returns-clause-stands g c =
    let ended = sym c.is_unfinished.ensures ∙ c.if-is_unfinished.false in
    answered_as g.S.Store c.args.connection.now c.end_job.new.connection (StandsJob c.args.account c.args.job.now c.args.standing.now) _ _
    (told_as g.S.Store c.args.connection.now c.end_job.new.connection (FinishesJob c.args.account c.args.job.now.job c.args.standing.now) (StandsJob c.args.account c.args.job.now c.args.standing.now) _ (λ clean has after made. finished_stands c.args.account c.args.job.now c.args.standing.now c.requires.before c.requires.in_range c.requires.kept ended _ after made) c.in_ok-end_job.ensures.ends)

pub returns-in_err-end_job-clause-stands : goal.returns-in_err-end_job-clause-stands
returns-in_err-end_job-clause-stands g c =
    let ended = sym c.is_unfinished.ensures ∙ c.if-is_unfinished.false in
    let told = err_from_is_err_and c.from_residual.result c.from_residual.ensures.1 in
    failed_as g.S.Store c.args.connection.now c.end_job.new.connection (StandsJob c.args.account c.args.job.now c.args.standing.now) c.in_err-end_job.field-0.0 _ _ told.1
    (told_as g.S.Store c.args.connection.now c.end_job.new.connection (FinishesJob c.args.account c.args.job.now.job c.args.standing.now) (StandsJob c.args.account c.args.job.now c.args.standing.now) _ (λ clean has after made. finished_stands c.args.account c.args.job.now c.args.standing.now c.requires.before c.requires.in_range c.requires.kept ended _ after made) c.in_err-end_job.ensures.ends)
