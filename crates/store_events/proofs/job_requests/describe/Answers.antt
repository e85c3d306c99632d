use Rattle.std.proofs.Common.{◌≡◌, Option, IfSome, subst, [], ◌∷◌, sym, ◌∙◌}
use Rattle.account_rules.specs.declared.job.Job.{Job}
use Rattle.rows_statements.specs.Queues.{IsNumbered}
use Rattle.store_events.proofs.Found.{showable}
use Rattle.account_asks.specs.Asks.{plain_ask}
use Rattle.store_events.specs.Answers.{request_done}
use Rattle.account_replies.specs.JobAttributes.{job_group}
use Rattle.account_replies.specs.Places.{plain_place}
use Rattle.account_replies.specs.Tables.{asked_names}
use Rattle.rows_statements.proofs.LeftAlone.{same_rows}
use Rattle.store_events.proofs.Made.{account_in_room}
use Rattle.store_rounds.proofs.LookLemmas.{look_passed}
use Rattle.store_events.proofs.ServingLemmas.{says}
use Rattle.store_events.proofs.Shown.{described_so}
use Rattle.store_events.proofs.job_requests.describe.Goals as goal

pub job_shown-requires-clause-job : goal.job_shown-requires-clause-job
job_shown-requires-clause-job g c = showable c.in-Some.job (subst (λ (o : Option Job). IfSome o (λ job. (job.job ≡ c.args.request.now.ask.job) × IsNumbered job)) c.in-Some.is c.in_ok-job.ensures.in_range).1

pub returns-clause-served : goal.returns-clause-served
returns-clause-served g c opened =
    let request = c.args.request.now in
    let ask = plain_ask request.ask in
    let old = c.args.connection.now in
    let mid = c.look_up.new.connection in
    let job = c.in-Some.job in
    let looked = c.in_ok-job.ensures in
    let numbered = (subst (λ (o : Option Job). IfSome o (λ job. (job.job ≡ c.args.request.now.ask.job) × IsNumbered job)) c.in-Some.is looked.in_range).0 in
    says _ _ _ _ _ g.S.Store old mid (look_passed g.S.Store old mid _ looked.looks) (same_rows request.account)
    (request_done ask job.job (job_group (plain_place c.place.result) job (asked_names c.wanted_names.result) ∷ [])) c.job_shown.result c.job_shown.ensures.answered c.job_shown.ensures.memory
    (λ clean has of held.
    let account = account_in_room _ request.account request.row (opened clean has) of.0 held.room in
    (described_so of.0 request.account request.now ask request.row account (plain_place c.place.result) c.place.ensures.place job numbered (sym (looked.found clean has of.0 held.room) ∙ c.in-Some.is) _ c.wanted_names.ensures, held.room))
