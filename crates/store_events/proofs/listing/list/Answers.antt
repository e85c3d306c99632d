use Rattle.std.proofs.Common.{List, sym, subst, ◌∙◌}
use Rattle.std.specs.List.{AllByRecursion}
use Rattle.account_replies.specs.Responses.{job_groups}
use Rattle.account_asks.specs.Asks.{plain_ask}
use Rattle.account_machine.specs.Queues.{listed_names}
use Rattle.rows_statements.proofs.LeftAlone.{same_rows}
use Rattle.account_rules.specs.declared.job.Job.{Job}
use Rattle.account_state.proofs.FiniteMaps.{all_along}
use Rattle.account_replies.specs.Limits.{IsShowable}
use Rattle.account_replies.specs.Places.{plain_place}
use Rattle.store_events.specs.Answers.{request_done}
use Rattle.store_events.proofs.Found.{showable}
use Rattle.store_events.proofs.Made.{account_in_room}
use Rattle.store_events.proofs.Shown.{listed_so}
use Rattle.store_rounds.proofs.LookLemmas.{read_passed}
use Rattle.store_events.proofs.ServingLemmas.{says}
use Rattle.store_events.proofs.listing.list.Goals as goal

pub jobs_shown-requires-clause-jobs : goal.jobs_shown-requires-clause-jobs
jobs_shown-requires-clause-jobs g c =
    subst (λ (jobs : List Job). AllByRecursion IsShowable jobs) (sym c.as_slice.ensures) (all_along showable c.in_ok-jobs.jobs c.in_ok-jobs.ensures.numbered)

pub returns-clause-served : goal.returns-clause-served
returns-clause-served g c opened =
    let request = c.args.request.now in
    let ask = plain_ask request.ask in
    let jobs = c.as_slice.result.now in
    says _ _ _ _ _ g.S.Store c.args.connection.now c.asked_jobs.new.connection (read_passed g.S.Store _ _ _ c.in_ok-jobs.ensures.reads) (same_rows request.account)
    (request_done ask ask.job (job_groups (plain_place c.place.result) jobs (listed_names ask.wanted))) c.jobs_shown.result c.jobs_shown.ensures.answered c.jobs_shown.ensures.memory
    (λ clean has of held.
    let account = account_in_room _ request.account request.row (opened clean has) of.0 held.room in
    (listed_so of.0 request.account request.now ask request.row account (plain_place c.place.result) c.place.ensures.place jobs (c.as_slice.ensures ∙ c.in_ok-jobs.ensures.listed clean has of.0 held.room), held.room))
