-- Your page offers the release of a job exactly where that would be done.
use Rattle.std.proofs.Common.{◌≡◌, ℕ, ℤ, Bool, true, true≢false, cond, List, [], Option, Some, None, Result, Ok, Err, refl, sym, ap, subst, ◌∙◌}
use Rattle.std.specs.FinMap.{FinMap, get, insert}
use Rattle.std.specs.Ordering.{nat_cmp}
use Rattle.std.proofs.lemmas.Grind.{common_steps}
use Rattle.std.proofs.Common.{arith}
use Rattle.ipp_coding.specs.Reading.{header_in}
use Rattle.account_asks.specs.Asks.{PlainAsk, PlainRefusal, ask_of}
use Rattle.account_asks.specs.declared.operation.Operation.{Operation}
use Rattle.account_laws.proofs.DoneAnswers.{put_there}
use Rattle.account_laws.proofs.DoneWhere.{is_long}
use Rattle.account_laws.proofs.Statuses.{RefusesByError, move_errs}
use Rattle.account_laws.proofs.Tellings.{tells_error, tells_success}
use Rattle.account_laws.specs.OfferedReleases.{OffersAsAnswered, ReleasesAreOffered, ReleasesJob}
use Rattle.account_machine.specs.Events.{OfAccount, Ipp}
use Rattle.account_machine.specs.JobActs.{job_or_refusal}
use Rattle.account_machine.specs.JobRequests.{acted, has_password}
use Rattle.account_machine.specs.Machine.{answered_open, responded, responded_to}
use Rattle.account_machine.specs.Requests.{Response}
use Rattle.account_machine.specs.Steps.{Step, and_then, with_moved}
use Rattle.account_machine.specs.Verdicts.{short_refused}
use Rattle.account_machine.specs.declared.event.Reply.TheVariants as reply
use Rattle.account_questions.specs.Pages.{owner_of}
use Rattle.account_rules.specs.Acts.{ReleaseJob}
use Rattle.account_rules.specs.Devices.{Devices}
use Rattle.account_rules.specs.JobStates.{is_unfinished}
use Rattle.account_rules.specs.Months.{month_at}
use Rattle.account_rules.specs.Moves.{move}
use Rattle.account_rules.specs.declared.job.Job.{Job}
use Rattle.account_rules.specs.declared.job.JobState.TheVariants.{Held}
use Rattle.account_rules.specs.declared.job.Standing.{Standing}
use Rattle.account_rules.specs.declared.refusal.Refusal.{Refusal}
use Rattle.account_state.proofs.KeptRooms.{restood_there}
use Rattle.account_state.specs.Changes.{with_ended, with_standing}
use Rattle.account_state.specs.Rooms.{RoomValue}
use Rattle.account_state.specs.Sums.{left_in}
use Rattle.page_pages.specs.Owners.{terms_of}
use Rattle.page_pages.specs.declared.outcome.Outcome.{Outcome}
use Rattle.page_pages.specs.declared.owner.Owner.{Owner}
use Rattle.page_pages.proofs.Buttons.{buttons_release}

-- what is done is held no more: it is not over
goes_on : (left : ℤ) (job : Job) (standing : Standing) → job.standing.state ≡ Held → move (ReleaseJob (has_password job) left) job.standing ≡ Ok standing → is_unfinished standing.state ≡ true
goes_on left job standing held moved = grind (arith, common_steps)

abbrev step_of : Response → Step
step_of response = record { reply = reply.Ipp response.text; verdict = response.verdict; room = response.room }

module _ (room : RoomValue) (devices : Devices) (now : ℕ) (account body : List ℕ) (job : Job) (there : get room.jobs job.job ≡ Some job) (held : job.standing.state ≡ Held) (asked : ReleasesJob account body job.job) where
  abbrev ask : PlainAsk
  ask = asked.ask

  abbrev decided : Result Standing Refusal
  decided = move (ReleaseJob (has_password job) (left_in room now)) job.standing

  its_own : get room.jobs ask.job ≡ Some job
  its_own = ap (get room.jobs) asked.of_job ∙ there

  abbrev step : Step
  step = answered_open room devices now (OfAccount account (Ipp body))

  step_is : step ≡ step_of (acted room ask decided)
  step_is =
      ap (λ (short : Bool). cond {A = Step} short (record { reply = reply.Short; verdict = short_refused; room = room }) (step_of (responded_to room devices account now (header_in body) (ask_of account body)))) (is_long account body ask asked.asks)
      ∙ (ap (λ (read : Result PlainAsk PlainRefusal). step_of (responded_to room devices account now (header_in body) read)) asked.asks
      ∙ (ap (λ (operation : Operation). step_of (responded room devices account now ask operation)) asked.releases
      ∙ ap (λ (found : Option Job). step_of (acted room ask (and_then (job_or_refusal found) (λ (job : Job). move (ReleaseJob (has_password job) (left_in room now)) job.standing)))) its_own))

  -- where it is done the job stands so
  moved_there : (standing : Standing) → is_unfinished standing.state ≡ true → get (with_moved room ask.job standing).jobs job.job ≡ Some (record job { standing = standing })
  moved_there standing on =
      ap (λ (b : Bool). get (cond {A = RoomValue} b (with_standing room ask.job standing None) (with_ended room ask.job standing)).jobs job.job) on
      ∙ (ap (λ (jobs : FinMap nat_cmp Job). get jobs job.job) (restood_there room.jobs ask.job standing job its_own)
      ∙ (ap (λ (n : ℕ). get (insert room.jobs n (record job { standing = standing })) job.job) asked.of_job
      ∙ put_there room.jobs job.job (record job { standing = standing })))

  module _ (outcome : Option Outcome) (stays needs_password : Bool) where
    abbrev page : Owner
    page = owner_of account (month_at now) outcome stays needs_password room devices

    by : (so : Result Standing Refusal) → decided ≡ so → RefusesByError so → OffersAsAnswered page job (step_of (acted room ask so))
    by (Ok standing) is errs = (
      λ done. record {
        released = record job { standing = standing };
        is_there = moved_there standing (goes_on (left_in room now) job standing held is);
        offers = buttons_release.released account (terms_of page) job standing held is;
      },
      λ refused. absurd (true≢false (sym (tells_success ask.header ask.unsupported []) ∙ refused)),
    )
    by (Err refusal) is errs = (
      λ done. absurd (true≢false (sym done ∙ tells_error ask.header refusal ask.unsupported errs)),
      λ refused. buttons_release.refused account (terms_of page) job refusal held is,
    )

    offered : OffersAsAnswered page job step
    offered = subst (OffersAsAnswered page job) (sym step_is) (by decided refl (move_errs (ReleaseJob (has_password job) (left_in room now)) job.standing))

pub releases_are_offered : ReleasesAreOffered
releases_are_offered room devices now account body outcome stays needs_password job there held asked =
    offered room devices now account body job there held asked outcome stays needs_password
