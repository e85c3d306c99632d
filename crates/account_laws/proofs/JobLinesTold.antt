-- The lines of jobs are told by what was told of them.
use Rattle.std.proofs.Common.{◌≡◌, ℕ, Bool, true, cond, not, bytes_eq, List, [], ◌∷◌, ◌++◌, map, filter, take, Option, Some, None, option_map, refl, ap, ◌∙◌}
use Rattle.std.specs.Prelude.{codes, is_none}
use Rattle.std.specs.FinMap.{entries, get, values}
use Rattle.std.specs.Fmt.{decimal}
use Rattle.std.specs.List.{take-map}
use Rattle.account_laws.proofs.EscapedNames.{name_escaped}
use Rattle.account_laws.proofs.KeyedValues.{values-with_keyed}
use Rattle.account_laws.proofs.LinesTold.{answered_so}
use Rattle.account_laws.proofs.ListedJobs.{ended_alike, not_not, unfinished_alike}
use Rattle.account_laws.proofs.MappedValues.{filter_changed}
use Rattle.account_laws.proofs.ToldLists.{lines_changed}
use Rattle.account_laws.proofs.WholeJobs.{jobs_whole}
use Rattle.account_laws.specs.AccountsTold.{AccountTold, rate_told}
use Rattle.account_laws.specs.JobLinesTold as law
use Rattle.account_laws.specs.JobLinesTold.{counts_line, is_for, job_line, jobs_lines, moment_or_dash, moments_line, name_or_dash, password_or_dash, place_line, state_word}
use Rattle.account_laws.specs.JobsTold.{JobTold, Stage, Prints, HasEnded}
use Rattle.account_laws.specs.ListedJobs.{Numbered, latest_first, unfinished_jobs}
use Rattle.account_laws.specs.PagesTold.{is_stopped, whole_job}
use Rattle.account_laws.specs.RefusalTexts.{text_of}
use Rattle.account_laws.specs.StagesTold.{ended_told, started_told, state_told}
use Rattle.account_laws.specs.StandsAsTold.{StandsAsTold}
use Rattle.account_machine.specs.declared.event.Reply.TheVariants as reply
use Rattle.account_questions.specs.JobLines.{counts_text, device_text, job_text, moment_text, password_text, place_text, state_text, times_text}
use Rattle.account_questions.specs.Lists.{jobs_text}
use Rattle.account_questions.specs.Stations.{said_or, waiting_at}
use Rattle.account_questions.specs.declared.question.About.TheVariants.{Ended, Jobs, Waiting}
use Rattle.account_replies.specs.Stations.{known_device}
use Rattle.account_rules.specs.Effects.{is_bound_elsewhere}
use Rattle.account_rules.specs.declared.device.Device.{Device}
use Rattle.account_rules.specs.declared.job.Job.{Job}
use Rattle.account_rules.specs.declared.job.JobState.TheVariants.{Held}
use Rattle.account_rules.specs.declared.refusal.Word.TheVariants.{NoDevice}
use Rattle.account_state.specs.Queues.{completed, not_completed}
use Rattle.account_state.specs.Rooms.{RoomValue}

-- ---- a job's line

word_is : (stage : Stage) → state_text (state_told stage) (is_stopped stage) ≡ state_word stage
word_is (Prints device rate units since true) = refl
word_is (HasEnded Held count units since at) = refl
word_is _ = refl

name_is : (name : Option (List ℕ)) → device_text name ≡ name_or_dash name
name_is None = refl
name_is (Some name) = refl

moment_is : (at : Option ℕ) → moment_text at ≡ moment_or_dash at
moment_is None = refl
moment_is (Some at) = refl

password_is : (password : List ℕ) → password_text password ≡ password_or_dash password
password_is [] = refl
password_is (byte ∷ bytes) = refl

module _ (number : ℕ) (ticket : JobTold) where
  place_is : place_text (whole_job (number, ticket)) ≡ place_line (number, ticket)
  unfolding place_text
  place_is = λ i. codes "job " ++ (decimal number ++ (codes " " ++ (word_is ticket.stage i ++ (codes " " ++ name_is ticket.device i))))

  moments_are : times_text (whole_job (number, ticket)).standing ≡ moments_line ticket
  unfolding times_text
  moments_are = λ i. codes " " ++ (decimal ticket.made ++ (codes " " ++ (moment_is (started_told ticket.stage) i ++ (codes " " ++ moment_is (ended_told ticket.stage) i))))

  counts_are : counts_text (whole_job (number, ticket)).standing ≡ counts_line ticket
  unfolding counts_text
  counts_are = refl

  whole_line : job_text (whole_job (number, ticket)) ≡ job_line (number, ticket)
  whole_line = λ i. place_is i ++ (moments_are i ++ (codes " " ++ (password_is ticket.maker.password i ++ (counts_are i ++ (codes " " ++ name_escaped ticket.maker.name i)))))

-- ---- the jobs that are chosen

for_is : (device : List ℕ) (bound : Option (List ℕ)) → not (is_bound_elsewhere bound device) ≡ is_for device bound
for_is device None = refl
for_is device (Some bound) = not_not (bytes_eq bound device)

module _ (told : AccountTold) (room : RoomValue) (stands : StandsAsTold told room) where
  all_whole : values room.jobs ≡ map whole_job (entries told.jobs)
  all_whole = ap values (jobs_whole told room stands) ∙ values-with_keyed (λ (number : ℕ) (job : JobTold). whole_job (number, job)) told.jobs

  pub going_on_whole : not_completed (values room.jobs) ≡ map whole_job (unfinished_jobs told)
  going_on_whole = ap not_completed all_whole ∙ unfinished_alike told room stands whole_job (λ _. refl) (λ _ _ _. refl)

  pub ended_whole : completed (values room.jobs) ≡ map whole_job (latest_first told)
  ended_whole = ap completed all_whole ∙ ended_alike told room stands whole_job (λ _. refl) (λ _ _ _. refl)

  pub last_whole : (most : ℕ) → take most (completed (values room.jobs)) ≡ map whole_job (take most (latest_first told))
  last_whole most = ap (take most) ended_whole ∙ take-map whole_job most (latest_first told)

  waiting_whole : (device : List ℕ) → waiting_at room device ≡ map whole_job (law.waiting_at told device)
  waiting_whole device =
      ap (filter (λ (job : Job). not (is_bound_elsewhere job.standing.device device))) going_on_whole
      ∙ filter_changed whole_job (λ (job : Job). not (is_bound_elsewhere job.standing.device device)) (unfinished_jobs told)
      ∙ (λ i. map whole_job (filter (λ (it : Numbered). for_is device it.1.device i) (unfinished_jobs told)))

-- where these are whole, so are their lines
same_told : (jobs : List Job) (its : List Numbered) → jobs ≡ map whole_job its → jobs_text jobs ≡ jobs_lines its
same_told jobs its same = ap jobs_text same ∙ lines_changed whole_job job_text job_line (λ it. whole_line it.0 it.1) (codes "jobs") its

-- ---- the laws

pub jobs_are_told : law.JobsAreTold
jobs_are_told account =
    answered_so account Jobs (λ told. jobs_lines (unfinished_jobs told)) (λ told room devices stands known.
    ap reply.Line (same_told (not_completed (values room.jobs)) (unfinished_jobs told) (going_on_whole told room stands)))

pub ended_are_told : law.EndedAreTold
ended_are_told account most =
    answered_so account (Ended most) (λ told. jobs_lines (take most (latest_first told))) (λ told room devices stands known.
    ap reply.Line (same_told (take most (completed (values room.jobs))) (take most (latest_first told)) (last_whole told room stands most)))

pub waiting_is_told : law.WaitingIsTold
waiting_is_told account device =
    answered_so account (Waiting device) (λ told. cond (is_none (get told.on device)) (text_of NoDevice) (jobs_lines (law.waiting_at told device))) (λ told room devices stands known.
    (λ i. said_or (known_device (known device i)) (λ _. reply.Line (same_told (waiting_at room device) (law.waiting_at told device) (waiting_whole told room stands device) i)))
    ∙ by (rate_told told device) (jobs_lines (law.waiting_at told device)) (get told.on device))
  where
    by : (rate : ℕ) (lines : List ℕ) (on : Option Bool)
        → said_or (known_device (option_map (λ (on : Bool). let device : Device = record { name = device; on = on; rate = rate } in device) on)) (λ _. reply.Line lines) ≡ reply.Line (cond (is_none on) (text_of NoDevice) lines)
    by rate lines None = refl
    by rate lines (Some on) = refl
