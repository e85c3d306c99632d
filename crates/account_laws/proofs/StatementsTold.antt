-- A statement is told by what was told of the jobs.
use Rattle.std.proofs.Common.{◌≡◌, ℕ, ◌-◌, Bool, true, false, cond, ◌++◌, Option, Some, None, option_map, refl, ap, ◌∙◌}
use Rattle.std.specs.Prelude.{count_by}
use Rattle.std.specs.FinMap.{get, values}
use Rattle.std.specs.List.{sum_by}
use Rattle.account_laws.proofs.AsToldSums.{charged_as_told, charged_at, granted_as_told, reserved_as_told}
use Rattle.account_laws.proofs.LinesTold.{answered_so}
use Rattle.account_laws.proofs.MappedValues.{sum_with_each}
use Rattle.account_laws.proofs.ShownJobs.{ended_is, processing_is}
use Rattle.account_laws.specs.AccountsTold.{AccountTold, charged_told, reserved_told}
use Rattle.account_laws.specs.JobsTold.{JobTold, Stage, HasEnded, is_printing}
use Rattle.account_laws.specs.LinesTold.{left_line}
use Rattle.account_laws.specs.StagesTold.{ended_told}
use Rattle.account_laws.specs.StandsAsTold.{AreAsTold, IsAsTold, IsAt, StandsAsTold}
use Rattle.account_laws.specs.StatementsTold as law
use Rattle.account_laws.specs.StatementsTold.{beyond_in, charged_in, ends_in, is_free, month_line}
use Rattle.account_laws.specs.StationAnswers.{is_waiting}
use Rattle.account_machine.specs.declared.event.Reply.TheVariants as reply
use Rattle.account_questions.specs.Quotas.{statement_text}
use Rattle.account_questions.specs.declared.question.About.TheVariants.{Statement}
use Rattle.account_rules.specs.JobStates.{has_ended, is_processing}
use Rattle.account_rules.specs.Quota.{need_of}
use Rattle.account_rules.specs.declared.job.Job.{Job}
use Rattle.account_rules.specs.declared.job.JobState.{JobState}
use Rattle.account_rules.specs.declared.job.JobState.TheVariants.{Held, Pending}
use Rattle.account_rules.specs.declared.job.Standing.{Standing}
use Rattle.account_state.specs.Rooms.{RoomValue}
use Rattle.account_state.specs.Summaries.{beyond_then, charged_then, is_held, is_in_month, is_pending, summary_of}
use Rattle.account_state.specs.declared.summary.Summary.{Summary}

-- ---- of one job

none_of_ended : (how : JobState) → has_ended how ≡ true → (is_held how ≡ false) × (is_pending how ≡ false)
none_of_ended Held is = let no : ⊥ = cc in absurd no
none_of_ended Pending is = let no : ⊥ = cc in absurd no
none_of_ended _ is = (refl, refl)

held_is : (stage : Stage) (s : Standing) → IsAt stage s → is_held s.state ≡ is_waiting stage
held_is (HasEnded how count units since ended) s at = ap is_held at.state ∙ (none_of_ended how at.is_end).0
held_is _ s at = ap is_held at.state

pending_is : (stage : Stage) (s : Standing) → IsAt stage s → is_pending s.state ≡ is_free stage
pending_is (HasEnded how count units since ended) s at = ap is_pending at.state ∙ (none_of_ended how at.is_end).1
pending_is _ s at = ap is_pending at.state

then_is : (month : ℕ) (stage : Stage) → is_in_month month (ended_told stage) ≡ ends_in month stage
then_is month (HasEnded how count units since at) = refl
then_is month _ = refl

ends_then : (month : ℕ) (stage : Stage) (s : Standing) → IsAt stage s → is_in_month month s.ended ≡ ends_in month stage
ends_then month stage s at = ap (is_in_month month) (ended_is stage s at) ∙ then_is month stage

module _ (month number : ℕ) (ticket : JobTold) (room : RoomValue) (job : Job) (is : IsAsTold number ticket room job) where
  charged_is : charged_then month job.standing.ended job.standing.charged ≡ charged_in month ticket
  charged_is =
      let then = ends_then month ticket.stage job.standing is.stage in
      let charged = charged_at ticket.stage job.standing is.stage in
      λ i. cond (then i) (charged i) 0

  beyond_is : beyond_then month job ≡ beyond_in month ticket
  beyond_is =
      let then = ends_then month ticket.stage job.standing is.stage in
      let charged = charged_at ticket.stage job.standing is.stage in
      λ i. cond (then i) (charged i - need_of (is.impressions i) (is.copies i) (is.rated i)) 0

-- ---- of all

module _ (told : AccountTold) (room : RoomValue) (stands : StandsAsTold told room) where
  sums : (f : Job → ℕ) (g : JobTold → ℕ) → ((number : ℕ) (ticket : JobTold) (job : Job) → IsAsTold number ticket room job → f job ≡ g ticket) → sum_by f (values room.jobs) ≡ sum_by g (values told.jobs)
  sums f g same = sum_with_each f g room.jobs told.jobs (λ number. by number (get told.jobs number) (get room.jobs number) (stands.jobs number))
    where
      by : (number : ℕ) (ticket : Option JobTold) (job : Option Job) → AreAsTold number ticket room job → option_map f job ≡ option_map g ticket
      by number None job are = ap (option_map f) are
      by number (Some ticket) None are = absurd are
      by number (Some ticket) (Some job) are = ap Some (same number ticket job are)

  counts : (p : Job → Bool) (q : JobTold → Bool) → ((number : ℕ) (ticket : JobTold) (job : Job) → IsAsTold number ticket room job → p job ≡ q ticket) → sum_by (λ (job : Job). cond (p job) 1 0) (values room.jobs) ≡ sum_by (λ (job : JobTold). cond (q job) 1 0) (values told.jobs)
  counts p q same = sums (λ (job : Job). cond (p job) 1 0) (λ (job : JobTold). cond (q job) 1 0) (λ number ticket job is. ap (λ (b : Bool). cond b 1 0) (same number ticket job is))

-- what the jobs come to, and what of it in a month
abbrev pub summary_told : (month : ℕ) (told : AccountTold) → Summary
summary_told month told = record {
  reserved = reserved_told told;
  charged = charged_told told;
  charged_then = sum_by (charged_in month) (values told.jobs);
  beyond_then = sum_by (beyond_in month) (values told.jobs);
  held = count_by (λ (job : JobTold). is_waiting job.stage) (values told.jobs);
  pending = count_by (λ (job : JobTold). is_free job.stage) (values told.jobs);
  processing = count_by (λ (job : JobTold). is_printing job.stage) (values told.jobs);
  ended_then = count_by (λ (job : JobTold). ends_in month job.stage) (values told.jobs);
}

pub summary_as_told : (told : AccountTold) (room : RoomValue) → StandsAsTold told room → (month : ℕ) → summary_of month (values room.jobs) ≡ summary_told month told
summary_as_told told room stands month =
    let reserved = reserved_as_told told room stands in
    let charged = charged_as_told told room stands in
    let charged_here = sums told room stands (λ (job : Job). charged_then month job.standing.ended job.standing.charged) (charged_in month) (λ number ticket job is. charged_is month number ticket room job is) in
    let beyond_here = sums told room stands (beyond_then month) (beyond_in month) (λ number ticket job is. beyond_is month number ticket room job is) in
    let held = counts told room stands (λ (job : Job). is_held job.standing.state) (λ (job : JobTold). is_waiting job.stage) (λ number ticket job is. held_is ticket.stage job.standing is.stage) in
    let pending = counts told room stands (λ (job : Job). is_pending job.standing.state) (λ (job : JobTold). is_free job.stage) (λ number ticket job is. pending_is ticket.stage job.standing is.stage) in
    let processing = counts told room stands (λ (job : Job). is_processing job.standing.state) (λ (job : JobTold). is_printing job.stage) (λ number ticket job is. processing_is ticket.stage job.standing is.stage) in
    let ended = counts told room stands (λ (job : Job). is_in_month month job.standing.ended) (λ (job : JobTold). ends_in month job.stage) (λ number ticket job is. ends_then month ticket.stage job.standing is.stage) in
    λ i. record {
      reserved = reserved i;
      charged = charged i;
      charged_then = charged_here i;
      beyond_then = beyond_here i;
      held = held i;
      pending = pending i;
      processing = processing i;
      ended_then = ended i;
    }

pub statements_are_told : law.StatementsAreTold
statements_are_told account month =
    answered_so account (Statement month) (λ told. left_line told month ++ month_line told month) (λ told room devices stands known.
    let granted = granted_as_told told room stands month in
    let summary = summary_as_told told room stands month in
    λ i. reply.Line (statement_text (granted i) (summary i)))
