-- What was told before makes each deed possible.
use Rattle.std.proofs.Common.{◌≡◌, ◌*◌, ℕ, ℤ, pos, ◌≤ℤ◌, Bool, true, false, cond, List, [], ◌∷◌, ◌++◌, nat_lt, length, Option, Some, None, Ok, refl, sym, ap, subst, ◌∙◌, arith, append-nil, append_assoc}
use Rattle.std.specs.FinMap.{get}
use Rattle.std.proofs.lemmas.Option.{none-some}
use Rattle.ipp_coding.specs.Limits.{header_length}
use Rattle.account_asks.specs.Asks.{PlainAsk}
use Rattle.account_asks.specs.declared.operation.Operation.{Operation}
use Rattle.account_asks.specs.declared.operation.Operation.TheVariants as asks
use Rattle.account_machine.specs.Events.{AccountEvent, DeviceEvent, OfAccount, OfDevice, Open, Ipp, Release, Start, Settle, Grant, Switch, Rate}
use Rattle.account_machine.specs.JobRequests.{has_password}
use Rattle.account_machine.specs.Machine.{answered}
use Rattle.account_machine.specs.declared.event.Reply.{Reply}
use Rattle.account_laws.proofs.AsTold.{AccountKeeps, Keeps, all_keep, counts_alike, deed_done, found, makes_one_job, no_deed, rate_is_told, reads_no_deed}
use Rattle.account_laws.proofs.AsToldSums.{left_as_told}
use Rattle.account_laws.proofs.Changes.{Makes, refuses, reads, makes, takes, acts, releases, starts, settles, grants, act_asked, makes_one, ready_is}
use Rattle.account_laws.proofs.DeedFinds.{IsPrinted, none_next, printed_if_settled, same_act, waits_if_released}
use Rattle.account_lives.proofs.LifeLemmas.{front_of_life, unopened_answer}
use Rattle.account_laws.specs.AccountsTold.{AccountTold, account_told, left_told, rate_told}
use Rattle.account_laws.specs.Deeds.{Deed, Made, Freed, Released, Settled, Granted, Switched, Rated, NoDeed, account_deed, asked_deed, deed_of, device_deed, moment_of}
use Rattle.account_laws.specs.JobsTold.{JobTold, Stage, Waits, need_told}
use Rattle.account_lives.specs.Lives.{Exchange, IsLife, Life}
use Rattle.account_laws.specs.StandsAsTold.{IsAsTold, IsAt, device_told}
use Rattle.account_laws.specs.StationAnswers.{need_at}
use Rattle.account_laws.specs.Told.{is_ok}
use Rattle.account_rules.specs.Acts.{Act, ReleaseJob, StationRelease}
use Rattle.account_rules.specs.Devices.{Devices}
use Rattle.account_rules.specs.Effects.{impressions_of}
use Rattle.account_rules.specs.Moves.{move}
use Rattle.account_rules.specs.declared.job.Job.{Job}
use Rattle.account_rules.specs.declared.job.JobState.TheVariants.{Held}
use Rattle.account_rules.specs.declared.job.Standing.{Standing}
use Rattle.account_state.specs.Rooms.{RoomValue}
use Rattle.account_state.specs.Sums.{left_in}

-- ---- what is known of what was told before a deed

abbrev pub IsWaits : Stage → Type 0
IsWaits Waits = Unit {0}
IsWaits _ = ⊥

-- a job that waits needs so much at most as is left
abbrev pub HasLeft : (need : ℕ) (left : ℤ) → Stage → Type 0
HasLeft need left Waits = pos need ≤ℤ left
HasLeft need left _ = Unit {0}

-- the job that a deed names was told of
pub record IsTold (told : AccountTold) (number : ℕ) (Is : JobTold → Type 0) : Type 0 where
  pub job : JobTold
  pub is_told : get told.jobs number ≡ Some job
  pub is : Is job

abbrev pub IsFit : (told : AccountTold) (now : ℕ) → Deed → Type 0
IsFit told now (Made ask) = get told.jobs told.next ≡ None
IsFit told now (Freed number) = IsTold told number (λ (job : JobTold). HasLeft (need_told job.impressions 1 job) (left_told told now) job.stage)
IsFit told now (Released device number handed_in) = IsTold told number (λ (job : JobTold). IsWaits job.stage × HasLeft (need_at told device handed_in job) (left_told told now) job.stage)
IsFit told now (Settled device number count failed) = IsTold told number (λ (job : JobTold). IsPrinted job.stage)
IsFit told now (Granted month pages) = get told.grants month ≡ None
IsFit told now _ = Unit {0}

-- ---- by the table of states

freed_left : (has_password : Bool) (left : ℤ) (s next : Standing) → s.state ≡ Held → move (ReleaseJob has_password left) s ≡ Ok next → pos (s.impressions * s.copies * 1) ≤ℤ left
freed_left has_password left s next held goes = grind arith

released_left : (kept device given : List ℕ) (handed_in rate : ℕ) (left : ℤ) (s next : Standing) → move (StationRelease kept device given handed_in rate left) s ≡ Ok next → pos (impressions_of s handed_in * s.copies * rate) ≤ℤ left
released_left kept device given handed_in rate left s next goes = grind arith

-- ---- of an account that is open

module _ (told : AccountTold) (room : RoomValue) (devices : Devices) (known : (name : List ℕ) → get devices name ≡ device_told told name) (keeps : Keeps told room) (now : ℕ) (account : List ℕ) where
  freed_fit : (number : ℕ) (job : Job) (standing : Standing) → get room.jobs number ≡ Some job → move (ReleaseJob (has_password job) (left_in room now)) job.standing ≡ Ok standing → IsFit told now (Freed number)
  freed_fit number job standing there goes =
      let at = found number told room job keeps.stands there in
      record { job = at.ticket; is_told = at.is_told; is = by at.ticket at.ticket.stage at.is.stage at.is }
    where
      by : (ticket : JobTold) (stage : Stage) → IsAt stage job.standing → IsAsTold number ticket room job → HasLeft (need_told ticket.impressions 1 ticket) (left_told told now) stage
      by ticket Waits it is =
          subst (λ (left : ℤ). pos (need_told ticket.impressions 1 ticket) ≤ℤ left) (left_as_told told room keeps.stands now)
          (subst (λ (need : ℕ). pos need ≤ℤ left_in room now) (λ i. is.impressions i * is.copies i * 1) (freed_left (has_password job) (left_in room now) job.standing standing it.state goes))
      by ticket _ it is = tt

  asked_fit : (ask : PlainAsk) (job : Job) (it : Act) (standing : Standing) → get room.jobs ask.job ≡ Some job → (operation : Operation) → act_asked room now job operation ≡ Some it → move it job.standing ≡ Ok standing → IsFit told now (asked_deed ask operation)
  asked_fit ask job it standing there asks.CancelJob is goes = tt
  asked_fit ask job it standing there asks.HoldJob is goes = tt
  asked_fit ask job it standing there asks.ReleaseJob is goes = freed_fit ask.job job standing there (same_act (ReleaseJob (has_password job) (left_in room now)) it job.standing standing is goes)
  asked_fit ask job it standing there _ is goes = absurd (none-some it is)

  fit_if_made : (event : AccountEvent) (said : Reply) (after : RoomValue) → Makes room devices now account event said after → IsFit told now (account_deed account event said)
  fit_if_made _ _ _ (refuses event said undone isnt none) = subst (IsFit told now) (sym (no_deed account event said undone isnt none)) tt
  fit_if_made _ _ _ (reads body ask text read only) = subst (IsFit told now) (sym (reads_no_deed account body text ask read only)) tt
  fit_if_made _ _ _ (makes body ask text read a_job accepted done) = subst (IsFit told now) (sym (deed_done account body text ask read done ∙ makes_one_job ask ask.operation a_job)) (none_next told room keeps)
  fit_if_made _ _ _ (takes body ask text job standing read sends there goes done) = subst (IsFit told now) (sym (deed_done account body text ask read done ∙ ap (asked_deed ask) sends)) tt
  fit_if_made _ _ _ (acts body ask text job it standing read there is_act goes done) = subst (IsFit told now) (sym (deed_done account body text ask read done)) (asked_fit ask job it standing there ask.operation is_act goes)
  fit_if_made _ _ _ (releases device number password impressions ready job standing is_ready there goes) =
      let at = found number told room job keeps.stands there in
      let rate : ready.rate ≡ rate_told told device = rate_is_told told device ready (sym (known device) ∙ ready_is (get devices device) ready is_ready) in
      let needs : impressions_of job.standing impressions * job.standing.copies * ready.rate ≡ need_at told device impressions at.ticket = λ i. counts_alike job.standing impressions at.ticket at.is.impressions i * at.is.copies i * rate i in
      let waits = waits_if_released job.password device password impressions ready.rate (left_in room now) at.ticket.stage job.standing standing at.is.stage goes in
      record {
        job = at.ticket;
        is_told = at.is_told;
        is = subst (λ (stage : Stage). IsWaits stage × HasLeft (need_at told device impressions at.ticket) (left_told told now) stage) (sym waits) (
          tt,
          subst (λ (left : ℤ). pos (need_at told device impressions at.ticket) ≤ℤ left) (left_as_told told room keeps.stands now)
              (subst (λ (need : ℕ). pos need ≤ℤ left_in room now) needs (released_left job.password device password impressions ready.rate (left_in room now) job.standing standing goes)),
        );
      }
  fit_if_made _ _ _ (starts device number ready job standing is_ready there goes) = tt
  fit_if_made _ _ _ (settles device number count failed of_it job standing is_known there goes) =
      let at = found number told room job keeps.stands there in
      record { job = at.ticket; is_told = at.is_told; is = printed_if_settled device count failed now at.ticket.stage job.standing standing at.is.stage goes }
  fit_if_made _ _ _ (grants month pages new) = sym (keeps.stands.grants month) ∙ new

-- ---- of each exchange

account_fit : (told : AccountTold) (room : Option RoomValue) (devices : Devices) → ((name : List ℕ) → get devices name ≡ device_told told name) → (now : ℕ) (account : List ℕ) (it : AccountEvent) → AccountKeeps told room
    → IsFit told now (account_deed account it (answered room devices now (OfAccount account it)).reply)
account_fit told None devices known now account Open was = tt
account_fit told None devices known now account (Ipp body) was =
    (elim (nat_lt (length body) header_length) as (λ (b : Bool). IsFit told now (account_deed account (Ipp body) (unopened_answer b).reply)) [ true ↦ tt | false ↦ tt ])
account_fit told None devices known now account (Release device number password impressions) was = tt
account_fit told None devices known now account (Start device number) was = tt
account_fit told None devices known now account (Settle device number impressions failed) was = tt
account_fit told None devices known now account (Grant month pages) was = tt
account_fit told (Some room) devices known now account it keeps = fit_if_made told room devices known keeps now account it _ _ (makes_one room devices now account it)

device_fit : (told : AccountTold) (now : ℕ) (device : List ℕ) (it : DeviceEvent) (said : Reply) → IsFit told now (device_deed device it said)
device_fit told now device (Switch on) said = elim (is_ok said) as (λ (b : Bool). IsFit told now (cond b (Switched device on) NoDeed)) [ true ↦ tt | false ↦ tt ]
device_fit told now device (Rate units) said = elim (is_ok said) as (λ (b : Bool). IsFit told now (cond b (Rated device units) NoDeed)) [ true ↦ tt | false ↦ tt ]

pub deeds_fit : (life : Life) (room : Option RoomValue) (devices : Devices) → IsLife life room devices → (past later : Life) (x : Exchange) → life ≡ past ++ x ∷ later → IsFit (account_told past) (moment_of x) (deed_of x)
deeds_fit life room devices is past later ((now, OfAccount account it), said) here =
    let at = front_of_life life past later ((now, OfAccount account it), said) room devices is here in
    let all = all_keep past at.room at.devices at.first in
    subst (λ (said : Reply). IsFit (account_told past) now (account_deed account it said)) (sym at.rest.0) (account_fit (account_told past) at.room at.devices all.knows.known now account it all.account)
deeds_fit life room devices is past later ((now, OfDevice device it), said) here = device_fit (account_told past) now device it said

-- ---- over a life

-- what holds where nothing was told and is kept by each deed that fits holds of each life
pub by_deeds : (Holds : Life → Type 0) → Holds [] → ((past : Life) (x : Exchange) → IsFit (account_told past) (moment_of x) (deed_of x) → Holds past → Holds (past ++ x ∷ []))
    → (life : Life) (room : Option RoomValue) (devices : Devices) → IsLife life room devices → Holds life
by_deeds Holds begun kept life room devices is = on life [] refl begun
  where
    on : (rest past : Life) → life ≡ past ++ rest → Holds past → Holds life
    on [] past same holds = subst Holds (sym (same ∙ append-nil past)) holds
    on (x ∷ rest) past same holds = on rest (past ++ x ∷ []) (same ∙ sym (append_assoc past (x ∷ []) rest)) (kept past x (deeds_fit life room devices is past rest x same) holds)
