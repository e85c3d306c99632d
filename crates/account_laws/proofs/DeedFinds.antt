-- What each exchange that was done found, by what was told before it.
use Rattle.std.proofs.Common.{bytes_eq, ◌≡◌, ◌⊎◌, ℕ, ℤ, Bool, true, false, cond, ◌==◌, not, List, [], ◌∷◌, ◌++◌, map, length, Option, Some, None, option_map, IsSomeAnd, Result, Ok, Err, inl, inr, refl, sym, ap, subst, ◌∙◌, arith, append_assoc, append-nil, nat_lt}
use Rattle.std.specs.FinMap.{empty, get}
use Rattle.std.specs.List.{fold}
use Rattle.std.proofs.lemmas.Bool.{eqb-true, not-false}
use Rattle.std.proofs.lemmas.Bool.Decides.{nat_tests}
use Rattle.std.proofs.lemmas.Grind.{common_steps}
use Rattle.std.proofs.lemmas.Slice.Eq.{bytes_eq-Decides}
use Rattle.std.proofs.lemmas.Option.{none-some, same_Some}
use Rattle.ipp_coding.specs.Limits.{header_length}
use Rattle.account_asks.specs.Asks.{PlainAsk}
use Rattle.account_asks.specs.declared.operation.Operation.{Operation}
use Rattle.account_asks.specs.declared.operation.Operation.TheVariants.{SendDocument}
use Rattle.account_asks.specs.declared.operation.Operation.TheVariants as asks
use Rattle.account_machine.specs.DeviceEvents.{device_answered}
use Rattle.account_machine.specs.Events.{AccountEvent, DeviceEvent, OfAccount, OfDevice, Ipp, Switch, Rate}
use Rattle.account_machine.specs.JobRequests.{has_data, has_password}
use Rattle.account_machine.specs.Machine.{answered, answered_unopened}
use Rattle.account_machine.specs.declared.event.Reply.{Reply}
use Rattle.account_machine.specs.declared.event.Reply.TheVariants as reply
use Rattle.account_laws.proofs.AsTold.{Keeps, all_keep, deed_done, found, makes_one_job, no_deed, reads_no_deed, told_more}
use Rattle.account_laws.proofs.Changes.{Makes, refuses, reads, makes, takes, acts, releases, starts, settles, grants, act_asked, makes_one, ready_is}
use Rattle.account_laws.proofs.DocumentsOfJobs as documents
use Rattle.account_laws.proofs.DocumentsOfJobs.{AreOfJobs, has_of_jobs}
use Rattle.account_lives.proofs.LifeLemmas.{account_exchange, device_exchange, leads_on, of_each_life, unopened_answer}
use Rattle.account_laws.proofs.Moved.{document_taken, same_copies, was_unfinished}
use Rattle.account_laws.specs.AccountsTold.{AccountTold, account_told, after_exchange, nothing_told, rate_told}
use Rattle.account_laws.specs.Deeds.{Deed, Made, Brought, Canceled, HeldBack, Freed, Released, Started, Settled, Switched, Rated, NoDeed, account_deed, asked_deed, deed_of, device_deed}
use Rattle.account_laws.specs.HandedByLeave.{given_in}
use Rattle.account_laws.specs.JobsTold.{JobTold, Stage, Waits, IsFree, Prints, HasEnded, is_over}
use Rattle.account_lives.specs.Lives.{Exchange, IsLife, Life}
use Rattle.account_laws.specs.StandsAsTold.{AreAsTold, IsAsTold, IsAt, device_told}
use Rattle.account_laws.specs.StationAnswers.{part_told}
use Rattle.account_laws.specs.Told.{is_ok}
use Rattle.account_replies.specs.Parts.{part_of}
use Rattle.account_replies.specs.Stations.{ready_device}
use Rattle.account_rules.specs.Acts.{Act, CancelJob, HoldJob, ReleaseJob, StationRelease, StationSettle, StationStart}
use Rattle.account_rules.specs.Acts as act
use Rattle.account_rules.specs.Devices.{Devices}
use Rattle.account_rules.specs.Effects.{is_bound_elsewhere, is_wrong_password}
use Rattle.account_rules.specs.JobStates.{has_ended, is_unfinished}
use Rattle.account_rules.specs.Moves.{move}
use Rattle.account_rules.specs.declared.device.Device.{Device}
use Rattle.account_rules.specs.declared.job.Job.{Job}
use Rattle.account_rules.specs.declared.job.JobState.{JobState}
use Rattle.account_rules.specs.declared.job.JobState.TheVariants.{Held}
use Rattle.account_rules.specs.declared.job.Standing.{Standing}
use Rattle.account_rules.specs.declared.refusal.Word.{Word}
use Rattle.account_rules.specs.declared.refusal.Word.TheVariants.{DeviceOff}
use Rattle.account_rules.proofs.PasswordLemmas.{right_password}
use Rattle.account_state.specs.Documents.{documents_of}
use Rattle.account_state.specs.Rooms.{RoomValue}
use Rattle.account_state.specs.Sums.{left_in}

-- ---- what a deed finds

-- a stage from which a device may begin to print
abbrev pub IsFreeFor : (device : List ℕ) → Stage → Type 0
IsFreeFor device (IsFree for rate units) = (for ≡ None) ⊎ (for ≡ Some device)
IsFreeFor device _ = ⊥

-- one in which some device prints
abbrev pub IsPrinted : Stage → Type 0
IsPrinted (Prints device rate units since is_canceled) = Unit {0}
IsPrinted _ = ⊥

-- one that a hold can take back
abbrev pub CanBeHeld : Stage → Type 0
CanBeHeld Waits = Unit {0}
CanBeHeld (IsFree device rate units) = Unit {0}
CanBeHeld _ = ⊥

-- the job takes documents
pub record TakesDocuments (job : JobTold) : Type 0 where
  pub waits : job.stage ≡ Waits
  pub is_open : job.is_open ≡ true

pub record CanBeFreed (job : JobTold) : Type 0 where
  pub goes_on : is_over job.stage ≡ false
  pub no_password : job.stage ≡ Waits → job.maker.password ≡ []

pub record CanBeReleased (given : List ℕ) (job : JobTold) : Type 0 where
  pub waits : job.stage ≡ Waits
  pub password_met : (job.maker.password ≡ []) ⊎ (given ≡ job.maker.password)

pub record CanBeStarted (device : List ℕ) (number : ℕ) (said : Reply) (job : JobTold) : Type 0 where
  pub is_free : IsFreeFor device job.stage
  pub handed : said ≡ reply.Documents (map (part_told number job.maker.copies) job.documents)

abbrev pub Finds : AccountTold → Exchange → Deed → Type 0
Finds told x (Made ask) = get told.jobs told.next ≡ None
Finds told x (Brought ask) = IsSomeAnd (get told.jobs ask.job) TakesDocuments
Finds told x (Canceled number) = IsSomeAnd (get told.jobs number) (λ (job : JobTold). is_over job.stage ≡ false)
Finds told x (HeldBack number) = IsSomeAnd (get told.jobs number) (λ (job : JobTold). CanBeHeld job.stage)
Finds told x (Freed number) = IsSomeAnd (get told.jobs number) CanBeFreed
Finds told x (Released device number impressions) = IsSomeAnd (get told.jobs number) (CanBeReleased (given_in x.0.1))
Finds told x (Started device number) = (get told.on device ≡ Some true) × IsSomeAnd (get told.jobs number) (CanBeStarted device number x.1)
Finds told x (Settled device number impressions failed) = IsSomeAnd (get told.jobs number) (λ (job : JobTold). IsPrinted job.stage)
Finds told x _ = Unit {0}

-- what is found of a job is of the one that is there
pub found_it : (told : AccountTold) (q number : ℕ) (Is : JobTold → Type 0) (job : JobTold) → get told.jobs q ≡ Some job → (q == number) ≡ true → IsSomeAnd (get told.jobs number) Is → Is job
found_it told q number Is job here same finds = subst (λ (o : Option JobTold). IsSomeAnd o Is) (ap (get told.jobs) (sym (eqb-true q number same)) ∙ here) finds

-- ---- stages, by the state in which a job stands

over_unfinished : (how : JobState) (s : Standing) → s.state ≡ how → has_ended how ≡ true → is_unfinished s.state ≡ true → ⊥
over_unfinished how s state ended unfinished = grind (arith, common_steps)

waits_if_held : (stage : Stage) (s : Standing) → IsAt stage s → s.state ≡ Held → stage ≡ Waits
waits_if_held Waits s at held = refl
waits_if_held (IsFree device rate units) s at held = let no : ⊥ = let state = at.state in cc in absurd no
waits_if_held (Prints device rate units since is_canceled) s at held = let no : ⊥ = let state = at.state in cc in absurd no
waits_if_held (HasEnded how count units since ended) s at held = absurd (over_unfinished how s at.state at.is_end (ap is_unfinished held))

held_if_waits : (stage : Stage) (s : Standing) → IsAt stage s → stage ≡ Waits → s.state ≡ Held
held_if_waits Waits s at waits = at.state
held_if_waits _ s at waits = let no : ⊥ = cc in absurd no

goes_on_if_unfinished : (stage : Stage) (s : Standing) → IsAt stage s → is_unfinished s.state ≡ true → is_over stage ≡ false
goes_on_if_unfinished (HasEnded how count units since ended) s at unfinished = absurd (over_unfinished how s at.state at.is_end unfinished)
goes_on_if_unfinished _ s at unfinished = refl

holds_if_moved : (stage : Stage) (s next : Standing) → IsAt stage s → move HoldJob s ≡ Ok next → CanBeHeld stage
holds_if_moved Waits s next at goes = tt
holds_if_moved (IsFree device rate units) s next at goes = tt
holds_if_moved (Prints device rate units since is_canceled) s next at goes = absurd (grind (arith, common_steps))
holds_if_moved (HasEnded how count units since ended) s next at goes = absurd (over_unfinished how s at.state at.is_end (was_unfinished HoldJob s next goes))

-- the device that a job is bound to, or none
bound_here : (bound : Option (List ℕ)) (device : List ℕ) → is_bound_elsewhere bound device ≡ false → (bound ≡ None) ⊎ (bound ≡ Some device)
bound_here None device is = inl refl
bound_here (Some bound) device is = inr (ap Some ((bytes_eq-Decides bound device).0 (not-false (bytes_eq bound device) is)))

free_if_started : (device : List ℕ) (rate now : ℕ) (stage : Stage) (s next : Standing) → IsAt stage s → move (StationStart device rate now) s ≡ Ok next → IsFreeFor device stage
free_if_started device rate now Waits s next at goes = absurd (grind (arith, common_steps))
free_if_started device rate now (IsFree for at_rate units) s next at goes =
    let here : is_bound_elsewhere s.device device ≡ false = grind (arith, common_steps) in
    bound_here for device (ap (λ (o : Option (List ℕ)). is_bound_elsewhere o device) (sym at.bound) ∙ here)
free_if_started device rate now (Prints by at_rate units since is_canceled) s next at goes = absurd (grind (arith, common_steps))
free_if_started device rate now (HasEnded how count units since ended) s next at goes = absurd (over_unfinished how s at.state at.is_end (was_unfinished (StationStart device rate now) s next goes))

pub printed_if_settled : (device : List ℕ) (count : ℕ) (failed : Bool) (now : ℕ) (stage : Stage) (s next : Standing) → IsAt stage s → move (StationSettle device count failed now) s ≡ Ok next → IsPrinted stage
printed_if_settled device count failed now Waits s next at goes = absurd (grind (arith, common_steps))
printed_if_settled device count failed now (IsFree for at_rate units) s next at goes = absurd (grind (arith, common_steps))
printed_if_settled device count failed now (Prints by at_rate units since is_canceled) s next at goes = tt
printed_if_settled device count failed now (HasEnded how counted units since ended) s next at goes = absurd (over_unfinished how s at.state at.is_end (was_unfinished (StationSettle device count failed now) s next goes))

pub waits_if_released : (kept device given : List ℕ) (handed_in rate : ℕ) (left : ℤ) (stage : Stage) (s next : Standing) → IsAt stage s → move (StationRelease kept device given handed_in rate left) s ≡ Ok next → stage ≡ Waits
waits_if_released kept device given handed_in rate left stage s next at goes = waits_if_held stage s at (let held : s.state ≡ Held = grind (arith, common_steps) in held)

right_if_released : (kept device given : List ℕ) (handed_in rate : ℕ) (left : ℤ) (s next : Standing) → move (StationRelease kept device given handed_in rate left) s ≡ Ok next → is_wrong_password kept given ≡ false
right_if_released kept device given handed_in rate left s next goes = grind (arith, common_steps)

none_if_freed : (job : Job) (left : ℤ) (next : Standing) → move (ReleaseJob (has_password job) left) job.standing ≡ Ok next → job.standing.state ≡ Held → has_password job ≡ false
none_if_freed job left next goes held = by (has_password job) goes
  where
    by : (has : Bool) → move (ReleaseJob has left) job.standing ≡ Ok next → has ≡ false
    by has goes = grind (arith, common_steps)

empty_if_none : (password : List ℕ) → not (length password == 0) ≡ false → password ≡ []
empty_if_none [] none = refl
empty_if_none (byte ∷ bytes) none = absurd (grind (arith, nat_tests))

open_if_taken : (last some_data : Bool) (s next : Standing) → move (act.SendDocument last some_data) s ≡ Ok next → s.is_open ≡ true
open_if_taken last some_data s next goes = grind (arith, common_steps)

-- ---- a device that is ready is on, as it was told

on_if_ready : (found : Option Device) (ready : Device) → ready_device found ≡ Ok ready → ready.on ≡ true
on_if_ready None ready is = let no : ⊥ = cc in absurd no
on_if_ready (Some device) ready is =
    (elim device.on as (λ (b : Bool). device.on ≡ b → cond {A = Result Device Word} b (Ok device) (Err DeviceOff) ≡ Ok ready → ready.on ≡ true) [
      | true ↦ λ on same. let it : device ≡ ready = cc in ap (λ (d : Device). d.on) (sym it) ∙ on
      | false ↦ λ on same. let no : ⊥ = cc in absurd no
    ]) refl is

on_as_told : (told : AccountTold) (name : List ℕ) (device : Device) → device_told told name ≡ Some device → get told.on name ≡ Some device.on
on_as_told told name device is = by (get told.on name) is
  where
    by : (on : Option Bool) → option_map (λ (on : Bool). let device : Device = record { name = name; on = on; rate = rate_told told name } in device) on ≡ Some device → on ≡ Some device.on
    by None same = absurd (none-some device same)
    by (Some on) same = ap (λ (d : Device). Some d.on) (same_Some (record { name = name; on = on; rate = rate_told told name }) device same)

-- ---- what each exchange finds

pub none_next : (told : AccountTold) (room : RoomValue) → Keeps told room → get told.jobs told.next ≡ None
none_next told room keeps = by (get told.jobs told.next) (get room.jobs told.next) refl (keeps.stands.jobs told.next)
  where
    by : (ticket : Option JobTold) (job : Option Job) → get room.jobs told.next ≡ job → AreAsTold told.next ticket room job → ticket ≡ None
    by None job here are = refl
    by (Some ticket) None here are = absurd are
    by (Some ticket) (Some job) here are = absurd (let less = keeps.below told.next job here in let same = keeps.stands.next in let no : ⊥ = omega arith in no)

-- it holds of the job that is there
of_its_job : (told : AccountTold) (room : RoomValue) (number : ℕ) (job : Job) (Is : JobTold → Type 0) → Keeps told room → get room.jobs number ≡ Some job
    → ((ticket : JobTold) → IsAsTold number ticket room job → Is ticket) → IsSomeAnd (get told.jobs number) Is
of_its_job told room number job Is keeps there is =
    let at = found number told room job keeps.stands there in
    subst (λ (o : Option JobTold). IsSomeAnd o Is) (sym at.is_told) (is at.ticket at.is)

pub same_act : (it other : Act) (s next : Standing) → Some it ≡ Some other → move other s ≡ Ok next → move it s ≡ Ok next
same_act it other s next same goes = ap (λ (a : Act). move a s) (same_Some it other same) ∙ goes

module _ (told : AccountTold) (room : RoomValue) (devices : Devices) (known : (name : List ℕ) → get devices name ≡ device_told told name) (keeps : Keeps told room) (stand : AreOfJobs room.documents) (now : ℕ) (account : List ℕ) where
  asked_finds : (x : Exchange) (ask : PlainAsk) (job : Job) (it : Act) (standing : Standing) → get room.jobs ask.job ≡ Some job → (operation : Operation) → act_asked room now job operation ≡ Some it → move it job.standing ≡ Ok standing
      → Finds told x (asked_deed ask operation)
  asked_finds x ask job it standing there asks.CancelJob is goes =
      let moves = same_act (CancelJob now) it job.standing standing is goes in
      of_its_job told room ask.job job (λ (ticket : JobTold). is_over ticket.stage ≡ false) keeps there (λ ticket at. goes_on_if_unfinished ticket.stage job.standing at.stage (was_unfinished (CancelJob now) job.standing standing moves))
  asked_finds x ask job it standing there asks.HoldJob is goes =
      of_its_job told room ask.job job (λ (ticket : JobTold). CanBeHeld ticket.stage) keeps there (λ ticket at. holds_if_moved ticket.stage job.standing standing at.stage (same_act HoldJob it job.standing standing is goes))
  asked_finds x ask job it standing there asks.ReleaseJob is goes =
      let release = ReleaseJob (has_password job) (left_in room now) in
      let moves = same_act release it job.standing standing is goes in
      of_its_job told room ask.job job CanBeFreed keeps there (λ ticket at. record {
        goes_on = goes_on_if_unfinished ticket.stage job.standing at.stage (was_unfinished release job.standing standing moves);
        no_password = λ waits. sym at.password ∙ empty_if_none job.password (none_if_freed job (left_in room now) standing moves (held_if_waits ticket.stage job.standing at.stage waits));
      })
  asked_finds x ask job it standing there _ is goes = absurd (none-some it is)

  finds : (event : AccountEvent) (said : Reply) (after : RoomValue) → Makes room devices now account event said after → Finds told ((now, OfAccount account event), said) (account_deed account event said)
  finds _ _ _ (refuses event said undone isnt none) = subst (Finds told ((now, OfAccount account event), said)) (sym (no_deed account event said undone isnt none)) tt
  finds _ _ _ (reads body ask text read only) = subst (Finds told ((now, OfAccount account (Ipp body)), reply.Ipp text)) (sym (reads_no_deed account body text ask read only)) tt
  finds _ _ _ (makes body ask text read a_job accepted done) =
      subst (Finds told ((now, OfAccount account (Ipp body)), reply.Ipp text)) (sym (deed_done account body text ask read done ∙ makes_one_job ask ask.operation a_job)) (none_next told room keeps)
  finds _ _ _ (takes body ask text job standing read sends there goes done) =
      subst (Finds told ((now, OfAccount account (Ipp body)), reply.Ipp text)) (sym (deed_done account body text ask read done ∙ ap (asked_deed ask) sends))
      (of_its_job told room ask.job job TakesDocuments keeps there (λ ticket at.
      let held = (document_taken job.standing standing ask.last (has_data ask) goes).was_held in
      record {
        waits = waits_if_held ticket.stage job.standing at.stage held;
        is_open = sym (at.is_open (ap is_unfinished held)) ∙ open_if_taken ask.last (has_data ask) job.standing standing goes;
      }))
  finds _ _ _ (acts body ask text job it standing read there is_act goes done) =
      let x : Exchange = ((now, OfAccount account (Ipp body)), reply.Ipp text) in
      subst (Finds told x) (sym (deed_done account body text ask read done)) (asked_finds x ask job it standing there ask.operation is_act goes)
  finds _ _ _ (releases device number password impressions ready job standing is_ready there goes) =
      of_its_job told room number job (CanBeReleased password) keeps there (λ ticket at. record {
        waits = waits_if_released job.password device password impressions ready.rate (left_in room now) ticket.stage job.standing standing at.stage goes;
        password_met = subst (λ (kept : List ℕ). (kept ≡ []) ⊎ (password ≡ kept)) at.password (right_password job.password password (right_if_released job.password device password impressions ready.rate (left_in room now) job.standing standing goes));
      })
  finds _ _ _ (starts device number ready job standing is_ready there goes) =
      let start = StationStart device ready.rate now in
      let is_known = sym (known device) ∙ ready_is (get devices device) ready is_ready in (
        on_as_told told device ready is_known ∙ ap Some (on_if_ready (get devices device) ready is_ready),
        of_its_job told room number job (CanBeStarted device number (reply.Documents (map (part_of standing.copies) (documents_of room number)))) keeps there (λ ticket at. record {
          is_free = free_if_started device ready.rate now ticket.stage job.standing standing at.stage goes;
          handed = ap reply.Documents
              (ap (λ (copies : ℕ). map (part_of copies) (documents_of room number)) (same_copies start job.standing standing goes ∙ at.copies)
              ∙ documents.handed_as_sent room number ticket.maker.copies stand
              ∙ ap (map (part_told number ticket.maker.copies)) (at.documents (was_unfinished start job.standing standing goes)));
        }),
      )
  finds _ _ _ (settles device number impressions failed of_it job standing is_known there goes) =
      of_its_job told room number job (λ (ticket : JobTold). IsPrinted ticket.stage) keeps there (λ ticket at. printed_if_settled device impressions failed now ticket.stage job.standing standing at.stage goes)
  finds _ _ _ (grants month pages new) = tt

-- ---- over a life

-- each exchange finds what it needs, one after another
abbrev pub FindAll : AccountTold → Life → Type 0
FindAll told [] = Unit {0}
FindAll told (x ∷ life) = Finds told x (deed_of x) × FindAll (after_exchange told x) life

find_more : (told : AccountTold) (past : Life) (x : Exchange) → FindAll told past → Finds (fold after_exchange told past) x (deed_of x) → FindAll told (past ++ x ∷ [])
find_more told [] x all finds = (finds, tt)
find_more told (first ∷ past) x all finds = (all.0, find_more (after_exchange told first) past x all.1 finds)

pub find_apart : (told : AccountTold) (past later : Life) → FindAll told (past ++ later) → FindAll told past × FindAll (fold after_exchange told past) later
find_apart told [] later all = (tt, all)
find_apart told (first ∷ past) later all = let rest = find_apart (after_exchange told first) past later all.1 in ((all.0, rest.0), rest.1)

record IsFound (past : Life) (room : Option RoomValue) (devices : Devices) : Type 0 where
  pub is : IsLife past room devices
  pub all : FindAll nothing_told past

short_finds : (told : AccountTold) (now : ℕ) (account body : List ℕ) (short : Bool) → Finds told ((now, OfAccount account (Ipp body)), (unopened_answer short).reply) (account_deed account (Ipp body) (unopened_answer short).reply)
short_finds told now account body true = tt
short_finds told now account body false = tt

unopened_finds : (told : AccountTold) (now : ℕ) (account : List ℕ) (it : AccountEvent) → let said = (answered_unopened now (OfAccount account it)).reply in Finds told ((now, OfAccount account it), said) (account_deed account it said)
unopened_finds told now account (Ipp body) = short_finds told now account body (nat_lt (length body) header_length)
unopened_finds told now account _ = tt

device_finds : (told : AccountTold) (x : Exchange) (device : List ℕ) (it : DeviceEvent) (said : Reply) → Finds told x (device_deed device it said)
device_finds told x device (Switch on) said = elim (is_ok said) as (λ (b : Bool). Finds told x (cond b (Switched device on) NoDeed)) [ true ↦ tt | false ↦ tt ]
device_finds told x device (Rate units) said = elim (is_ok said) as (λ (b : Bool). Finds told x (cond b (Rated device units) NoDeed)) [ true ↦ tt | false ↦ tt ]

found_by_account : (past : Life) (room : Option RoomValue) (devices : Devices) (now : ℕ) (account : List ℕ) (it : AccountEvent) → IsFound past room devices
    → IsFound (past ++ account_exchange room devices now account it ∷ []) (answered room devices now (OfAccount account it)).room devices
found_by_account past None devices now account it found = record {
  is = leads_on past (account_exchange None devices now account it ∷ []) None None (answered_unopened now (OfAccount account it)).room empty devices devices found.is (refl, (refl, refl));
  all = find_more nothing_told past (account_exchange None devices now account it) found.all (unopened_finds (account_told past) now account it);
}
found_by_account past (Some room) devices now account it found =
    let all = all_keep past (Some room) devices found.is in
    let made = makes_one room devices now account it in
    record {
      is = leads_on past (account_exchange (Some room) devices now account it ∷ []) None (Some room) (answered (Some room) devices now (OfAccount account it)).room empty devices devices found.is (refl, (refl, refl));
      all = find_more nothing_told past (account_exchange (Some room) devices now account it) found.all (finds (account_told past) room devices all.knows.known all.account (has_of_jobs past (Some room) devices found.is) now account it _ _ made);
    }

found_by_device : (past : Life) (room : Option RoomValue) (devices : Devices) (now : ℕ) (device : List ℕ) (it : DeviceEvent) → IsFound past room devices
    → IsFound (past ++ device_exchange devices now device it ∷ []) room (device_answered devices (OfDevice device it)).devices
found_by_device past room devices now device it found = record {
  is = leads_on past (device_exchange devices now device it ∷ []) None room room empty devices (device_answered devices (OfDevice device it)).devices found.is (refl, (refl, refl));
  all = find_more nothing_told past (device_exchange devices now device it) found.all (device_finds (account_told past) (device_exchange devices now device it) device it (device_answered devices (OfDevice device it)).reply);
}

-- each exchange of a life finds what it needs
pub all_find : (life : Life) (room : Option RoomValue) (devices : Devices) → IsLife life room devices → FindAll nothing_told life
all_find life room devices is = (of_each_life IsFound (record { begun = record { is = (refl, refl); all = tt }; by_account = found_by_account; by_device = found_by_device }) life room devices is).all

-- what each exchange keeps that finds what it needs
module _ (P : Life → Type 0) (more : (past : Life) (x : Exchange) → Finds (account_told past) x (deed_of x) → P past → P (past ++ x ∷ [])) where
  grown : (past later : Life) → FindAll (account_told past) later → P past → P (past ++ later)
  grown past [] all holds = subst P (sym (append-nil past)) holds
  grown past (x ∷ later) all holds =
      subst P (append_assoc past (x ∷ []) later) (grown (past ++ x ∷ []) later (subst (λ (told : AccountTold). FindAll told later) (sym (told_more past x)) all.1) (more past x all.0 holds))

  pub grows : P [] → (life : Life) (room : Option RoomValue) (devices : Devices) → IsLife life room devices → P life
  grows begun life room devices is = grown [] life (all_find life room devices is) begun

  pub grows_to : P [] → (past : Life) → FindAll nothing_told past → P past
  grows_to begun past all = grown [] past all begun

-- what is found at one exchange of a life, and before it and behind it
pub record FoundAt (past later : Life) (x : Exchange) : Type 0 where
  pub first : FindAll nothing_told past
  pub finds : Finds (account_told past) x (deed_of x)
  pub rest : FindAll (account_told (past ++ x ∷ [])) later

pub found_at : (life past later : Life) (x : Exchange) (room : Option RoomValue) (devices : Devices) → IsLife life room devices → life ≡ past ++ x ∷ later → FoundAt past later x
found_at life past later x room devices is here =
    let all = find_apart nothing_told past (x ∷ later) (subst (FindAll nothing_told) here (all_find life room devices is)) in
    record { first = all.0; finds = all.1.0; rest = subst (λ (told : AccountTold). FindAll told later) (sym (told_more past x)) all.1.1 }
