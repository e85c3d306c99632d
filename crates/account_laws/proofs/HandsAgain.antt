-- A device that started a job is handed its documents again until the job is settled or canceled.
use Rattle.std.proofs.Common.{◌≡◌, ℕ, Bool, true, false, cond, not, ◌||◌, List, [], ◌∷◌, ◌++◌, Option, Some, None, option_map, is_some, Result, Ok, Err, refl, sym, ap, subst, ◌∙◌, append_assoc}
use Rattle.std.specs.Cmp.Lexicographic.{nat_list_cmp_total}
use Rattle.std.specs.FinMap.{FinMap, get, get-insert}
use Rattle.std.specs.List.{All, fold, list_any}
use Rattle.std.specs.Ordering.{eq_by_cmp}
use Rattle.std.proofs.lemmas.Bool.{eq-eqb, or_parts, true≢false}
use Rattle.std.proofs.lemmas.List.Elements.{All-head, All-tail}
use Rattle.std.proofs.lemmas.List.Sums.{fold-append}
use Rattle.std.proofs.lemmas.Slice.Eq.{bytes_eq-Decides}
use Rattle.account_machine.specs.Events.{OfAccount, Start}
use Rattle.account_machine.specs.Steps.{and_then}
use Rattle.account_machine.specs.declared.event.Reply.TheVariants as reply
use Rattle.account_laws.proofs.AsTold.{all_keep, of_a_job}
use Rattle.account_laws.proofs.DeedFinds.{CanBeHeld, CanBeStarted, IsFreeFor, found_at, found_it}
use Rattle.account_laws.proofs.DocumentsOfJobs.{AreOfJobs, has_of_jobs}
use Rattle.account_laws.proofs.DoneStays.{FindsOf, Goes, acts_on, changed, goes_from, goes_on, turned_on, was_there}
use Rattle.account_laws.proofs.HandedAgain.{IsPrintedBy, parts_as_told, parts_told}
use Rattle.account_laws.specs.AccountsTold.{AccountTold, account_told, after_deed, after_exchange, nothing_told, rate_told, with_job}
use Rattle.account_laws.specs.Deeds.{Deed, Brought, Canceled, HeldBack, Freed, Released, Started, Settled, Switched, deed_of, moment_of}
use Rattle.account_laws.specs.HandedAgain as law
use Rattle.account_laws.specs.HandedAgain.{cancels}
use Rattle.account_laws.specs.HandedOnce.{settles}
use Rattle.account_laws.specs.JobsTold.{JobTold, Stage, Waits, IsFree, Prints, job_brought, job_canceled, job_freed, job_held, job_released, job_settled, job_started, stage_released, stage_started}
use Rattle.account_lives.specs.Lives.{Exchange, Life}
use Rattle.account_laws.specs.StandsAsTold.{AreAsTold, IsAt, device_told}
use Rattle.account_questions.specs.Stations.{handed_again, printed_by, said_or}
use Rattle.account_replies.specs.Stations.{known_device}
use Rattle.account_replies.specs.declared.part.Part.{Part}
use Rattle.account_rules.specs.Devices.{name_cmp}
use Rattle.account_rules.specs.Effects.{is_bound_elsewhere}
use Rattle.account_rules.specs.JobStates.{is_processing}
use Rattle.account_rules.specs.declared.device.Device.{Device}
use Rattle.account_rules.specs.declared.job.Job.{Job}
use Rattle.account_rules.specs.declared.job.Standing.{Standing}
use Rattle.account_rules.specs.declared.refusal.Word.{Word}
use Rattle.account_rules.specs.declared.refusal.Word.TheVariants.{NotProcessing, OtherDevice, Stopping}
use Rattle.account_state.specs.Rooms.{RoomValue}

-- ---- a job that a device prints

printed_once_started : (device : List ℕ) (now : ℕ) (stage : Stage) → IsFreeFor device stage → IsPrintedBy device (stage_started device now stage)
printed_once_started device now (IsFree for rate units) free = (refl, refl)
printed_once_started device now _ free = absurd free

printed_still : (device : List ℕ) (for : Option (List ℕ)) (rate units : ℕ) (stage : Stage) → IsPrintedBy device stage → IsPrintedBy device (stage_released for rate units stage)
printed_still device for rate units (Prints by at_rate reserved since is_canceled) printed = printed
printed_still device for rate units _ printed = absurd printed

printed_not_held : {A : Type 0} (device : List ℕ) (stage : Stage) → IsPrintedBy device stage → CanBeHeld stage → A
printed_not_held device (Prints by rate units since is_canceled) printed can = absurd can
printed_not_held device _ printed can = absurd printed

printed_not_free : {A : Type 0} (device at : List ℕ) (stage : Stage) → IsPrintedBy device stage → IsFreeFor at stage → A
printed_not_free device at (Prints by rate units since is_canceled) printed free = absurd free
printed_not_free device at _ printed free = absurd printed

printed_not_waiting : {A : Type 0} (device : List ℕ) (stage : Stage) → IsPrintedBy device stage → stage ≡ Waits → A
printed_not_waiting device stage printed waits = absurd (subst (IsPrintedBy device) waits printed)

-- ---- from the start on

record IsGoing (device : List ℕ) (number : ℕ) (parts : List Part) (job : JobTold) : Type 0 where
  pub is_printed : IsPrintedBy device job.stage
  pub are_these : parts_told number job ≡ parts

abbrev settles_or_cancels : ℕ → Deed → Bool
settles_or_cancels number deed = settles number deed || cancels number deed

still_going : (device : List ℕ) (number : ℕ) (parts : List Part) (now : ℕ) (told : AccountTold) (x : Exchange) (deed : Deed) (job : JobTold) → settles_or_cancels number deed ≡ false → acts_on number deed ≡ true → FindsOf x deed job
    → IsGoing device number parts job → IsGoing device number parts (changed now told deed job)
still_going device number parts now told x (Brought ask) job isnt on finds going = printed_not_waiting device job.stage going.is_printed finds.waits
still_going device number parts now told x (Canceled q) job isnt on finds going = absurd (true≢false (sym on ∙ isnt))
still_going device number parts now told x (HeldBack q) job isnt on finds going = printed_not_held device job.stage going.is_printed finds
still_going device number parts now told x (Freed q) job isnt on finds going = record { is_printed = printed_still device None _ _ job.stage going.is_printed; are_these = going.are_these }
still_going device number parts now told x (Released at q impressions) job isnt on finds going = printed_not_waiting device job.stage going.is_printed finds
still_going device number parts now told x (Started at q) job isnt on finds going = printed_not_free device at job.stage going.is_printed finds
still_going device number parts now told x (Settled at q impressions failed) job isnt on finds going =
    let neither = or_parts (settles number (Settled at q impressions failed)) (cancels number (Settled at q impressions failed)) isnt in
    absurd (true≢false (sym on ∙ neither.0))
still_going device number parts now told x _ job isnt on finds going = absurd (true≢false (sym on))

neither_comes : (number : ℕ) (later : Life) → All (λ (x : Exchange). settles number (deed_of x) ≡ false) later → All (λ (x : Exchange). cancels number (deed_of x) ≡ false) later → list_any (λ (x : Exchange). settles_or_cancels number (deed_of x)) later ≡ false
neither_comes number [] unsettled uncanceled = refl
neither_comes number (x ∷ later) unsettled uncanceled =
    let one = All-head (λ (y : Exchange). settles number (deed_of y) ≡ false) x later unsettled in
    let other = All-head (λ (y : Exchange). cancels number (deed_of y) ≡ false) x later uncanceled in
    ap (λ (b : Bool). (b || cancels number (deed_of x)) || list_any (λ (y : Exchange). settles_or_cancels number (deed_of y)) later) one
    ∙ ap (λ (b : Bool). b || list_any (λ (y : Exchange). settles_or_cancels number (deed_of y)) later) other
    ∙ neither_comes number later (All-tail (λ (y : Exchange). settles number (deed_of y) ≡ false) x later unsettled) (All-tail (λ (y : Exchange). cancels number (deed_of y) ≡ false) x later uncanceled)

-- ---- a device that is known stays so

abbrev IsKnown : (device : List ℕ) (told : AccountTold) → Type 0
IsKnown device told = is_some (get told.on device) ≡ true

of_job : (device : List ℕ) (told : AccountTold) (number : ℕ) (change : JobTold → JobTold) → IsKnown device told → IsKnown device (with_job told number change)
of_job device told number change known = let same = of_a_job told number change in ap (λ (on : FinMap name_cmp Bool). is_some (get on device)) same.on ∙ known

known_still : (device : List ℕ) (now : ℕ) (told : AccountTold) (deed : Deed) → IsKnown device told → IsKnown device (after_deed now told deed)
known_still device now told (Switched at on) known =
    ap is_some (get-insert nat_list_cmp_total told.on at on device) ∙ by (eq_by_cmp name_cmp device at)
  where
    by : (b : Bool) → is_some (cond b (Some on) (get told.on device)) ≡ true
    by true = refl
    by false = known
known_still device now told (Brought ask) known = of_job device told ask.job (job_brought ask) known
known_still device now told (Canceled q) known = of_job device told q (job_canceled now) known
known_still device now told (HeldBack q) known = of_job device told q job_held known
known_still device now told (Freed q) known = of_job device told q job_freed known
known_still device now told (Released at q impressions) known = of_job device told q (job_released at (rate_told told at) impressions) known
known_still device now told (Started at q) known = of_job device told q (job_started at now) known
known_still device now told (Settled at q impressions failed) known = of_job device told q (job_settled impressions failed now) known
known_still device now told _ known = known

known_later : (device : List ℕ) (told : AccountTold) (later : Life) → IsKnown device told → IsKnown device (fold after_exchange told later)
known_later device told [] known = known
known_later device told (x ∷ later) known = known_later device (after_exchange told x) later (known_still device (moment_of x) told (deed_of x) known)

-- ---- the question

record IsPrintedHere (device : List ℕ) (s : Standing) : Type 0 where
  pub is_printed : is_processing s.state ≡ true
  pub is_here : is_bound_elsewhere s.device device ≡ false
  pub goes_on : s.stopping ≡ false

printed_here : (device : List ℕ) (stage : Stage) (s : Standing) → IsAt stage s → IsPrintedBy device stage → IsPrintedHere device s
printed_here device (Prints by rate units since is_canceled) s at printed = record {
  is_printed = ap is_processing at.state;
  is_here = ap (λ (o : Option (List ℕ)). is_bound_elsewhere o device) at.bound ∙ ap not ((bytes_eq-Decides by device).1 printed.0);
  goes_on = at.stopping ∙ printed.1;
}
printed_here device _ s at printed = absurd printed

passes : (device : List ℕ) (job : Job) → IsPrintedHere device job.standing → printed_by device (Some job) ≡ Ok job
passes device job here =
    ap (λ (b : Bool). cond {A = Result Job Word} (not b) (Err NotProcessing) (cond (is_bound_elsewhere job.standing.device device) (Err OtherDevice) (cond job.standing.stopping (Err Stopping) (Ok job)))) here.is_printed
    ∙ ap (λ (b : Bool). cond {A = Result Job Word} b (Err OtherDevice) (cond job.standing.stopping (Err Stopping) (Ok job))) here.is_here
    ∙ ap (λ (b : Bool). cond {A = Result Job Word} b (Err Stopping) (Ok job)) here.goes_on

is_let_in : (told : AccountTold) (name : List ℕ) (found : Option Device) (decided : Result Job Word) → found ≡ device_told told name → IsKnown name told → and_then (known_device found) (λ (_ : Device). decided) ≡ decided
is_let_in told name found decided is known = ap (λ (o : Option Device). and_then (known_device o) (λ (_ : Device). decided)) is ∙ by (get told.on name) known
  where
    by : (on : Option Bool) → is_some on ≡ true → and_then (known_device (option_map (λ (on : Bool). let device : Device = record { name = name; on = on; rate = rate_told told name } in device) on)) (λ (_ : Device). decided) ≡ decided
    by None known = absurd (true≢false (sym known))
    by (Some on) known = refl

module _ (room : RoomValue) (of : AreOfJobs room.documents) (device : List ℕ) (number : ℕ) (parts : List Part) (ticket : JobTold) (going : IsGoing device number parts ticket) where
  answered : (found : Option Job) → AreAsTold number (Some ticket) room found → said_or (printed_by device found) (handed_again room) ≡ reply.Documents parts
  answered None are = absurd are
  answered (Some job) are =
      let here = printed_here device ticket.stage job.standing are.stage going.is_printed in
      ap (λ (decided : Result Job Word). said_or decided (handed_again room)) (passes device job here)
      ∙ ap reply.Documents (parts_as_told number ticket room job of are here.is_printed ∙ going.are_these)

pub hands_again : law.HandsAgain
hands_again life room devices is earlier later now account device number parts here unsettled uncanceled =
    let x : Exchange = ((now, OfAccount account (Start device number)), reply.Documents parts) in
    let start = account_told earlier in
    let at = found_at life earlier later x (Some room) devices is here in
    let was = was_there number start (CanBeStarted device number x.1) at.finds.1 in
    let can = found_it start number number (CanBeStarted device number x.1) was.job was.is_there (eq-eqb number number refl) at.finds.1 in
    let same : parts_told number was.job ≡ parts = let handed = can.handed in cc in
    let Is : JobTold → Type 0 = IsGoing device number parts in
    let begins = turned_on now start x number was.job was.is_there (Started device number) (eq-eqb number number refl) in
    let first : Goes number Is (earlier ++ x ∷ []) = goes_from number Is earlier x (job_started device now was.job) begins (record { is_printed = printed_once_started device now was.job.stage can.is_free; are_these = same }) in
    let then = goes_on number Is (settles_or_cancels number) (still_going device number parts) (earlier ++ x ∷ []) later (neither_comes number later unsettled uncanceled) at.rest first in
    let goes : Goes number Is life = subst (Goes number Is) (append_assoc earlier (x ∷ []) later ∙ sym here) then in
    let known : IsKnown device (account_told life) = subst (IsKnown device) (sym (ap account_told here ∙ fold-append after_exchange nothing_told earlier (x ∷ later))) (known_later device start (x ∷ later) (ap is_some at.finds.0)) in
    let all = all_keep life (Some room) devices is in
    ap (λ (decided : Result Job Word). said_or decided (handed_again room)) (is_let_in (account_told life) device (get devices device) (printed_by device (get room.jobs number)) (all.knows.known device) known)
    ∙ answered room (has_of_jobs life (Some room) devices is) device number parts goes.job goes.is (get room.jobs number) (subst (λ (o : Option JobTold). AreAsTold number o room (get room.jobs number)) goes.is_there (all.account.stands.jobs number))
