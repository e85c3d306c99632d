-- An exchange changes its own job alone, and one that did nothing could as well not have been.
use Rattle.std.proofs.Common.{◌≡◌, ℕ, Bool, true, false, cond, List, ◌∷◌, ◌++◌, Option, Some, None, IsSomeAnd, inl, inr, refl, sym, ap, subst, ◌∙◌, nat_lt, length}
use Rattle.std.specs.FinMap.{contains_key, empty, get}
use Rattle.std.proofs.lemmas.Bool.{true≢false}
use Rattle.std.proofs.lemmas.Option.{none-some}
use Rattle.account_asks.specs.Asks.{PlainAsk}
use Rattle.account_asks.specs.declared.operation.Operation.{Operation}
use Rattle.account_asks.specs.declared.operation.Operation.TheVariants as asks
use Rattle.ipp_coding.specs.Limits.{header_length}
use Rattle.account_machine.specs.DeviceEvents.{device_answered}
use Rattle.account_machine.specs.Events.{AccountEvent, DeviceEvent, OfAccount, OfDevice, Open, Ipp, Release, Start, Settle, Grant, Switch, Rate}
use Rattle.account_machine.specs.Machine.{answered}
use Rattle.account_machine.specs.declared.event.Reply.{Reply}
use Rattle.account_laws.proofs.AsTold.{deed_done, makes_one_job, no_deed, rated_by, reads_nothing, told_more}
use Rattle.account_laws.proofs.Changes.{Makes, refuses, reads, makes, takes, acts, releases, starts, settles, grants, act_asked, makes_one}
use Rattle.account_laws.proofs.DeedTurns.{next_after, next_is, others_same}
use Rattle.account_lives.proofs.LifeLemmas.{front_of_life, leads_on, unopened_answer}
use Rattle.account_laws.specs.AccountsTold.{AccountTold, account_told, after_deed}
use Rattle.account_laws.specs.Deeds.{Deed, Opened, Made, Brought, Released, Started, Settled, Granted, Switched, Rated, NoDeed, account_deed, asked_deed, deed_of, deed_of_request, device_deed, moment_of}
use Rattle.account_laws.specs.ItsOwnJob.{ItsOwnJobOnly, OnlyAsks, ReadsAndRefusalsDoNothing, TellsNoDeed, only_asks}
use Rattle.account_laws.specs.JobsMade.{jobs_made}
use Rattle.account_lives.specs.Lives.{Exchange, IsLife, LeadsTo, Life}
use Rattle.account_laws.specs.Told.{is_successful, request_of}
use Rattle.account_rules.specs.Acts.{Act}
use Rattle.account_rules.specs.Devices.{Devices}
use Rattle.account_rules.specs.declared.job.Job.{Job}
use Rattle.account_state.specs.Rooms.{RoomValue}

pub its_own_job_only : ItsOwnJobOnly
its_own_job_only life room devices is past later x here = record {
  others = λ number isnt. ap (λ (told : AccountTold). get told.jobs number) (told_more past x) ∙ others_same (moment_of x) (account_told past) (jobs_made past) number (deed_of x) (next_is past) isnt;
  next = ap (λ (told : AccountTold). told.next) (told_more past x) ∙ next_after (moment_of x) (account_told past) (deed_of x);
}

-- ---- what does nothing

-- what did something did not nothing
some_deed : {A : Type 0} (deed : Deed) (done : Deed → Bool) → done deed ≡ true → done NoDeed ≡ false → deed ≡ NoDeed → A
some_deed deed done is isnt none = absurd (true≢false (sym is ∙ ap done none ∙ isnt))

abbrev does : Deed → Bool
does NoDeed = false
does _ = true

acts_do : (room : RoomValue) (now : ℕ) (job : Job) (it : Act) (ask : PlainAsk) (operation : Operation) → act_asked room now job operation ≡ Some it → does (asked_deed ask operation) ≡ true
acts_do room now job it ask asks.CancelJob is = refl
acts_do room now job it ask asks.HoldJob is = refl
acts_do room now job it ask asks.ReleaseJob is = refl
acts_do room now job it ask _ is = absurd (none-some it is)

same_room : (room : RoomValue) (devices : Devices) (now : ℕ) (account : List ℕ) (event : AccountEvent) (said : Reply) (after : RoomValue) → Makes room devices now account event said after → account_deed account event said ≡ NoDeed → after ≡ room
same_room room devices now account _ _ _ (refuses event said undone isnt hands) none = refl
same_room room devices now account _ _ _ (reads body ask text read only) none = refl
same_room room devices now account _ _ _ (makes body ask text read a_job accepted done) none = some_deed (Made ask) does refl refl (sym (deed_done account body text ask read done ∙ makes_one_job ask ask.operation a_job) ∙ none)
same_room room devices now account _ _ _ (takes body ask text job standing read sends there goes done) none = some_deed (Brought ask) does refl refl (sym (deed_done account body text ask read done ∙ ap (asked_deed ask) sends) ∙ none)
same_room room devices now account _ _ _ (acts body ask text job it standing read there is_act goes done) none = some_deed (asked_deed ask ask.operation) does (acts_do room now job it ask ask.operation is_act) refl (sym (deed_done account body text ask read done) ∙ none)
same_room room devices now account _ _ _ (releases device number password impressions ready job standing is_ready there goes) none = some_deed (Released device number impressions) does refl refl none
same_room room devices now account _ _ _ (starts device number ready job standing is_ready there goes) none = some_deed (Started device number) does refl refl none
same_room room devices now account _ _ _ (settles device number impressions failed known job standing is_known there goes) none = some_deed (Settled device number impressions failed) does refl refl none
same_room room devices now account _ _ _ (grants month pages new) none = some_deed (Granted month pages) does refl refl none

same_account : (room : Option RoomValue) (devices : Devices) (now : ℕ) (account : List ℕ) (it : AccountEvent) → let answer = answered room devices now (OfAccount account it) in account_deed account it answer.reply ≡ NoDeed → answer.room ≡ room
same_account None devices now account Open none = some_deed Opened does refl refl none
same_account None devices now account (Ipp body) none = elim (nat_lt (length body) header_length) as (λ (b : Bool). (unopened_answer b).room ≡ None) [ true ↦ refl | false ↦ refl ]
same_account None devices now account (Release device number password impressions) none = refl
same_account None devices now account (Start device number) none = refl
same_account None devices now account (Settle device number impressions failed) none = refl
same_account None devices now account (Grant month pages) none = refl
same_account (Some room) devices now account it none = ap Some (same_room room devices now account it _ _ (makes_one room devices now account it) none)

same_devices : (devices : Devices) (device : List ℕ) (it : DeviceEvent) → let answer = device_answered devices (OfDevice device it) in device_deed device it answer.reply ≡ NoDeed → answer.devices ≡ devices
same_devices devices device (Switch on) none = some_deed (Switched device on) does refl refl none
same_devices devices device (Rate units) none = by (contains_key devices device) none
  where
    by : (there : Bool) → device_deed device (Rate units) (rated_by there devices device units).reply ≡ NoDeed → (rated_by there devices device units).devices ≡ devices
    by true none = some_deed (Rated device units) does refl refl none
    by false none = refl

-- ---- without it

without : (past later : Life) (x : Exchange) (r left : Option RoomValue) (d known : Devices) → LeadsTo None empty past r d → LeadsTo r d (x ∷ later) left known → deed_of x ≡ NoDeed → IsLife (past ++ later) left known
without past later ((now, OfAccount account it), said) r left d known first rest none =
    let same = same_account r d now account it (ap (account_deed account it) (sym rest.0) ∙ none) in
    leads_on past later None r left empty d known first (subst (λ (room : Option RoomValue). LeadsTo room d later left known) same rest.1)
without past later ((now, OfDevice device it), said) r left d known first rest none =
    let same = same_devices d device it (ap (device_deed device it) (sym rest.0) ∙ none) in
    leads_on past later None r left empty d known first (subst (λ (devices : Devices). LeadsTo r devices later left known) same rest.1)

asks_nothing : (x : Exchange) → OnlyAsks x.0.1 → deed_of x ≡ NoDeed
asks_nothing ((now, OfAccount account (Ipp body)), said) only =
    elim (is_successful said) as (λ (b : Bool). cond b (deed_of_request (request_of account (Ipp body))) NoDeed ≡ NoDeed) [ true ↦ by (request_of account (Ipp body)) only | false ↦ refl ]
  where
    by : (o : Option PlainAsk) → IsSomeAnd o (λ (ask : PlainAsk). only_asks ask.operation ≡ true) → deed_of_request o ≡ NoDeed
    by None only = absurd only
    by (Some ask) only = reads_nothing ask ask.operation only
asks_nothing ((now, OfAccount account Open), said) only = absurd only
asks_nothing ((now, OfAccount account (Release device number password impressions)), said) only = absurd only
asks_nothing ((now, OfAccount account (Start device number)), said) only = absurd only
asks_nothing ((now, OfAccount account (Settle device number impressions failed)), said) only = absurd only
asks_nothing ((now, OfAccount account (Grant month pages)), said) only = absurd only
asks_nothing ((now, OfDevice device it), said) only = absurd only

tells_nothing : (x : Exchange) → TellsNoDeed x.1 → deed_of x ≡ NoDeed
tells_nothing ((now, OfAccount account it), said) tells = no_deed account it said tells.no_success tells.not_ok tells.no_documents
tells_nothing ((now, OfDevice device (Switch on)), said) tells = ap (λ (b : Bool). cond b (Switched device on) NoDeed) tells.not_ok
tells_nothing ((now, OfDevice device (Rate units)), said) tells = ap (λ (b : Bool). cond b (Rated device units) NoDeed) tells.not_ok

pub reads_and_refusals_do_nothing : ReadsAndRefusalsDoNothing
reads_and_refusals_do_nothing life past later x room devices is here which =
    let none : deed_of x ≡ NoDeed = elim which [ inl only ↦ asks_nothing x only | inr tells ↦ tells_nothing x tells ] in
    let apart = front_of_life life past later x room devices is here in
    record {
      same = told_more past x ∙ ap (after_deed (moment_of x) (account_told past)) none;
      without = without past later x apart.room room apart.devices devices apart.first apart.rest none;
    }
