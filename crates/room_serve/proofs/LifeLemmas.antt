-- An account's machine goes on from event to event, and runs in a row are one.
use Rattle.std.proofs.Common.{◌≡◌, ℕ, ◌+◌, Bool, true, false, cond, List, [], ◌∷◌, ◌++◌, length, Option, refl, sym, ap, subst, ◌∙◌}
use Rattle.std.proofs.lemmas.List.{append-nil, append_assoc, length-append}
use Rattle.std.proofs.lemmas.List.Elements.{filter-append}
use Rattle.sqlite.specs.Effect.{Database}
use Rattle.account_machine.specs.DeviceEvents.{device_answered}
use Rattle.account_machine.specs.Events.{AccountEvent, PlainEvent, Timed, OfAccount, OfDevice}
use Rattle.account_machine.specs.Machine.{answered}
use Rattle.account_machine.specs.declared.event.Reply.{Reply}
use Rattle.account_rules.specs.Devices.{Devices}
use Rattle.account_state.specs.Rooms.{RoomValue}
use Rattle.room_serve.specs.declared.outcome.Outcome.{Outcome}
use Rattle.room_serve.specs.declared.outcome.Outcome.TheVariants.{Answered, Failed}
use Rattle.room_serve.specs.Own.{is_of, own}
use Rattle.room_serve.specs.Alone.{Alone, alone, answer_on}
use Rattle.room_serve.specs.Outcomes.{answered_of, replies_to}
use Rattle.room_serve.specs.Runs.{IsAlone}
use Rattle.room_serve.specs.Isolation.{IsRun}
use Rattle.room_serve.proofs.Grown.{answer_both, shorter}

-- ---- what a machine had told before changes nothing of what it tells

-- the machine that had told these before
abbrev behind : List Reply → Alone → Alone
behind said machine = record { replies = said ++ machine.replies; room = machine.room; devices = machine.devices }

tells_behind : (said : List Reply) (room : Option RoomValue) (devices : Devices) (events : List Timed)
    → answer_on (record { replies = said; room = room; devices = devices }) events ≡ behind said (alone room devices events)
tells_behind said room devices [] = ap (λ (replies : List Reply). let machine : Alone = record { replies = replies; room = room; devices = devices } in machine) (sym (append-nil said))
tells_behind said room devices ((now, OfDevice device it) ∷ events) = tells_behind said room (device_answered devices (OfDevice device it)).devices events
tells_behind said room devices ((now, OfAccount account it) ∷ events) =
    let answer = answered room devices now (OfAccount account it) in
    let rest = alone answer.room devices events in
    tells_behind (said ++ answer.reply ∷ []) answer.room devices events
    ∙ ap (λ (replies : List Reply). let machine : Alone = record { replies = replies; room = rest.room; devices = rest.devices } in machine) (append_assoc said (answer.reply ∷ []) rest.replies)
    ∙ ap (behind said) (sym (tells_behind (answer.reply ∷ []) answer.room devices events))

-- it answers an event of an account, and goes on with the room that this leaves
pub goes_on : (room : Option RoomValue) (devices : Devices) (now : ℕ) (account : List ℕ) (it : AccountEvent) (events : List Timed)
    → alone room devices ((now, OfAccount account it) ∷ events)
    ≡ behind ((answered room devices now (OfAccount account it)).reply ∷ []) (alone (answered room devices now (OfAccount account it)).room devices events)
goes_on room devices now account it events =
    let answer = answered room devices now (OfAccount account it) in tells_behind (answer.reply ∷ []) answer.room devices events

-- ---- two runs in a row

answered_in_both : (first second : List Timed) (firsts seconds : List Outcome) → length firsts ≡ length first
    → answered_of (first ++ second) (firsts ++ seconds) ≡ answered_of first firsts ++ answered_of second seconds
answered_in_both [] second [] seconds same = refl
answered_in_both [] second (o ∷ firsts) seconds same = let no : ⊥ = cc in absurd no
answered_in_both (e ∷ first) second [] seconds same = let no : ⊥ = cc in absurd no
answered_in_both (e ∷ first) second (Answered reply ∷ firsts) seconds same = ap (λ l. e ∷ l) (answered_in_both first second firsts seconds (shorter (Answered reply) firsts e first same))
answered_in_both (e ∷ first) second (Failed fault ∷ firsts) seconds same = answered_in_both first second firsts seconds (shorter (Failed fault) firsts e first same)

replies_in_both : (kind : PlainEvent → Bool) (first second : List Timed) (firsts seconds : List Outcome) → length firsts ≡ length first
    → replies_to kind (first ++ second) (firsts ++ seconds) ≡ replies_to kind first firsts ++ replies_to kind second seconds
replies_in_both kind [] second [] seconds same = refl
replies_in_both kind [] second (o ∷ firsts) seconds same = let no : ⊥ = cc in absurd no
replies_in_both kind (e ∷ first) second [] seconds same = let no : ⊥ = cc in absurd no
replies_in_both kind (e ∷ first) second (Answered reply ∷ firsts) seconds same =
    let rest = replies_in_both kind first second firsts seconds (shorter (Answered reply) firsts e first same) in
    elim (kind e.1) as (λ b. cond b (reply ∷ replies_to kind (first ++ second) (firsts ++ seconds)) (replies_to kind (first ++ second) (firsts ++ seconds)) ≡ cond b (reply ∷ replies_to kind first firsts) (replies_to kind first firsts) ++ replies_to kind second seconds) [
      | true ↦ ap (λ l. reply ∷ l) rest
      | false ↦ rest
    ]
replies_in_both kind (e ∷ first) second (Failed fault ∷ firsts) seconds same = replies_in_both kind first second firsts seconds (shorter (Failed fault) firsts e first same)

-- the machine goes on from where the first run left it
joined : (name : List ℕ) (room : Option RoomValue) (devices : Devices) (first second : List Timed) (firsts seconds : List Outcome) → length firsts ≡ length first → (left : Alone) → alone room devices (own name (answered_of first firsts)) ≡ left
    → alone room devices (own name (answered_of (first ++ second) (firsts ++ seconds))) ≡ behind left.replies (alone left.room left.devices (own name (answered_of second seconds)))
joined name room devices first second firsts seconds same left is =
    let later = own name (answered_of second seconds) in
    ap (λ l. alone room devices (own name l)) (answered_in_both first second firsts seconds same)
    ∙ ap (alone room devices) (filter-append _ (answered_of first firsts) (answered_of second seconds))
    ∙ answer_both (record { replies = []; room = room; devices = devices }) (own name (answered_of first firsts)) later
    ∙ ap (λ (machine : Alone). answer_on machine later) is
    ∙ tells_behind left.replies left.room left.devices later

pub runs_join : (first second : List Timed) (firsts seconds : List Outcome) (a b c : Database) (is_open : Bool) → IsRun first firsts a true b → IsRun second seconds b is_open c → IsRun (first ++ second) (firsts ++ seconds) a is_open c
runs_join first second firsts seconds a b c is_open one other = record {
  each = length-append firsts seconds ∙ ap (λ n. n + length seconds) one.each ∙ ap (λ n. length first + n) other.each ∙ sym (length-append first second);
  alone = λ name room devices holds has.
      let left = alone room devices (own name (answered_of first firsts)) in
      let ones = one.alone name room devices holds has in
      let others = other.alone name left.room left.devices (ones.rows refl) (ones.devices refl) in
      let later = alone left.room left.devices (own name (answered_of second seconds)) in
      subst (λ (machine : Alone). IsAlone (first ++ second) (firsts ++ seconds) a is_open c name machine) (sym (joined name room devices first second firsts seconds one.each left refl))
      (record {
        replies = replies_in_both (is_of name) first second firsts seconds one.each ∙ ap (λ told. told ++ replies_to (is_of name) second seconds) ones.replies ∙ ap (λ told. left.replies ++ told) others.replies;
        rows = others.rows;
        devices = others.devices;
      });
}
