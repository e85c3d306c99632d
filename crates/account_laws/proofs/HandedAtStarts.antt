-- Documents are the answer to a start, and to nothing else.
use Rattle.std.proofs.Common.{◌≡◌, ℕ, Bool, true, false, List, length, nat_lt, Option, Some, None, refl, sym, ap, subst, ◌∙◌}
use Rattle.std.specs.FinMap.{contains_key}
use Rattle.std.proofs.lemmas.Bool.{true≢false}
use Rattle.ipp_coding.specs.Limits.{header_length}
use Rattle.account_machine.specs.DeviceEvents.{device_answered}
use Rattle.account_machine.specs.Events.{AccountEvent, DeviceEvent, OfAccount, OfDevice, Ipp, Switch, Rate}
use Rattle.account_machine.specs.Machine.{answered, answered_unopened}
use Rattle.account_machine.specs.declared.event.Reply.{Reply}
use Rattle.account_laws.proofs.Changes.{Makes, refuses, starts, makes_one}
use Rattle.account_laws.proofs.AsTold.{rated_by}
use Rattle.account_lives.proofs.LifeLemmas.{front_of_life, unopened_answer}
use Rattle.account_laws.specs.HandedAsSent.{HandedAtStarts, IsStart}
use Rattle.account_laws.specs.Told.{is_documents}
use Rattle.account_rules.specs.Devices.{Devices}
use Rattle.account_state.specs.Rooms.{RoomValue}

by_open : (room : RoomValue) (devices : Devices) (now : ℕ) (account : List ℕ) (event : AccountEvent) (said : Reply) (after : RoomValue) → Makes room devices now account event said after → is_documents said ≡ true → IsStart ((now, OfAccount account event), said)
by_open room devices now account _ _ _ (refuses event said undone isnt none) is = absurd (true≢false (sym is ∙ none))
by_open room devices now account _ _ _ (starts device number ready job standing is_ready there goes) is = record { device = device; number = number; starts = refl }
by_open room devices now account _ _ _ _ is = absurd (true≢false (sym is))

none_unopened : (now : ℕ) (account : List ℕ) (it : AccountEvent) → is_documents (answered_unopened now (OfAccount account it)).reply ≡ false
none_unopened now account (Ipp body) = elim (nat_lt (length body) header_length) as (λ (b : Bool). is_documents (unopened_answer b).reply ≡ false) [ true ↦ refl | false ↦ refl ]
none_unopened now account _ = refl

by_account : (room : Option RoomValue) (devices : Devices) (now : ℕ) (account : List ℕ) (it : AccountEvent) → let said = (answered room devices now (OfAccount account it)).reply in is_documents said ≡ true → IsStart ((now, OfAccount account it), said)
by_account None devices now account it is = absurd (true≢false (sym is ∙ none_unopened now account it))
by_account (Some room) devices now account it is = by_open room devices now account it _ _ (makes_one room devices now account it) is

none_of_devices : (devices : Devices) (device : List ℕ) (it : DeviceEvent) → is_documents (device_answered devices (OfDevice device it)).reply ≡ false
none_of_devices devices device (Switch on) = refl
none_of_devices devices device (Rate units) = elim (contains_key devices device) as (λ (b : Bool). is_documents (rated_by b devices device units).reply ≡ false) [ true ↦ refl | false ↦ refl ]

pub handed_at_starts : HandedAtStarts
handed_at_starts life room devices is past later ((now, OfAccount account it), said) here documents =
    let apart = front_of_life life past later ((now, OfAccount account it), said) room devices is here in
    subst (λ (told : Reply). IsStart ((now, OfAccount account it), told)) (sym apart.rest.0) (by_account apart.room apart.devices now account it (ap is_documents (sym apart.rest.0) ∙ documents))
handed_at_starts life room devices is past later ((now, OfDevice device it), said) here documents =
    let apart = front_of_life life past later ((now, OfDevice device it), said) room devices is here in
    absurd (true≢false (sym documents ∙ ap is_documents apart.rest.0 ∙ none_of_devices apart.devices device it))
