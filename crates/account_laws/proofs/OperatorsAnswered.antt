-- An operator's line is answered by what was told before it.
use Rattle.std.proofs.Common.{◌≡◌, ℕ, Bool, true, false, cond, ◌==◌, List, Option, Some, None, option_map, Result, Err, is_none, is_some, codes, refl, sym, ap, ◌∙◌}
use Rattle.std.specs.FinMap.{get}
use Rattle.account_laws.proofs.AsTold.{AccountKeeps, all_keep}
use Rattle.account_laws.specs.AccountsTold.{AccountTold, account_told, rate_told}
use Rattle.account_laws.specs.OperatorAnswers.{GrantsAreAnswered, OpeningsAreAnswered, RatesAreAnswered, TurnsAreAnswered, grant_answer, month_answer, open_answer, rate_answer}
use Rattle.account_laws.specs.RefusalTexts.{text_of}
use Rattle.account_laws.specs.StandsAsTold.{device_told}
use Rattle.account_lives.proofs.LifeLemmas.{front_of_life}
use Rattle.account_machine.specs.DeviceEvents.{DeviceAnswer, device_answered}
use Rattle.account_machine.specs.Events.{OfAccount, OfDevice, Open, Grant, Switch, Rate}
use Rattle.account_machine.specs.Machine.{answered}
use Rattle.account_machine.specs.Steps.{refusing_or, telling}
use Rattle.account_machine.specs.Verdicts.{line_done, line_refused}
use Rattle.account_machine.specs.declared.event.Reply.TheVariants as reply
use Rattle.account_replies.specs.Grants.{grant_refusal}
use Rattle.account_replies.specs.Lines.{success_text}
use Rattle.account_replies.specs.Words.{word_text}
use Rattle.account_replies.specs.declared.station_line.Success.TheVariants as success
use Rattle.account_rules.specs.Devices.{Devices, rated}
use Rattle.account_rules.specs.declared.device.Device.{Device}
use Rattle.account_rules.specs.declared.refusal.Word.{Word}
use Rattle.account_rules.specs.declared.refusal.Word.TheVariants.{Conflict, Exists, NoAccount, NoDevice, Same}
use Rattle.account_state.specs.Changes.{with_grant}
use Rattle.account_state.specs.Rooms.{RoomValue}

-- ---- an account

open_told : (told : AccountTold) (room : Option RoomValue) (devices : Devices) (now : ℕ) (account : List ℕ) → AccountKeeps told room → (answered room devices now (OfAccount account Open)).reply ≡ reply.Line (open_answer told)
open_told told None devices now account was = ap (λ (o : Option ℕ). reply.Line (cond (is_none o) (codes "ok") (text_of Exists))) (sym was.opened)
open_told told (Some room) devices now account keeps = ap (λ (o : Option ℕ). reply.Line (cond (is_none o) (codes "ok") (text_of Exists))) (sym keeps.stands.opened)

pub openings_are_answered : OpeningsAreAnswered
openings_are_answered life room devices is past later now account said here =
    let at = front_of_life life past later ((now, OfAccount account Open), said) room devices is here in
    at.rest.0 ∙ open_told (account_told past) at.room at.devices now account (all_keep past at.room at.devices at.first).account

month_told : (room : RoomValue) (month pages : ℕ) (held : Option ℕ) → (refusing_or room (grant_refusal held pages) (λ _. telling (with_grant room month pages) success.Ok)).reply ≡ reply.Line (month_answer held pages)
month_told room month pages None = refl
month_told room month pages (Some held) =
    elim (held == pages) as (λ (b : Bool). (refusing_or room (cond {A = Result (Unit {0}) Word} b (Err Same) (Err (Conflict held))) (λ (_ : Unit {0}). telling (with_grant room month pages) success.Ok)).reply ≡ reply.Line (cond b (text_of Same) (text_of (Conflict held))))
    [ true ↦ refl | false ↦ refl ]

grant_told : (told : AccountTold) (room : Option RoomValue) (devices : Devices) (now : ℕ) (account : List ℕ) (month pages : ℕ) → AccountKeeps told room → (answered room devices now (OfAccount account (Grant month pages))).reply ≡ reply.Line (grant_answer told month pages)
grant_told told None devices now account month pages was = ap (λ (o : Option ℕ). reply.Line (cond (is_none o) (text_of NoAccount) (month_answer (get told.grants month) pages))) (sym was.opened)
grant_told told (Some room) devices now account month pages keeps =
    month_told room month pages (get room.grants month)
    ∙ ap (λ (held : Option ℕ). reply.Line (month_answer held pages)) (keeps.stands.grants month)
    ∙ ap (λ (o : Option ℕ). reply.Line (cond (is_none o) (text_of NoAccount) (month_answer (get told.grants month) pages))) (sym keeps.stands.opened)

pub grants_are_answered : GrantsAreAnswered
grants_are_answered life room devices is past later now account month pages said here =
    let at = front_of_life life past later ((now, OfAccount account (Grant month pages)), said) room devices is here in
    at.rest.0 ∙ grant_told (account_told past) at.room at.devices now account month pages (all_keep past at.room at.devices at.first).account

-- ---- a device

pub turns_are_answered : TurnsAreAnswered
turns_are_answered life room devices is past later now device on said here =
    let at = front_of_life life past later ((now, OfDevice device (Switch on)), said) room devices is here in
    at.rest.0

rate_told_so : (told : AccountTold) (devices : Devices) (device : List ℕ) (units : ℕ) → get devices device ≡ device_told told device → (device_answered devices (OfDevice device (Rate units))).reply ≡ reply.Line (rate_answer told device)
rate_told_so told devices device units known = ap (λ (found : Option Device). (rated_so (is_some found)).reply) known ∙ by (get told.on device)
  where
    rated_so : Bool → DeviceAnswer
    rated_so there = cond there (record { reply = reply.Line (success_text success.Ok); verdict = line_done; devices = rated devices device units }) (record { reply = reply.Line (word_text NoDevice); verdict = line_refused NoDevice; devices = devices })

    by : (on : Option Bool) → (rated_so (is_some (option_map (λ (on : Bool). let it : Device = record { name = device; on = on; rate = rate_told told device } in it) on))).reply ≡ reply.Line (cond (is_none on) (text_of NoDevice) (codes "ok"))
    by None = refl
    by (Some on) = refl

pub rates_are_answered : RatesAreAnswered
rates_are_answered life room devices is past later now device units said here =
    let at = front_of_life life past later ((now, OfDevice device (Rate units)), said) room devices is here in
    at.rest.0 ∙ rate_told_so (account_told past) at.devices device units ((all_keep past at.room at.devices at.first).knows.known device)
