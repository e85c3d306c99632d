-- Lives, taken apart and put together, and what each exchange of a life keeps.
use Rattle.std.proofs.Common.{◌≡◌, ℕ, Bool, cond, List, [], ◌∷◌, ◌++◌, Option, None, append-nil, append_assoc, refl, sym, subst, ◌∙◌}
use Rattle.std.specs.FinMap.{empty}
use Rattle.account_machine.specs.DeviceEvents.{device_answered}
use Rattle.account_machine.specs.Events.{AccountEvent, DeviceEvent, OfAccount, OfDevice}
use Rattle.account_machine.specs.Machine.{Answer, answered, stays_unopened}
use Rattle.account_machine.specs.Verdicts.{line_refused, short_refused}
use Rattle.account_machine.specs.declared.event.Reply.{Reply}
use Rattle.account_machine.specs.declared.event.Reply.TheVariants as reply
use Rattle.account_lives.specs.Lives.{Exchange, IsLife, LeadsTo, Life, LivesGoOn, LivesLeaveOne}
use Rattle.account_rules.specs.Devices.{Devices}
use Rattle.account_rules.specs.declared.refusal.Word.TheVariants.{NoAccount}
use Rattle.account_state.specs.Rooms.{RoomValue}

-- the exchange of an account's event, as its machine answers it
abbrev pub account_exchange : (room : Option RoomValue) (devices : Devices) (now : ℕ) (account : List ℕ) (it : AccountEvent) → Exchange
account_exchange room devices now account it = ((now, OfAccount account it), (answered room devices now (OfAccount account it)).reply)

-- and that of an event of a device
abbrev pub device_exchange : (devices : Devices) (now : ℕ) (device : List ℕ) (it : DeviceEvent) → Exchange
device_exchange devices now device it = ((now, OfDevice device it), (device_answered devices (OfDevice device it)).reply)

-- what a request to an account that is not open is answered
abbrev pub unopened_answer : (short : Bool) → Answer
unopened_answer short = cond short (stays_unopened reply.Short short_refused) (stays_unopened reply.NoAccount (line_refused NoAccount))

-- ---- taken apart

-- what there was between two parts
pub record IsApart (a : Option RoomValue) (d : Devices) (past more : Life) (c : Option RoomValue) (f : Devices) : Type 0 where
  pub room : Option RoomValue
  pub devices : Devices
  pub first : LeadsTo a d past room devices
  pub rest : LeadsTo room devices more c f

pub leads_apart : (past more : Life) (a c : Option RoomValue) (d f : Devices) → LeadsTo a d (past ++ more) c f → IsApart a d past more c f
leads_apart [] more a c d f leads = record { room = a; devices = d; first = (refl, refl); rest = leads }
leads_apart (((now, OfAccount account it), told) ∷ past) more a c d f leads =
    let later = leads_apart past more (answered a d now (OfAccount account it)).room c d f leads.1 in
    record { room = later.room; devices = later.devices; first = (leads.0, later.first); rest = later.rest }
leads_apart (((now, OfDevice device it), told) ∷ past) more a c d f leads =
    let later = leads_apart past more a c (device_answered d (OfDevice device it)).devices f leads.1 in
    record { room = later.room; devices = later.devices; first = (leads.0, later.first); rest = later.rest }

-- what stands before an exchange of a life is a life, which left what that exchange found
pub front_of_life : (life past later : Life) (x : Exchange) (room : Option RoomValue) (devices : Devices) → IsLife life room devices → life ≡ past ++ x ∷ later → IsApart None empty past (x ∷ later) room devices
front_of_life life past later x room devices is here = leads_apart past (x ∷ later) None room empty devices (subst (λ (l : Life). IsLife l room devices) here is)

-- ---- put together

pub leads_on : (first second : Life) (a b c : Option RoomValue) (d e f : Devices) → LeadsTo a d first b e → LeadsTo b e second c f → LeadsTo a d (first ++ second) c f
leads_on [] second a b c d e f one other = subst (λ (room : Option RoomValue). LeadsTo room d second c f) one.0 (subst (λ (known : Devices). LeadsTo b known second c f) one.1 other)
leads_on (((now, OfAccount account it), told) ∷ first) second a b c d e f one other = (one.0, leads_on first second (answered a d now (OfAccount account it)).room b c d e f one.1 other)
leads_on (((now, OfDevice device it), told) ∷ first) second a b c d e f one other = (one.0, leads_on first second a b c (device_answered d (OfDevice device it)).devices e f one.1 other)

pub lives_go_on : LivesGoOn
lives_go_on life more room left devices known is leads = leads_on life more None room left empty devices known is leads

-- ---- there is one way alone

leads_one : (life : Life) (s a b : Option RoomValue) (t d e : Devices) → LeadsTo s t life a d → LeadsTo s t life b e → (a ≡ b) × (d ≡ e)
leads_one [] s a b t d e one other = (one.0 ∙ sym other.0, one.1 ∙ sym other.1)
leads_one (((now, OfAccount account it), told) ∷ life) s a b t d e one other = leads_one life (answered s t now (OfAccount account it)).room a b t d e one.1 other.1
leads_one (((now, OfDevice device it), told) ∷ life) s a b t d e one other = leads_one life s a b (device_answered t (OfDevice device it)).devices d e one.1 other.1

pub lives_leave_one : LivesLeaveOne
lives_leave_one life room other devices others one two = leads_one life None room other empty devices others one two

-- ---- what each exchange keeps

-- it holds where nothing was told yet, and each exchange keeps it
pub record IsKept (Holds : Life → Option RoomValue → Devices → Type 0) : Type 0 where
  pub begun : Holds [] None empty
  pub by_account : (past : Life) (room : Option RoomValue) (devices : Devices) (now : ℕ) (account : List ℕ) (it : AccountEvent) → Holds past room devices
      → Holds (past ++ account_exchange room devices now account it ∷ []) (answered room devices now (OfAccount account it)).room devices
  pub by_device : (past : Life) (room : Option RoomValue) (devices : Devices) (now : ℕ) (device : List ℕ) (it : DeviceEvent) → Holds past room devices
      → Holds (past ++ device_exchange devices now device it ∷ []) room (device_answered devices (OfDevice device it)).devices

module _ (Holds : Life → Option RoomValue → Devices → Type 0) (kept : IsKept Holds) where
  kept_on : (life past : Life) (a c : Option RoomValue) (d f : Devices) → LeadsTo a d life c f → Holds past a d → Holds (past ++ life) c f
  kept_on [] past a c d f leads holds =
      subst (λ (l : Life). Holds l c f) (sym (append-nil past)) (subst (λ (room : Option RoomValue). Holds past room f) (sym leads.0) (subst (λ (devices : Devices). Holds past a devices) (sym leads.1) holds))
  kept_on (((now, OfAccount account it), told) ∷ life) past a c d f leads holds =
      let answer = answered a d now (OfAccount account it) in
      let next : Holds (past ++ ((now, OfAccount account it), told) ∷ []) answer.room d =
      subst (λ (said : Reply). Holds (past ++ ((now, OfAccount account it), said) ∷ []) answer.room d) (sym leads.0) (kept.by_account past a d now account it holds)
      in
      subst (λ (l : Life). Holds l c f) (append_assoc past (((now, OfAccount account it), told) ∷ []) life) (kept_on life (past ++ ((now, OfAccount account it), told) ∷ []) answer.room c d f leads.1 next)
  kept_on (((now, OfDevice device it), told) ∷ life) past a c d f leads holds =
      let answer = device_answered d (OfDevice device it) in
      let next : Holds (past ++ ((now, OfDevice device it), told) ∷ []) a answer.devices =
      subst (λ (said : Reply). Holds (past ++ ((now, OfDevice device it), said) ∷ []) a answer.devices) (sym leads.0) (kept.by_device past a d now device it holds)
      in
      subst (λ (l : Life). Holds l c f) (append_assoc past (((now, OfDevice device it), told) ∷ []) life) (kept_on life (past ++ ((now, OfDevice device it), told) ∷ []) a c answer.devices f leads.1 next)

  -- so it holds of each life with what that left, and by `front_of_life` before each exchange
  pub of_each_life : (life : Life) (room : Option RoomValue) (devices : Devices) → IsLife life room devices → Holds life room devices
  of_each_life life room devices is = kept_on life [] None room empty devices is kept.begun
