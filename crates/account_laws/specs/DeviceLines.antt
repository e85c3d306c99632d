-- A line on a device sets one thing of that device, and nothing else sets anything of a device (all
-- this project's own).
use Rattle.std.specs.Prelude.{◌≡◌, ◌≢◌, ℕ, Bool, List, [], ◌∷◌, ◌++◌, Some, is_none, MatchBool}
use Rattle.std.specs.FinMap.{get}
use Rattle.account_machine.specs.Events.{AccountEvent, OfAccount, OfDevice, Switch, Rate}
use Rattle.account_machine.specs.declared.event.Reply.{Reply}
use Rattle.account_laws.specs.AccountsTold.{AccountTold, account_told}
use Rattle.account_lives.specs.Lives.{Life, OfLives}

-- ---- what is set

-- nothing is told of the account
pub record KeepsAccount (before after : AccountTold) : Type 0 where
  pub opened : after.opened ≡ before.opened
  pub jobs : after.jobs ≡ before.jobs
  pub next : after.next ≡ before.next
  pub grants : after.grants ≡ before.grants

-- the device is on from then, or off; each other, and each rate, stays as it was
pub record SetsFlag (device : List ℕ) (on : Bool) (before after : AccountTold) : Type 0 where
  pub account : KeepsAccount before after
  pub flag : get after.on device ≡ Some on
  pub others : (name : List ℕ) → name ≢ device → get after.on name ≡ get before.on name
  pub rates : after.rates ≡ before.rates

-- the device has the rate from then; each other, and which are on, stays as it was
pub record SetsRate (device : List ℕ) (units : ℕ) (before after : AccountTold) : Type 0 where
  pub account : KeepsAccount before after
  pub rate : get after.rates device ≡ Some units
  pub others : (name : List ℕ) → name ≢ device → get after.rates name ≡ get before.rates name
  pub on : after.on ≡ before.on

pub record KeepsDevices (before after : AccountTold) : Type 0 where
  pub on : after.on ≡ before.on
  pub rates : after.rates ≡ before.rates

-- ---- the laws

-- a line turns its device on or off
abbrev pub TurnsSetOneFlag : Type 0
TurnsSetOneFlag = OfLives (λ life.
    (past later : Life) (now : ℕ) (device : List ℕ) (on : Bool) (said : Reply)
    → life ≡ past ++ ((now, OfDevice device (Switch on)), said) ∷ later
    → SetsFlag device on
    (account_told past)
    (account_told (past ++ ((now, OfDevice device (Switch on)), said) ∷ [])))

-- or sets its rate, where the device is known, and else nothing
abbrev pub RatesSetOneRate : Type 0
RatesSetOneRate = OfLives (λ life.
    (past later : Life) (now : ℕ) (device : List ℕ) (units : ℕ) (said : Reply)
    → life ≡ past ++ ((now, OfDevice device (Rate units)), said) ∷ later
    → let before = account_told past in
    let after = account_told (past ++ ((now, OfDevice device (Rate units)), said) ∷ []) in
    MatchBool (is_none (get before.on device))
    (after ≡ before)
    (SetsRate device units before after))

-- no event of an account sets anything of a device
abbrev pub AccountsSetNoDevice : Type 0
AccountsSetNoDevice = OfLives (λ life.
    (past later : Life) (now : ℕ) (account : List ℕ) (it : AccountEvent) (said : Reply)
    → life ≡ past ++ ((now, OfAccount account it), said) ∷ later
    → KeepsDevices
    (account_told past)
    (account_told (past ++ ((now, OfAccount account it), said) ∷ [])))
