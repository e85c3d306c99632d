-- What each line of an operator is answered, by what was told before it (all this project's own).
use Rattle.std.specs.Prelude.{◌≡◌, ℕ, ◌==◌, Bool, codes, List, ◌∷◌, ◌++◌, Option, Some, None, is_none, if◌then◌else◌}
use Rattle.std.specs.FinMap.{get}
use Rattle.account_laws.specs.AccountsTold.{AccountTold, account_told}
use Rattle.account_laws.specs.RefusalTexts.{text_of}
use Rattle.account_lives.specs.Lives.{Life, OfLives}
use Rattle.account_machine.specs.Events.{OfAccount, OfDevice, Open, Grant, Switch, Rate}
use Rattle.account_machine.specs.declared.event.Reply.{Reply}
use Rattle.account_machine.specs.declared.event.Reply.TheVariants as reply
use Rattle.account_rules.specs.declared.refusal.Word.TheVariants.{Conflict, Exists, NoAccount, NoDevice, Same}

-- an account is opened once
abbrev pub open_answer : AccountTold → List ℕ
open_answer told = if is_none told.opened then codes "ok" else text_of Exists

-- a month gets its pages once, for good
abbrev pub month_answer : (held : Option ℕ) (pages : ℕ) → List ℕ
month_answer None pages = codes "ok"
month_answer (Some held) pages =
    if held == pages then text_of Same else text_of (Conflict held)

abbrev pub grant_answer : (told : AccountTold) (month pages : ℕ) → List ℕ
grant_answer told month pages =
    if is_none told.opened then text_of NoAccount else month_answer (get told.grants month) pages

-- a rate is set of a device that is known
abbrev pub rate_answer : (told : AccountTold) (device : List ℕ) → List ℕ
rate_answer told device = if is_none (get told.on device) then text_of NoDevice else codes "ok"

-- ---- the laws

abbrev pub OpeningsAreAnswered : Type 0
OpeningsAreAnswered = OfLives (λ life.
    (past later : Life) (now : ℕ) (account : List ℕ) (said : Reply)
    → life ≡ past ++ ((now, OfAccount account Open), said) ∷ later
    → said ≡ reply.Line (open_answer (account_told past)))

abbrev pub GrantsAreAnswered : Type 0
GrantsAreAnswered = OfLives (λ life.
    (past later : Life) (now : ℕ) (account : List ℕ) (month pages : ℕ) (said : Reply)
    → life ≡ past ++ ((now, OfAccount account (Grant month pages)), said) ∷ later
    → said ≡ reply.Line (grant_answer (account_told past) month pages))

-- a device can always be switched on or off
abbrev pub TurnsAreAnswered : Type 0
TurnsAreAnswered = OfLives (λ life.
    (past later : Life) (now : ℕ) (device : List ℕ) (on : Bool) (said : Reply)
    → life ≡ past ++ ((now, OfDevice device (Switch on)), said) ∷ later
    → said ≡ reply.Line (codes "ok"))

abbrev pub RatesAreAnswered : Type 0
RatesAreAnswered = OfLives (λ life.
    (past later : Life) (now : ℕ) (device : List ℕ) (units : ℕ) (said : Reply)
    → life ≡ past ++ ((now, OfDevice device (Rate units)), said) ∷ later
    → said ≡ reply.Line (rate_answer (account_told past) device))
