-- A request is done exactly where it passes all of its checks (RFC 8011 section 4.1; the checks are
-- this project's own).
use Rattle.std.specs.Prelude.{◌≡◌, ℕ, true, List, ◌∷◌, ◌++◌, Some, None, Ok}
use Rattle.account_asks.specs.Asks.{PlainAsk, ask_of}
use Rattle.account_machine.specs.Events.{OfAccount, Ipp}
use Rattle.account_machine.specs.declared.event.Reply.{Reply}
use Rattle.account_laws.specs.AccountsTold.{AccountTold, account_told}
use Rattle.account_lives.specs.Lives.{Life, OfLives}
use Rattle.account_laws.specs.Refusals.{first_refusal}
use Rattle.account_laws.specs.RequestAnswers.{operation_checks}
use Rattle.account_laws.specs.Told.{is_successful}

-- The account was opened, the bytes are a request that passes the checks of requests, and nothing
-- that was told before stands against what it asks.
pub record Passes (told : AccountTold) (now : ℕ) (account body : List ℕ) : Type 0 where
  pub moment : ℕ
  pub opened : told.opened ≡ Some moment
  pub ask : PlainAsk
  pub asks : ask_of account body ≡ Ok ask
  pub stands : first_refusal (operation_checks told now ask ask.operation) ≡ None

-- what is told as successful (section B.1.2) passed, and what passes is told so
abbrev pub DoneExactlyWhere : Type 0
DoneExactlyWhere = OfLives (λ life.
    (past later : Life) (now : ℕ) (account body : List ℕ) (said : Reply)
    → life ≡ past ++ ((now, OfAccount account (Ipp body)), said) ∷ later
    → (is_successful said ≡ true → Passes (account_told past) now account body)
    × (Passes (account_told past) now account body → is_successful said ≡ true))
