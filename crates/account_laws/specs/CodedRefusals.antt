-- A refusal of a request has the code of its word (RFC 8011 section B.1).
use Rattle.std.specs.Prelude.{◌≡◌, ℕ, List, Some, Err}
use Rattle.account_asks.specs.Asks.{PlainAsk, PlainRefusal, ask_of}
use Rattle.account_laws.specs.AccountsTold.{AccountTold}
use Rattle.account_laws.specs.RefusalCodes.{code_of}
use Rattle.account_laws.specs.Refusals.{first_refusal}
use Rattle.account_laws.specs.RequestAnswers.{operation_checks}
use Rattle.account_rules.specs.declared.refusal.Refusal.{Refusal}

pub record RefusalsAreCoded : Type 0 where
  -- each refusal of a request as it is read
  pub read : (account body : List ℕ) (refused : PlainRefusal) → ask_of account body ≡ Err refused
      → refused.refusal.status ≡ code_of refused.refusal.word
  -- and each refusal for what was told before
  pub told : (told : AccountTold) (now : ℕ) (ask : PlainAsk) (refusal : Refusal)
      → first_refusal (operation_checks told now ask ask.operation) ≡ Some refusal
      → refusal.status ≡ code_of refusal.word
