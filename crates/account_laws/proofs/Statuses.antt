-- The statuses of refusals are those of errors.
use Rattle.std.proofs.Common.{◌≡◌, ℕ, true, false, ◌&&◌, nat_le, nat_lt, cond, List, Some, Result, Ok, Err, refl, sym, subst, arith}
use Rattle.std.proofs.lemmas.Grind.{common_steps}
use Rattle.account_asks.specs.Asks.{PlainAsk, PlainRefusal, ask_of}
use Rattle.account_laws.proofs.CodedRefusals.{refusals_are_coded}
use Rattle.account_laws.specs.AccountsTold.{AccountTold}
use Rattle.account_laws.specs.RefusalCodes.{code_of}
use Rattle.account_laws.specs.Refusals.{first_refusal}
use Rattle.account_laws.specs.RequestAnswers.{operation_checks}
use Rattle.account_replies.specs.Queues.{accepting_refusal, is_accepting}
use Rattle.account_rules.specs.Acts.{Act}
use Rattle.account_rules.specs.Effects.{refused}
use Rattle.account_rules.specs.Moves.{move}
use Rattle.account_rules.specs.declared.job.Standing.{Standing}
use Rattle.account_rules.specs.declared.refusal.Refusal.{Refusal}
use Rattle.account_rules.specs.declared.refusal.Word.{Word}
use Rattle.account_rules.specs.declared.refusal.Word.TheVariants.{NotAccepting, Version}

-- the status of an error, of a client or of the server (RFC 8011 section B.1)
abbrev pub IsError : (status : ℕ) → Type 0
IsError status = (nat_le 0x0400 status && nat_lt status 0x10000) ≡ true

-- a refusal, if it is one, is an error
abbrev pub RefusesByError : {A : Type 0} → Result A Refusal → Type 0
RefusesByError (Ok x) = Unit {0}
RefusesByError (Err refusal) = IsError refusal.status

-- ---- whether a job is taken

-- one that is not taken is refused by an error
pub accepting_errs : (unfinished next : ℕ) → RefusesByError (accepting_refusal unfinished next)
accepting_errs unfinished next =
    elim (is_accepting unfinished next) as (λ b. RefusesByError (cond b (Ok tt) (Err (record { status = 0x0506; word = NotAccepting }))))
    [ true ↦ tt | false ↦ refl ]

-- ---- the table of states

-- each refusal of the table is an error
move_refuses : (act : Act) (s : Standing) (refusal : Refusal) → move act s ≡ Err refusal → IsError refusal.status
move_refuses act s refusal is = grind (arith, common_steps)

-- what holds of each refusal holds of the one that there is, if there is one
errs_of : {A : Type 0} (decided : Result A Refusal) → ((refusal : Refusal) → decided ≡ Err refusal → IsError refusal.status) → RefusesByError decided
errs_of (Ok x) each = tt
errs_of (Err refusal) each = each refusal refl

pub move_errs : (act : Act) (s : Standing) → RefusesByError (move act s)
move_errs act s = errs_of (move act s) (move_refuses act s)

-- ---- the checks of requests

-- the code of each word is that of an error
code_errs : (word : Word) → IsError (code_of word)
code_errs Version = refl
code_errs _ = refl

-- a request is refused by an error, as it is read
pub ask_errs : (account body : List ℕ) (refused : PlainRefusal) → ask_of account body ≡ Err refused → IsError refused.refusal.status
ask_errs account body refused is = subst IsError (sym (refusals_are_coded.read account body refused is)) (code_errs refused.refusal.word)

-- and for what was told before
pub told_errs : (told : AccountTold) (now : ℕ) (ask : PlainAsk) (refusal : Refusal) → first_refusal (operation_checks told now ask ask.operation) ≡ Some refusal → IsError refusal.status
told_errs told now ask refusal is = subst IsError (sym (refusals_are_coded.told told now ask refusal is)) (code_errs refusal.word)
