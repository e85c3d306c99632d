-- A month is granted once (all this project's own).
use Rattle.std.specs.Prelude.{◌≡◌, ◌⊎◌, ℕ, ◌≤◌, Bool, false, ◌==◌, codes, List, [], ◌∷◌, ◌++◌, count_by, Some}
use Rattle.std.specs.Fmt.{decimal}
use Rattle.account_machine.specs.Events.{OfAccount, Grant}
use Rattle.account_machine.specs.declared.event.Reply.{Reply}
use Rattle.account_machine.specs.declared.event.Reply.TheVariants as reply
use Rattle.account_laws.specs.AccountsTold.{AccountTold, account_told}
use Rattle.account_laws.specs.Deeds.{Deed, Granted, deed_of}
use Rattle.account_lives.specs.Lives.{Exchange, Life, OfLives}
use Rattle.account_laws.specs.OperatorAnswers.{month_answer}

-- a grant of a month, with what it was told
abbrev pub grant_told :
    (now : ℕ) (account : List ℕ) (month pages : ℕ) (said : Reply) → Exchange
grant_told now account month pages said = ((now, OfAccount account (Grant month pages)), said)

-- ---- a month that has pages

-- it is told that the month has these pages, or others, and nothing of what was told changes
pub record IsToldHeld (held pages : ℕ) (said : Reply) (before after : AccountTold) : Type 0 where
  pub told : said ≡ reply.Line (month_answer (Some held) pages)
  pub unchanged : after ≡ before

-- so is each grant of a month that was granted before, of whatever pages, and whatever stood
-- between
abbrev pub MonthsGrantedOnce : Type 0
MonthsGrantedOnce = OfLives (λ life.
    (past between later : Life) (first : Exchange) (now : ℕ) (account : List ℕ)
    (month held pages : ℕ) (said : Reply)
    → let before = past ++ first ∷ between in
    let second = grant_told now account month pages said in
    life ≡ before ++ second ∷ later → deed_of first ≡ Granted month held
    → IsToldHeld held pages said (account_told before) (account_told (before ++ second ∷ [])))

-- a deed grants the month
abbrev pub grants_month : (month : ℕ) → Deed → Bool
grants_month month (Granted of pages) = month == of
grants_month month _ = false

-- so no month is granted twice
abbrev pub NoMonthTwice : Type 0
NoMonthTwice = OfLives (λ life.
    (month : ℕ) → count_by (λ (x : Exchange). grants_month month (deed_of x)) life ≤ 1)

-- ---- a grant that is sent again

-- it was granted, or had been
abbrev pub IsGranted : Reply → Type 0
IsGranted said = (said ≡ reply.Line (codes "ok")) ⊎ (said ≡ reply.Line (codes "same"))

abbrev pub IsConflict : (held : ℕ) → Reply → Type 0
IsConflict held said = said ≡ reply.Line (codes "conflict " ++ decimal held)

-- What was granted is told to be the same, a conflict is told to be that conflict, and nothing of
-- what was told changes.
pub record IsToldAgain (said again : Reply) (before after : AccountTold) : Type 0 where
  pub same : IsGranted said → again ≡ reply.Line (codes "same")
  pub conflicts : (held : ℕ) → IsConflict held said → IsConflict held again
  pub unchanged : IsGranted said ⊎ ((held : ℕ) × IsConflict held said) → after ≡ before

-- so it goes with the same grant, whatever stood between
abbrev pub GrantsSentAgain : Type 0
GrantsSentAgain = OfLives (λ life.
    (past between later : Life) (now then : ℕ) (account : List ℕ) (month pages : ℕ)
    (said again : Reply)
    → let before = past ++ grant_told now account month pages said ∷ between in
    let second = grant_told then account month pages again in
    life ≡ before ++ second ∷ later
    → IsToldAgain said again (account_told before) (account_told (before ++ second ∷ [])))
