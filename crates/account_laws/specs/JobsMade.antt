-- Which request made a job (all this project's own).
use Rattle.std.specs.Prelude.{◌≡◌, ℕ, ◌+◌, Bool, true, false, count_by, ◌∷◌, ◌++◌}
use Rattle.account_asks.specs.Asks.{PlainAsk}
use Rattle.account_laws.specs.Deeds.{Deed, Made, deed_of}
use Rattle.account_lives.specs.Lives.{Exchange, Life}

abbrev pub is_making : Deed → Bool
is_making (Made ask) = true
is_making _ = false

-- so many jobs were made
abbrev pub jobs_made : Life → ℕ
jobs_made life = count_by (λ (x : Exchange). is_making (deed_of x)) life

-- The request made the job with the number. Jobs are numbered from 1 on, as they are made.
pub record IsMadeBy (number : ℕ) (ask : PlainAsk) (life : Life) : Type 0 where
  pub before : Life
  pub making : Exchange
  pub behind : Life
  pub are_these : life ≡ before ++ making ∷ behind
  pub makes : deed_of making ≡ Made ask
  pub numbered : number ≡ jobs_made before + 1
