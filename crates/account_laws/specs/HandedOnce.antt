-- A job's documents are handed out once at most, and it is settled once at most (all this project's
-- own).
use Rattle.std.specs.Prelude.{ℕ, ◌≤◌, ◌==◌, Bool, false, count_by}
use Rattle.account_laws.specs.Deeds.{Deed, Started, Settled, deed_of}
use Rattle.account_lives.specs.Lives.{Exchange, OfLives}

abbrev pub hands_out : (number : ℕ) → Deed → Bool
hands_out number (Started device job) = number == job
hands_out number _ = false

abbrev pub settles : (number : ℕ) → Deed → Bool
settles number (Settled device job impressions failed) = number == job
settles number _ = false

-- however long a life is
abbrev pub HandedOnce : Type 0
HandedOnce = OfLives (λ life.
    (number : ℕ) → count_by (λ (x : Exchange). hands_out number (deed_of x)) life ≤ 1)

abbrev pub SettledOnceAtMost : Type 0
SettledOnceAtMost = OfLives (λ life.
    (number : ℕ) → count_by (λ (x : Exchange). settles number (deed_of x)) life ≤ 1)
