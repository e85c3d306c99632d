-- What stays of a job for good, by what was told (all this project's own).
use Rattle.std.specs.Prelude.{◌≡◌, ℕ, ◌++◌, Some}
use Rattle.std.specs.FinMap.{get}
use Rattle.account_laws.specs.AccountsTold.{AccountTold, account_told}
use Rattle.account_laws.specs.JobsTold.{JobTold}
use Rattle.account_lives.specs.Lives.{Life, OfLives}

-- the job is there, made by the same request at the same moment, so with the same name, password
-- and copies
pub record HasStayed (number : ℕ) (job : JobTold) (told : AccountTold) : Type 0 where
  pub later : JobTold
  pub is_there : get told.jobs number ≡ Some later
  pub maker : later.maker ≡ job.maker
  pub made : later.made ≡ job.made

-- however a life goes on, no job disappears, and none comes to be another's
abbrev pub JobsStay : Type 0
JobsStay = OfLives (λ life.
    (past more : Life) (number : ℕ) (job : JobTold)
    → life ≡ past ++ more → get (account_told past).jobs number ≡ Some job
    → HasStayed number job (account_told life))
