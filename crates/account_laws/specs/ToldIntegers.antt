-- The integers that answers tell need no more than 31 bits, so that each of them is read as it was
-- told (RFC 8010 section 3.9; the limits are this project's own).
use Rattle.std.specs.Prelude.{◌≡◌, ℕ, ◌<◌, ◌^◌, All, length, Some}
use Rattle.std.specs.FinMap.{get}
use Rattle.account_laws.specs.AccountsTold.{AccountTold, account_told, unfinished_told}
use Rattle.account_laws.specs.JobsTold.{JobTold}
use Rattle.account_laws.specs.RoomsStay.{IsEvent}
use Rattle.account_laws.specs.StagesTold.{count_told}
use Rattle.account_lives.specs.Lives.{Exchange, OfLives}

-- of a job; moments are told up to the greatest integer alone
pub record JobFits (number : ℕ) (job : JobTold) : Type 0 where
  pub numbered : number < 2 ^ 31
  pub documents : length job.documents < 2 ^ 31
  pub impressions : job.impressions < 2 ^ 31
  pub counted : count_told job.stage < 2 ^ 31
  pub copies : job.maker.copies < 2 ^ 31

-- of an account
pub record AccountFits (told : AccountTold) : Type 0 where
  pub jobs : (number : ℕ) (job : JobTold) → get told.jobs number ≡ Some job → JobFits number job
  pub next : told.next < 2 ^ 31
  pub unfinished : unfinished_told told < 2 ^ 31

-- by each life of events within their limits
abbrev pub IntegersFit : Type 0
IntegersFit = OfLives (λ life.
    All (λ (x : Exchange). IsEvent x.0) life → AccountFits (account_told life))
