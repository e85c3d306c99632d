-- A statement adds up, and what closes one month opens the next (all this project's own).
use Rattle.std.specs.Prelude.{◌≡◌, ℕ, ℤ, pos, ◌+◌, ◌+ℤ◌, ◌-ℤ◌, ◌<◌, ◌≤◌, ⊤, Bool, false, nat_lt, if◌then◌else◌, min, List, ◌++◌, Option}
use Rattle.std.specs.FinMap.{entries, values}
use Rattle.std.specs.List.{AllByRecursion, sum_by}
use Rattle.account_laws.specs.AccountsTold.{AccountTold, account_told}
use Rattle.account_laws.specs.Deeds.{Deed, Settled, Granted, deed_of, moment_of}
use Rattle.account_laws.specs.JobsTold.{JobTold, Stage, HasEnded, units_charged}
use Rattle.account_laws.specs.PagesTold.{statement_told}
use Rattle.account_lives.specs.Lives.{Exchange, IsLife, Life}
use Rattle.account_rules.specs.Devices.{Devices}
use Rattle.account_rules.specs.Limits.{last_moment}
use Rattle.account_rules.specs.Months.{month_at}
use Rattle.account_rules.specs.declared.account.Grant.{Grant}
use Rattle.account_rules.specs.declared.job.Job.{Job}
use Rattle.account_state.specs.Rooms.{RoomValue}
use Rattle.page_pages.specs.Movements.{charged_then, closing, granted_then, grants_then, jobs_then, opening}
use Rattle.page_pages.specs.declared.statement.Form.{Form}
use Rattle.page_pages.specs.declared.statement.Statement.{Statement}

-- ---- the balance before a month, by what was told

-- a grant (of an entry: its month, its pages) for a month before this one
abbrev pub pages_before : (month : ℕ) (grant : ℕ × ℕ) → ℕ
pages_before month grant = if nat_lt grant.0 month then grant.1 else 0

-- a moment past the last that the rules know counts as that
abbrev pub ends_before : (month : ℕ) → Stage → Bool
ends_before month (HasEnded how count units since at) = nat_lt (month_at (min at last_moment)) month
ends_before month _ = false

abbrev pub charged_before : (month : ℕ) → JobTold → ℕ
charged_before month job = if ends_before month job.stage then units_charged job else 0

-- what was granted for months before this one, less what the jobs were charged that ended before it
abbrev pub balance_before : (month : ℕ) → AccountTold → ℤ
balance_before month told =
    pos (sum_by (pages_before month) (entries told.grants))
    -ℤ pos (sum_by (charged_before month) (values told.jobs))

-- ---- the law

-- what its rows come to
abbrev pub pages_shown : Statement → ℕ
pages_shown it = sum_by (λ (grant : Grant). grant.pages) (grants_then it)

abbrev pub charges_shown : Statement → ℕ
charges_shown it = sum_by (λ (job : Job). job.standing.charged) (jobs_then it)

-- the rows lead from the opening balance to the closing one, and the sums below them are theirs
pub record AddsUp (it : Statement) (told : AccountTold) : Type 0 where
  pub opens : opening it ≡ balance_before it.first told
  pub closes : closing it ≡ balance_before (it.last + 1) told
  pub pages : granted_then it ≡ pages_shown it
  pub charges : charged_then it ≡ charges_shown it
  pub leads : closing it ≡ (opening it +ℤ pos (pages_shown it)) -ℤ pos (charges_shown it)

abbrev pub StatementsAddUp : Type 0
StatementsAddUp =
    (account : List ℕ) (first last : ℕ) (form : Form) (drawn_up : ℕ) (told : AccountTold)
    → first ≤ last → AddsUp (statement_told account first last form drawn_up told) told

-- ---- from one to the next

-- no grant for an earlier month, and no job settled in one, as where the clock was set back
abbrev pub IsNoneBefore : (month now : ℕ) → Deed → Type 0
IsNoneBefore month now (Granted granted pages) = month ≤ granted
IsNoneBefore month now (Settled device number impressions failed) =
    month ≤ month_at (min now last_moment)
IsNoneBefore month now _ = ⊤

abbrev pub AreNoneBefore : (month : ℕ) (more : Life) → Type 0
AreNoneBefore month more =
    AllByRecursion (λ (x : Exchange). IsNoneBefore month (moment_of x) (deed_of x)) more

-- what closes the months up to the last opens those behind, whatever else was asked in between
abbrev pub MonthsJoin : Type 0
MonthsJoin =
    (account : List ℕ) (first last behind : ℕ) (form other : Form) (drawn_up later : ℕ)
    (life more : Life) (room : Option RoomValue) (devices : Devices)
    → first ≤ last → last < behind → IsLife (life ++ more) room devices
    → AreNoneBefore (last + 1) more
    → closing (statement_told account first last form drawn_up (account_told life))
    ≡ opening (statement_told account (last + 1) behind other later (account_told (life ++ more)))
