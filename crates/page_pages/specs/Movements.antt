-- Rule: What a statement reckons with: the grants for its months, the jobs that ended in them, and
-- what was granted and charged before (all this project's own).
use Rattle.std.specs.Prelude.{ℕ, ℤ, pos, ◌+◌, ◌-◌, Bool, false, ◌&&◌, nat_le, if◌then◌else◌, min, List, filter, Option, Some, None}
use Rattle.std.specs.List.{sum_by}
use Rattle.account_rules.specs.Limits.{last_moment}
use Rattle.account_rules.specs.Months.{month_at}
use Rattle.account_rules.specs.Quota.{left_of}
use Rattle.account_rules.specs.declared.account.Grant.{Grant}
use Rattle.account_rules.specs.declared.job.Job.{Job}
use Rattle.page_pages.specs.declared.statement.Statement.{Statement}

-- ---- the months of a statement

-- a month is none before the first and none behind the last
abbrev pub is_within : (first last month : ℕ) → Bool
is_within first last month = nat_le first month && nat_le month last

-- an end, if there was one, was in one of these months
abbrev pub is_then : (first last : ℕ) (ended : Option ℕ) → Bool
is_then first last None = false
is_then first last (Some at) = is_within first last (month_at (min at last_moment))

-- an end, if there was one, was in this month or later
abbrev pub is_since : (month : ℕ) (ended : Option ℕ) → Bool
is_since month None = false
is_since month (Some at) = nat_le month (month_at (min at last_moment))

-- the month in which the statement is drawn up
abbrev pub drawn_in : Statement → ℕ
drawn_in it = month_at (min it.drawn_up last_moment)

-- ---- the rows: what moved in these months

-- each grant for one of them
abbrev pub grants_then : Statement → List Grant
grants_then it = filter (λ (grant : Grant). is_within it.first it.last grant.month) it.grants

-- each job that ended in one of them
abbrev pub jobs_then : Statement → List Job
jobs_then it = filter (λ (job : Job). is_then it.first it.last job.standing.ended) it.ended

-- ---- before, and at the end

abbrev pub pages_within : (first last : ℕ) → Grant → ℕ
pages_within first last grant = if is_within first last grant.month then grant.pages else 0

abbrev pub charged_since : (month : ℕ) → Job → ℕ
charged_since month job = if is_since month job.standing.ended then job.standing.charged else 0

-- what was granted for months before this one: all up to the last, less what was for it and later
-- ones
abbrev pub granted_before : (month : ℕ) → Statement → ℕ
granted_before month it = it.granted - sum_by (pages_within month it.last) it.grants

-- what jobs were charged that ended before this month: all that was charged, less what was in it
-- and later
abbrev pub charged_before : (month : ℕ) → Statement → ℕ
charged_before month it = it.charged - sum_by (charged_since month) it.ended

-- a balance: what was granted less what was charged, below zero where that is more. What jobs
-- reserve is no part of it.
abbrev pub balance : (granted charged : ℕ) → ℤ
balance granted charged = left_of (pos granted) (pos 0) (pos charged)

-- as the first month begins
abbrev pub opening : Statement → ℤ
opening it = balance (granted_before it.first it) (charged_before it.first it)

-- as the last month ends
abbrev pub closing : Statement → ℤ
closing it = balance it.granted (charged_before (it.last + 1) it)

-- ---- in between

abbrev pub granted_then : Statement → ℕ
granted_then it = it.granted - granted_before it.first it

abbrev pub charged_then : Statement → ℕ
charged_then it = charged_before (it.last + 1) it - charged_before it.first it

-- pages are given back by a grant for a month before January 2000
abbrev pub first_of_grants : ℕ
first_of_grants = 24000

-- what of that before the first month was given back
abbrev pub given_back : Statement → ℕ
given_back it = granted_before (min it.first first_of_grants) it
