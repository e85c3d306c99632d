-- A room, one account whole, as a value: its jobs by number, their documents by place, its grants
-- by month.
use Rattle.std.specs.Prelude.{ℕ}
use Rattle.std.specs.declared.cmp.Ordering.{Ordering}
use Rattle.std.specs.Ordering.{nat_cmp, ordering_then}
use Rattle.std.specs.FinMap.{FinMap, empty}
use Rattle.account_rules.specs.declared.job.Job.{Job}
use Rattle.account_rules.specs.declared.job.Document.{Document}

-- documents go by the number of their job, and then by their own
abbrev pub place_cmp : (a b : ℕ × ℕ) → Ordering
place_cmp a b = ordering_then (nat_cmp a.0 b.0) (nat_cmp a.1 b.1)

-- opened: the moment that it was opened at; next: the number of its next job
pub record RoomValue : Type 0 where
  pub opened : ℕ
  pub next : ℕ
  pub jobs : FinMap nat_cmp Job
  pub documents : FinMap place_cmp Document
  pub grants : FinMap nat_cmp ℕ

-- a room as it is opened
abbrev pub empty_room : (now : ℕ) → RoomValue
empty_room now = record { opened = now; next = 1; jobs = empty; documents = empty; grants = empty }
