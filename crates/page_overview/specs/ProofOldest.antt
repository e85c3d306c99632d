-- For the proof of the code alone: the oldest lines, one job after another (all this project's own).
use Rattle.std.specs.Prelude.{ℕ, List, Option, None, Some}
use Rattle.page_overview.specs.Lines.{begun_line, longest_line}
use Rattle.page_overview.specs.Overviews.{begun_at, made_at, put_oldest}
use Rattle.page_pages.specs.declared.begun.BegunLine.{BegunLine}
use Rattle.page_pages.specs.declared.longest.LongestLine.{LongestLine}
use Rattle.account_rules.specs.declared.job.Job.{Job}

abbrev pub put_any : {L : Type 0} → (from : L → ℕ) (lines : List L) (line : Option L) → List L
put_any from lines None = lines
put_any from lines (Some line) = put_oldest from lines line

abbrev pub put_begun_line : (account : List ℕ) (lines : List BegunLine) → Job → List BegunLine
put_begun_line account lines job = put_any begun_at lines (begun_line account job)

abbrev pub put_longest_line : (account : List ℕ) (lines : List LongestLine) → Job
    → List LongestLine
put_longest_line account lines job = put_any made_at lines (longest_line account job)
