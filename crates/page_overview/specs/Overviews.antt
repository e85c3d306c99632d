-- Rule: An overview: what the surveys of accounts come to together (all this project's own).
use Rattle.std.specs.Prelude.{◌≡◌, ℕ, ◌<◌, List, [], ◌∷◌, map, fold, if◌then◌else◌, length, take, nat_lt, slice_index}
use Rattle.std.specs.List.{flat_map, sum_by}
use Rattle.page_overview.specs.Lines.{account_line, begun_lines, longest_lines}
use Rattle.page_overview.specs.Surveys.{told}
use Rattle.page_overview.specs.declared.days.TheConstants.{MOST_DAYS}
use Rattle.page_overview.specs.declared.oldest.TheConstants.{MOST_OLDEST}
use Rattle.page_overview.specs.declared.overview.Overview.{Overview}
use Rattle.page_overview.specs.declared.survey.Survey.{Survey}
use Rattle.page_pages.specs.declared.begun.BegunLine.{BegunLine}
use Rattle.page_pages.specs.declared.longest.LongestLine.{LongestLine}

-- an account by its name, with what it came to
abbrev pub Surveyed : Type 0
Surveyed = List ℕ × Survey

-- ---- the oldest lines

-- the moment from which the age of a line counts
abbrev pub begun_at : BegunLine → ℕ
begun_at line = line.started

abbrev pub made_at : LongestLine → ℕ
made_at line = line.created

-- before the first that is younger, or behind all
abbrev pub put_in : {L : Type 0} → (from : L → ℕ) (lines : List L) (line : L) → List L
put_in from [] line = line ∷ []
put_in from (other ∷ more) line =
    if nat_lt (from line) (from other) then line ∷ other ∷ more else other ∷ put_in from more line

-- each in its place, among those before it
abbrev pub by_age : {L : Type 0} → (from : L → ℕ) → List L → List L
by_age from lines = fold (put_in from) [] lines

abbrev pub oldest : {L : Type 0} → (from : L → ℕ) → List L → List L
oldest from lines = take MOST_OLDEST (by_age from lines)

-- one more line, of which the oldest are kept
abbrev pub put_oldest : {L : Type 0} → (from : L → ℕ) (lines : List L) (line : L) → List L
put_oldest from lines line = take MOST_OLDEST (put_in from lines line)

-- ---- the overview

abbrev pub sum_over : (of : Survey → ℕ) → List Surveyed → ℕ
sum_over of surveys = told (sum_by (λ (it : Surveyed). of it.1) surveys)

-- of these accounts
pub record Shows (surveys : List Surveyed) (it : Overview) : Type 0 where
  pub waiting : it.waiting ≡ sum_over (λ survey. length survey.unfinished) surveys
  pub unsettled : it.unsettled ≡ sum_over (λ survey. survey.summary.processing) surveys
  pub charged : it.charged ≡ sum_over (λ survey. survey.summary.charged_then) surveys
  pub beyond : it.beyond ≡ sum_over (λ survey. survey.summary.beyond_then) surveys
  pub days : (place : ℕ) → place < MOST_DAYS
      → slice_index it.days place ≡ sum_over (λ survey. slice_index survey.days place) surveys
  pub begun : it.begun.items
      ≡ oldest begun_at (flat_map (λ (it : Surveyed). begun_lines it.0 it.1.unfinished) surveys)
  pub longest : it.longest.items
      ≡ oldest made_at (flat_map (λ (it : Surveyed). longest_lines it.0 it.1.unfinished) surveys)
  pub accounts : it.accounts.items ≡ map (λ (it : Surveyed). account_line it.0 it.1) surveys
