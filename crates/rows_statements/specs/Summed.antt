-- How the jobs of an account are added up for the statement of a month, one after another (all this
-- project's own). What all of a list come to is summary_of of account_state.
use Rattle.std.specs.Prelude.{◌≡◌, ℕ, ◌+◌, ◌≤◌, if◌then◌else◌, [], ◌∷◌, Option, IfSome}
use Rattle.sqlite_value.specs.Order.{Row, column}
use Rattle.account_state.specs.Summaries.{beyond, charged_then, is_held, is_in_month, is_pending}
use Rattle.account_state.specs.declared.summary.Summary.{Summary}
use Rattle.account_rules.specs.JobStates.{is_processing}
use Rattle.account_rules.specs.Limits.{most_units, IsMoment}
use Rattle.account_rules.specs.declared.job.JobState.{JobState}
use Rattle.rows_tables.specs.Places.{job_column, cell}
use Rattle.rows_tables.specs.Cells.{moment, number}
use Rattle.rows_statements.specs.Totals.{TellsCounted}
use Rattle.rows_statements.specs.declared.summaries.Summed.{Summed}

-- the cells of a job that are summed: those that are counted, that of its end, and those of what
-- its release let it cost
abbrev pub summed_cells : Row → Row
summed_cells cells =
    cell job_column.state cells ∷ cell job_column.reserved cells ∷ cell job_column.charged cells
    ∷ cell job_column.ended cells ∷ cell job_column.impressions cells ∷ cell job_column.copies cells
    ∷ cell job_column.rate cells ∷ []

-- the row tells a job that was charged so many units beyond what its release let it cost
pub record TellsBeyond (row : Row) (charges further : ℕ) : Type 0 where
  pub impressions : ℕ
  pub copies : ℕ
  pub rate : ℕ
  pub told_impressions : column row 4 ≡ number impressions
  pub told_copies : column row 5 ≡ number copies
  pub told_rate : column row 6 ≡ number rate
  pub is : further ≡ beyond charges impressions copies rate

pub record TellsSummed (row : Row) (job : JobState) (reserves charges further : ℕ)
    (end : Option ℕ) : Type 0 where
  pub counted : TellsCounted row job reserves charges
  pub beyond : TellsBeyond row charges further
  pub ended : column row 3 ≡ moment end
  pub at_moment : IfSome end IsMoment

-- what one job comes to
abbrev pub summary_of_job : (month : ℕ) (state : JobState) (reserved charged further : ℕ)
    (ended : Option ℕ) → Summary
summary_of_job month state reserved charged further ended = record {
  reserved = reserved;
  charged = charged;
  charged_then = charged_then month ended charged;
  beyond_then = charged_then month ended further;
  held = if is_held state then 1 else 0;
  pending = if is_pending state then 1 else 0;
  processing = if is_processing state then 1 else 0;
  ended_then = if is_in_month month ended then 1 else 0;
}

-- what two come to together
abbrev pub sum_of : (summary more : Summary) → Summary
sum_of summary more = record {
  reserved = summary.reserved + more.reserved;
  charged = summary.charged + more.charged;
  charged_then = summary.charged_then + more.charged_then;
  beyond_then = summary.beyond_then + more.beyond_then;
  held = summary.held + more.held;
  pending = summary.pending + more.pending;
  processing = summary.processing + more.processing;
  ended_then = summary.ended_then + more.ended_then;
}

-- no number of it is more than units can be
pub record IsInBounds (summary : Summary) : Type 0 where
  pub reserved : summary.reserved ≤ most_units
  pub charged : summary.charged ≤ most_units
  pub charged_then : summary.charged_then ≤ most_units
  pub beyond_then : summary.beyond_then ≤ most_units
  pub held : summary.held ≤ most_units
  pub pending : summary.pending ≤ most_units
  pub processing : summary.processing ≤ most_units
  pub ended_then : summary.ended_then ≤ most_units

-- the row tells a job, which comes to so much
pub record TellsSummary (month : ℕ) (row : Row) (summary : Summary) : Type 0 where
  pub state : JobState
  pub reserved : ℕ
  pub charged : ℕ
  pub further : ℕ
  pub ended : Option ℕ
  pub told : TellsSummed row state reserved charged further ended
  pub is : summary ≡ summary_of_job month state reserved charged further ended

-- which is added
pub record SumsJob (month : ℕ) (first : Summary) (row : Row) (last : Summary) : Type 0 where
  pub job : Summary
  pub told : TellsSummary month row job
  pub added : last ≡ sum_of first job
  pub within : IsInBounds last

-- as a walk over the jobs gathers it: the month stays
abbrev pub gathers_summed : Summed → Row → Summed → Type 0
gathers_summed first row last =
    (last.month ≡ first.month) × SumsJob first.month first.summary row last.summary

-- it tells none that can be added
abbrev pub refuses_summed : Summed → Row → Type 0
refuses_summed first row = (job : Summary) → TellsSummary first.month row job
    → IsInBounds (sum_of first.summary job) → ⊥
