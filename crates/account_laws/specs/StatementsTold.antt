-- The line of a month's statement, by what was told of the jobs (this project's own).
use Rattle.std.specs.Prelude.{ℕ, ◌-◌, ◌==◌, Bool, true, false, if◌then◌else◌, codes, count_by, List, ◌++◌}
use Rattle.std.specs.FinMap.{values}
use Rattle.std.specs.Fmt.{decimal}
use Rattle.std.specs.List.{sum_by}
use Rattle.account_laws.specs.AccountsTold.{AccountTold}
use Rattle.account_laws.specs.JobsTold.{JobTold, Stage, HasEnded, IsFree, is_printing, need_told, units_charged}
use Rattle.account_laws.specs.LinesTold.{IsAnswered, if_opened, left_line}
use Rattle.account_laws.specs.StationAnswers.{is_waiting}
use Rattle.account_questions.specs.declared.question.About.TheVariants.{Statement}
use Rattle.account_questions.specs.declared.question.Question.TheVariants.{Account}
use Rattle.account_rules.specs.Months.{month_at}

-- a job was released, and no device has begun it
abbrev pub is_free : Stage → Bool
is_free (IsFree device rate units) = true
is_free _ = false

abbrev pub ends_in : (month : ℕ) → Stage → Bool
ends_in month (HasEnded how count units since at) = month_at at == month
ends_in month _ = false

-- what it was charged counts in the month in which it ended
abbrev pub charged_in : (month : ℕ) → JobTold → ℕ
charged_in month job = if ends_in month job.stage then units_charged job else 0

-- what of that is more than its release let it cost
abbrev pub beyond_in : (month : ℕ) → JobTold → ℕ
beyond_in month job =
    if ends_in month job.stage then units_charged job - need_told job.impressions job.rate job
    else 0

-- the charges of the jobs that ended in the month; how many jobs are held, released and printed now,
-- and how many ended in the month; and how much of the charges lies beyond
abbrev pub month_line : (told : AccountTold) (month : ℕ) → List ℕ
month_line told month =
    let jobs = values told.jobs in
    codes " month "
    ++ (decimal (sum_by (charged_in month) jobs)
    ++ (codes " held "
    ++ (decimal (count_by (λ (job : JobTold). is_waiting job.stage) jobs)
    ++ (codes " pending "
    ++ (decimal (count_by (λ (job : JobTold). is_free job.stage) jobs)
    ++ (codes " processing "
    ++ (decimal (count_by (λ (job : JobTold). is_printing job.stage) jobs)
    ++ (codes " ended "
    ++ (decimal (count_by (λ (job : JobTold). ends_in month job.stage) jobs)
    ++ (codes " beyond " ++ decimal (sum_by (beyond_in month) jobs)))))))))))

-- what is left, as it is told alone, and then the month
abbrev pub StatementsAreTold : Type 0
StatementsAreTold = (account : List ℕ) (month : ℕ)
    → IsAnswered (Account account (Statement month)) (λ told.
    if_opened told (left_line told month ++ month_line told month))
