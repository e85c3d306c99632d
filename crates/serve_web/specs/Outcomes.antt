-- Rule: What came of an act, by what its message came to (all this project's own).
use Rattle.std.specs.Prelude.{ℕ, Result, Ok, Err, unwrap_or}
use Rattle.account_machine.specs.declared.verdict.Answered.{Answered}
use Rattle.account_machine.specs.declared.verdict.Verdict.{Verdict}
use Rattle.account_machine.specs.declared.verdict.Verdict.TheVariants as verdict_is
use Rattle.client_owner.specs.declared.acts.JobAct.{JobAct}
use Rattle.client_owner.specs.declared.acts.JobAct.TheVariants as job_act
use Rattle.page_pages.specs.declared.outcome.Act.{Act}
use Rattle.page_pages.specs.declared.outcome.Act.TheVariants.{Release, Hold, Cancel}
use Rattle.page_pages.specs.declared.outcome.Outcome.{Outcome}
use Rattle.page_pages.specs.declared.outcome.Outcome.TheVariants.{Done, Refused, Failed}
use Rattle.store_rounds.specs.declared.fault.StoreFault.{StoreFault}

abbrev pub page_act : JobAct → Act
page_act job_act.Release = Release
page_act job_act.Hold = Hold
page_act job_act.Cancel = Cancel

-- the job that was made has its number from the verdict
abbrev pub outcome_of : (act : Act) (job : ℕ) → Verdict → Outcome
outcome_of act job (verdict_is.Done status number) = Done act (unwrap_or number job)
outcome_of act job (verdict_is.Refused refusal wanted) = Refused act job refusal.word

-- what came of the act, or that the store failed
abbrev pub outcome_told : (act : Act) (job : ℕ) → Result Answered StoreFault → Outcome
outcome_told act job (Ok it) = outcome_of act job it.verdict
outcome_told act job (Err fault) = Failed
