-- What holds of each job of a room holds of those that Get-Jobs gives.
use Rattle.std.proofs.Common.{List}
use Rattle.std.specs.List.{AllByRecursion}
use Rattle.account_asks.specs.Asks.{PlainAsk}
use Rattle.account_asks.specs.declared.ask.Which.{Which}
use Rattle.account_asks.specs.declared.ask.Which.TheVariants.{NotCompleted, Completed}
use Rattle.account_machine.specs.Queues.{chosen, asked_jobs}
use Rattle.account_rules.specs.declared.job.Job.{Job}
use Rattle.account_state.proofs.QueueOrders.{all_not_completed, all_completed, all_first_jobs}

all_chosen : (P : Job → Type 0) (which : Which) (jobs : List Job) → AllByRecursion P jobs → AllByRecursion P (chosen which jobs)
all_chosen P NotCompleted jobs all = all_not_completed P jobs all
all_chosen P Completed jobs all = all_completed P jobs all

pub all_asked : (P : Job → Type 0) (ask : PlainAsk) (jobs : List Job) → AllByRecursion P jobs → AllByRecursion P (asked_jobs ask jobs)
all_asked P ask jobs all = all_first_jobs P ask.limit (chosen ask.which jobs) (all_chosen P ask.which jobs all)
