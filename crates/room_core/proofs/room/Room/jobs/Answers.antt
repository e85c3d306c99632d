use Rattle.std.proofs.Common.{◌≡◌, refl, sym, subst}
use Rattle.std.specs.List.{AllByRecursion}
use Rattle.std.specs.FinMap.{values}
use Rattle.account_rules.specs.declared.job.Job.{Job}
use Rattle.account_state.specs.RoomRules.{IsRoom, IsJobAt}
use Rattle.room_core.proofs.JobLists.{jobs_seen}
use Rattle.account_state.proofs.Bounds.{values_by_the_rules}
use Rattle.room_core.proofs.room.Room.jobs.Goals as goal

all : (c : goal.After-as_slice) → c.as_slice.result.now ≡ values c.args.self.now.jobs
all c = jobs_seen _ _ c.self.inside.jobs _ c.self.view_is refl c.as_slice.ensures c.self.invariant.0

pub returns-clause-jobs : goal.returns-clause-jobs
returns-clause-jobs c = all c

pub returns-clause-by_the_rules : goal.returns-clause-by_the_rules
returns-clause-by_the_rules c =
    subst (AllByRecursion (λ (job : Job). IsJobAt c.args.self.now.next job.job job)) (sym (all c)) (values_by_the_rules c.args.self.now (subst IsRoom c.self.view_is c.self.invariant.3))
