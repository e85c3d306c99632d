use Rattle.std.proofs.Common.{◌≡◌, sym, ap, subst, ◌∙◌, ◌==◌}
use Rattle.std.specs.Option.{option_copied}
use Rattle.std.specs.List.{find as first}
use Rattle.std.specs.FinMap.{get}
use Rattle.account_rules.specs.declared.job.Job.{Job}
use Rattle.account_state.specs.Rooms.{RoomValue}
use Rattle.account_state.specs.RoomRules.{IsRoom, IsJobAt}
use Rattle.room_core.proofs.JobLists.{get_job}
use Rattle.room_core.proofs.Lookups.{copied_keeps}
use Rattle.account_state.proofs.Lookups.{none_so_numbered}
use Rattle.room_core.proofs.room.Room.job.Goals as goal

found : (c : goal.After-find_job) → option_copied c.find_job.result ≡ get c.args.self.now.jobs c.args.number
found c = c.find_job.ensures ∙ ap (first (λ (job : Job). job.job == c.args.number)) c.as_slice-jobs.ensures
    ∙ sym (get_job c.self.inside.jobs c.args.number) ∙ ap (λ (room : RoomValue). get room.jobs c.args.number) c.self.view_is

pub returns-clause-job : goal.returns-clause-job
returns-clause-job c = found c

pub returns-clause-by_the_rules : goal.returns-clause-by_the_rules
returns-clause-by_the_rules c = copied_keeps (IsJobAt c.args.self.now.next c.args.number) c.find_job.result _ (found c) ((subst IsRoom c.self.view_is c.self.invariant.3).jobs c.args.number)

pub returns-then-not-may_be_job-clause-job : goal.returns-then-not-may_be_job-clause-job
returns-then-not-may_be_job-clause-job c = sym (none_so_numbered c.args.self.now c.args.number (subst IsRoom c.self.view_is c.self.invariant.3) (sym c.may_be_job.ensures ∙ c.if-not-may_be_job.true))
