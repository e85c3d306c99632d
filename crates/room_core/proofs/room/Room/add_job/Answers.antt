use Rattle.room_core.proofs.RoomChanges.{job_added, job_added_keeps}
use Rattle.room_core.proofs.room.Room.add_job.Goals as goal

pub invariant_of-self-2 : goal.invariant_of-self-2
invariant_of-self-2 c =
    job_added_keeps c.args.self.now _ _ c.self.inside.jobs c.self.inside.documents c.self.inside.grants c.self.view_is c.self.invariant
    c.args.job c.args.document _ _ c.in_ok-push_job.ensures.job c.in_ok-push_job.ensures.document c.requires

pub returns-clause-changed : goal.returns-clause-changed
returns-clause-changed c =
    job_added c.args.self.now _ _ c.self.inside.jobs c.self.inside.documents c.self.inside.grants c.self.view_is c.self.invariant
    c.args.job c.args.document _ _ c.in_ok-push_job.ensures.job c.in_ok-push_job.ensures.document c.requires
