use Rattle.room_core.proofs.RoomChanges.{job_finished, job_finished_keeps}
use Rattle.room_core.proofs.room.Room.finish.Goals as goal

pub invariant_of-self : goal.invariant_of-self
invariant_of-self c =
    job_finished_keeps c.args.self.now _ _ c.self.inside.jobs c.self.inside.documents c.self.inside.grants c.self.view_is c.self.invariant
    c.args.number c.args.standing _ c.restand.ensures c.requires.is_there _ c.drop_documents.ensures c.requires

pub returns : goal.returns
returns c =
    job_finished c.args.self.now _ _ c.self.inside.jobs c.self.inside.documents c.self.inside.grants c.self.view_is c.self.invariant
    c.args.number c.args.standing _ c.restand.ensures c.requires.is_there _ c.drop_documents.ensures c.requires
