use Rattle.room_core.proofs.RoomChanges.{job_restood, job_restood_keeps}
use Rattle.room_core.proofs.room.Room.restand.Goals as goal

pub invariant_of-self-2 : goal.invariant_of-self-2
invariant_of-self-2 c =
    job_restood_keeps c.args.self.now _ _ c.self.inside.jobs c.self.inside.documents c.self.inside.grants c.self.view_is c.self.invariant
    c.args.number c.args.standing _ c.restand.ensures c.requires.is_there c.args.document _ c.in_ok-push_document.ensures.pushed c.requires

pub returns-clause-changed : goal.returns-clause-changed
returns-clause-changed c =
    job_restood c.args.self.now _ _ c.self.inside.jobs c.self.inside.documents c.self.inside.grants c.self.view_is c.self.invariant
    c.args.number c.args.standing _ c.restand.ensures c.requires.is_there c.args.document _ c.in_ok-push_document.ensures.pushed c.requires
