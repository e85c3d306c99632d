use Rattle.room_core.proofs.RoomChanges.{grant_added, grant_added_keeps}
use Rattle.room_core.proofs.room.Room.add_grant.Goals as goal

pub invariant_of-self-2 : goal.invariant_of-self-2
invariant_of-self-2 c =
    grant_added_keeps c.args.self.now _ _ c.self.inside.jobs c.self.inside.documents c.self.inside.grants c.self.view_is c.self.invariant
    c.args.month c.args.pages _ c.in_ok-push_grant.ensures.pushed c.requires

pub returns-clause-changed : goal.returns-clause-changed
returns-clause-changed c =
    grant_added c.args.self.now _ _ c.self.inside.jobs c.self.inside.documents c.self.inside.grants c.self.view_is c.self.invariant
    c.args.month c.args.pages _ c.in_ok-push_grant.ensures.pushed c.requires
