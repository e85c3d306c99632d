use Rattle.serve_desk.proofs.DeskCalls.{calls_rooms, calls_same}
use Rattle.serve_desk.proofs.turn.drive_with_desk.Goals as goal

pub returns-clause-same : goal.returns-clause-same
returns-clause-same g c = calls_same g.S.Store _ _ _ _ c.drive.ensures.calls

pub returns-clause-calls : goal.returns-clause-calls
returns-clause-calls g c = calls_rooms g.S.Store _ _ _ _ c.drive.ensures.calls
