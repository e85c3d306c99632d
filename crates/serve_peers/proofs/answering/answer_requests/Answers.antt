use Rattle.serve_peers.proofs.Services.{calls_continue}
use Rattle.serve_peers.proofs.answering.answer_requests.Goals as goal

pub returns-clause-continues : goal.returns-clause-continues
returns-clause-continues g c = let more = c.advance.ensures.calls in calls_continue _ _ _ g.met.V.RoomService.continues more.0 _ _ more.2
