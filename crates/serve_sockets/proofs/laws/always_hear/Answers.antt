use Rattle.serve_sockets.proofs.HearingLemmas.{always_hear}
use Rattle.serve_sockets.proofs.laws.always_hear.Goals as goal

pub returns : goal.returns
returns g c = always_hear g.S.Store
