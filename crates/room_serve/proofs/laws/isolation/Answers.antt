use Rattle.room_serve.proofs.Agreed.{isolates}
use Rattle.room_serve.proofs.laws.isolation.Goals as goal

pub returns : goal.returns
returns c = isolates
