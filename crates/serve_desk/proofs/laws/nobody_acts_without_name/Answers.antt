use Rattle.serve_desk.proofs.Nobody.{nobody_acts_without_name}
use Rattle.serve_desk.proofs.laws.nobody_acts_without_name.Goals as goal

pub returns : goal.returns
returns g c = nobody_acts_without_name g.S.Store
