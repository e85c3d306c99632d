use Rattle.serve_peers.proofs.LineLaws.{lines_tell}
use Rattle.serve_peers.proofs.laws.lines_tell_words.Goals as goal

pub returns : goal.returns
returns g c = lines_tell g.S.Store
