use Rattle.std.proofs.Common.{rules}
use Rattle.store_rounds.proofs.OnDisk.{on_disk_so}
use Rattle.store_rounds.proofs.rounds.Rounds.is_under_way.Goals as goal

pub returns-clause-on_disk : goal.returns-clause-on_disk
returns-clause-on_disk g c isnt = on_disk_so _ (search rules) (search rules) (λ is_open found. g.met.S.Store.settled _ found is_open)
