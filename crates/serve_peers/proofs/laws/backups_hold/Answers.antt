use Rattle.serve_peers.proofs.BackupMade as made
use Rattle.serve_peers.proofs.laws.backups_hold.Goals as goal

pub returns : goal.returns
returns g c = made.backups_hold g.S.Store g.T.Store
