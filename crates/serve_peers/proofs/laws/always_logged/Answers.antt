use Rattle.serve_peers.proofs.laws.always_logged.Goals as goal

pub returns : goal.returns
returns g c = λ served. served.journal.told
