use Rattle.serve_peers.proofs.full_disk.apply_or_free_space.Goals as goal

pub returns : goal.returns
returns g c = c.apply_again_from_space.ensures c.args.rounds.now (c.apply_again_from_space-answer.ensures c.args.rounds.now c.apply_in_own_transaction-answer.ensures)
