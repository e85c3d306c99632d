use Rattle.serve_peers.proofs.Finding as proof
use Rattle.serve_peers.proofs.laws.lives_are_always_found.Goals as goal

pub returns-clause-between : goal.returns-clause-between
returns-clause-between g c = proof.kept_is_found g.S.Store (proof.lasts_by g.S.Store g.met.S.Store.settled g.met.S.Store.stays)

pub returns-clause-inside : goal.returns-clause-inside
returns-clause-inside g c = proof.round_is_not_found g.S.Store (proof.lasts_by g.S.Store g.met.S.Store.settled g.met.S.Store.stays)

pub returns-clause-round : goal.returns-clause-round
returns-clause-round g c = proof.round_is_found g.S.Store (proof.lasts_by g.S.Store g.met.S.Store.settled g.met.S.Store.stays)

pub returns-clause-alone : goal.returns-clause-alone
returns-clause-alone g c = proof.alone_is_found g.S.Store (proof.lasts_by g.S.Store g.met.S.Store.settled g.met.S.Store.stays)
