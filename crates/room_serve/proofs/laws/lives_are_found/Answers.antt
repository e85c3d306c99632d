use Rattle.room_serve.proofs.FoundLives as proof
use Rattle.room_serve.proofs.FoundLists as lists
use Rattle.room_serve.proofs.laws.lives_are_found.Goals as goal

pub returns-clause-answered : goal.returns-clause-answered
returns-clause-answered g c = proof.answered_is_found g.S.Store

pub returns-clause-under_way : goal.returns-clause-under_way
returns-clause-under_way g c = proof.under_way_is_found g.S.Store

pub returns-clause-lists : goal.returns-clause-lists
returns-clause-lists g c = lists.lists_are_found g.S.Store
