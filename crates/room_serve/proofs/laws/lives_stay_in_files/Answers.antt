use Rattle.room_serve.proofs.LivesOn as proof
use Rattle.room_serve.proofs.laws.lives_stay_in_files.Goals as goal

pub returns-clause-begin : goal.returns-clause-begin
returns-clause-begin g c = proof.lives_begin

pub returns-clause-open : goal.returns-clause-open
returns-clause-open g c = proof.lives_are_opened g.S.Store

pub returns-clause-migrate : goal.returns-clause-migrate
returns-clause-migrate g c = proof.lives_are_migrated g.S.Store
