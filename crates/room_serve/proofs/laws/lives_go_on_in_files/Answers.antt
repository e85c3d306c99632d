use Rattle.room_serve.proofs.LivesOn as proof
use Rattle.room_serve.proofs.laws.lives_go_on_in_files.Goals as goal

pub returns-clause-runs : goal.returns-clause-runs
returns-clause-runs g c = proof.lives_go_on_in_runs

pub returns-clause-lists : goal.returns-clause-lists
returns-clause-lists g c = proof.lives_go_on_in_lists g.S.Store

pub returns-clause-messages : goal.returns-clause-messages
returns-clause-messages g c = proof.messages_are_events g.S.Store

pub returns-clause-join : goal.returns-clause-join
returns-clause-join g c = proof.lists_join g.S.Store
