use Rattle.store_rounds.proofs.LookLemmas.{looked, read_passed}
use Rattle.room_store.proofs.station_questions.hand_again.Goals as goal

pub returns-clause-looks : goal.returns-clause-looks
returns-clause-looks g c = looked g.S.Store c.args.connection.now c.find_documents.new.connection _ (read_passed g.S.Store _ _ _ c.in_ok-documents.ensures.reads)
