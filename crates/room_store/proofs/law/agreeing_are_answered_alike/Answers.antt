use Rattle.room_store.proofs.Answered as lemma
use Rattle.room_store.proofs.law.agreeing_are_answered_alike.Goals as goal

pub returns : goal.returns
returns c = lemma.agreeing_are_answered_alike
