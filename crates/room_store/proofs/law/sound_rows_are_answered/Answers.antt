use Rattle.room_store.proofs.Answered as lemma
use Rattle.room_store.proofs.law.sound_rows_are_answered.Goals as goal

pub returns : goal.returns
returns c = lemma.sound_rows_are_answered
