use Rattle.store_events.proofs.Readable as lemma
use Rattle.store_events.proofs.law.sound_rows_are_readable.Goals as goal

pub returns : goal.returns
returns c = lemma.sound_rows_are_readable
