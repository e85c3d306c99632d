use Rattle.rows_statements.proofs.SoundReads as lemma
use Rattle.rows_statements.proofs.law.sound_rows_are_read.Goals as goal

pub returns : goal.returns
returns c = lemma.sound_rows_are_read
