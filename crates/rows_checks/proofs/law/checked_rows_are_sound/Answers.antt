use Rattle.rows_checks.proofs.CheckedRooms as lemma
use Rattle.rows_checks.proofs.law.checked_rows_are_sound.Goals as goal

pub returns : goal.returns
returns c = lemma.rows_in_order_are_sound
