use Rattle.rows_tables.proofs.AgreedRows.{agree_again}
use Rattle.store_copy.proofs.law.copies_agree.Goals as goal

pub returns : goal.returns
returns c = λ name source copy sound devices copied all_copied. agree_again name source copy sound.0 devices.0 sound.1 devices.1 (copied sound.0 sound.1) (all_copied devices.0 devices.1)
