use Rattle.rows_tables.proofs.AgreedRows.{agree_again, hold_the_same}
use Rattle.room_serve.proofs.laws.agreement.Goals as goal

pub returns : goal.returns
returns c = record { rows = hold_the_same; again = agree_again }
