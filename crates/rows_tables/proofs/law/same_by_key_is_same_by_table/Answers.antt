use Rattle.rows_tables.proofs.SameByKey as lemma
use Rattle.rows_tables.proofs.law.same_by_key_is_same_by_table.Goals as goal

pub returns : goal.returns
returns c = lemma.same_by_key_is_same_by_table
