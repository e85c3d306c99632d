use Rattle.rows_tables.proofs.ReadBackLemmas as lemma
use Rattle.rows_tables.proofs.law.rows_are_read_back.Goals as goal

pub returns : goal.returns
returns c = lemma.rows_are_read_back
