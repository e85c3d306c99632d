use Rattle.rows_statements.proofs.NamesKept as lemma
use Rattle.rows_statements.proofs.law.names_stay.Goals as goal

pub returns : goal.returns
returns c = lemma.names_stay
