use Rattle.std.proofs.Common.{not, ap, ◌∙◌, rules}
use Rattle.rows_tables.proofs.Going.{goes_by}
use Rattle.rows_statements.proofs.RoundTexts.{begin_survives, begins, fails, mode_alone, same_alone}
use Rattle.rows_statements.proofs.rounds.begin_round.Goals as goal

pub returns-in-Ok-clause-begins : goal.returns-in-Ok-clause-begins
returns-in-Ok-clause-begins g c clean = begins _ _ _ (λ alone. c.is_autocommit.ensures.settled (c.is_autocommit.ensures.value ∙ alone)) (c.in-Ok.ensures.runs clean)

pub returns-in-Err-clause-unchanged : goal.returns-in-Err-clause-unchanged
returns-in-Err-clause-unchanged g c clean = same_alone _ _ (λ alone. c.is_autocommit.ensures.settled (c.is_autocommit.ensures.value ∙ alone)) (search rules) (fails _ _ _ _ _ (c.in-Err.ensures.runs clean))

pub returns-in-Err-clause-connection : goal.returns-in-Err-clause-connection
returns-in-Err-clause-connection g c =
    goes_by _ _ _ c.execute.ensures.survives (λ clean. (fails _ _ _ _ _ (c.in-Err.ensures.runs clean)).back) (λ clean alone. mode_alone _ _ (ap not alone) (fails _ _ _ _ _ (c.in-Err.ensures.runs clean)).stays ∙ alone)

pub returns-in-Ok-clause-survives : goal.returns-in-Ok-clause-survives
returns-in-Ok-clause-survives g c = begin_survives _ _ c.execute.ensures.survives

pub returns-in-Err-clause-survives : goal.returns-in-Err-clause-survives
returns-in-Err-clause-survives g c = begin_survives _ _ c.execute.ensures.survives
