use Rattle.std.proofs.Common.{not, ap, ◌∙◌}
use Rattle.rows_tables.proofs.Going.{goes_by}
use Rattle.rows_statements.proofs.RoundTexts.{commit_fails, commit_survives, ends, fails, mode_alone}
use Rattle.rows_statements.proofs.rounds.commit_round.Goals as goal

pub returns-in-Ok-clause-ends : goal.returns-in-Ok-clause-ends
returns-in-Ok-clause-ends g c clean = ends _ _ _ (c.in-Ok.ensures.runs clean)

pub returns-in-Err-clause-undone : goal.returns-in-Err-clause-undone
returns-in-Err-clause-undone g c clean inside = commit_fails _ _ _ (c.in-Err.ensures.runs clean) inside

pub returns-in-Err-clause-refused : goal.returns-in-Err-clause-refused
returns-in-Err-clause-refused g c clean = (fails _ _ _ _ _ (c.in-Err.ensures.runs clean)).stays

pub returns-in-Ok-clause-connection : goal.returns-in-Ok-clause-connection
returns-in-Ok-clause-connection g c =
    goes_by _ _ _ c.execute.ensures.survives (λ clean is_open. (ends _ _ _ (c.in-Ok.ensures.runs clean)).opened.0) (λ clean alone. (ends _ _ _ (c.in-Ok.ensures.runs clean)).mode)

pub returns-in-Err-clause-connection : goal.returns-in-Err-clause-connection
returns-in-Err-clause-connection g c =
    goes_by _ _ _ c.execute.ensures.survives (λ clean. (fails _ _ _ _ _ (c.in-Err.ensures.runs clean)).back) (λ clean alone. mode_alone _ _ (ap not alone) (fails _ _ _ _ _ (c.in-Err.ensures.runs clean)).stays ∙ alone)

pub returns-in-Ok-clause-survives : goal.returns-in-Ok-clause-survives
returns-in-Ok-clause-survives g c = commit_survives _ _ c.execute.ensures.survives

pub returns-in-Err-clause-survives : goal.returns-in-Err-clause-survives
returns-in-Err-clause-survives g c = commit_survives _ _ c.execute.ensures.survives
