use Rattle.std.proofs.Common.{◌∷◌}
use Rattle.input_lines.proofs.Taken.{AreFields-taken}
use Rattle.input_lines.proofs.questions.read_question.Goals as goal

pub returns-clause-said : goal.returns-clause-said
returns-clause-said c =
    let kind = c.in_ok-kind in
    let rest = c.in_ok-question.ensures.said in
    (kind.kind.now ∷ rest.0, AreFields-taken _ _ _ kind.kind.now rest.0 kind.ensures.took rest.1 c.in_ok-end.ensures.none_left, rest.2)
