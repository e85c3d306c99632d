use Rattle.std.proofs.Common.{◌∷◌, ◌∙◌, ap, sym}
use Rattle.input_lines.specs.ProofTaking.{left}
use Rattle.input_lines.proofs.Taken.{AreFields-taken, SaysLine-Operator, SaysLine-Script, SaysLine-Station}
use Rattle.input_lines.proofs.lines.Grammar.read_line.Goals.{in-Script+in_ok-moment-in-Script+in_ok-script_action-in-Script, in-Station+in_ok-kind-in-Station+in_ok-action-in-Station, in-Operator+in_ok-kind-in-Operator+in_ok-action-in-Operator}
use Rattle.input_lines.proofs.lines.Grammar.read_line.Goals as goal

pub returns-clause-said : goal.returns-clause-said
returns-clause-said c = elim c.match-self.branch [
  | in-Script+in_ok-moment-in-Script+in_ok-script_action-in-Script w ↦
      let moment = w.in_ok-moment-in-Script.ensures.said in
      let rest = w.in_ok-script_action-in-Script.ensures.said in (
        moment.0 ∷ rest.0,
        AreFields-taken _ _ _ moment.0 rest.0 moment.1 rest.1 (ap left (sym w.fields-is) ∙ c.in_ok-end.ensures.none_left),
        SaysLine-Script _ _ moment.0 rest.0 _ _ w.in-Script.is (ap (λ l. l.0) w.line-is) (ap (λ l. l.1.0) w.line-is) moment.2 rest.2,
      )
  | in-Station+in_ok-kind-in-Station+in_ok-action-in-Station w ↦
      let kind = w.in_ok-kind-in-Station in
      let rest = w.in_ok-action-in-Station.ensures.said in (
        kind.kind.now ∷ rest.0,
        AreFields-taken _ _ _ kind.kind.now rest.0 kind.ensures.took rest.1 (ap left (sym w.fields-is) ∙ c.in_ok-end.ensures.none_left),
        SaysLine-Station _ _ (kind.kind.now ∷ rest.0) _ _ w.in-Station.is (ap (λ l. l.1.0) w.line-is) rest.2,
      )
  | in-Operator+in_ok-kind-in-Operator+in_ok-action-in-Operator w ↦
      let kind = w.in_ok-kind-in-Operator in
      let rest = w.in_ok-action-in-Operator.ensures.said in (
        kind.kind.now ∷ rest.0,
        AreFields-taken _ _ _ kind.kind.now rest.0 kind.ensures.took rest.1 (ap left (sym w.fields-is) ∙ c.in_ok-end.ensures.none_left),
        SaysLine-Operator _ _ (kind.kind.now ∷ rest.0) _ _ w.in-Operator.is (ap (λ l. l.1.0) w.line-is) rest.2,
      )
]
