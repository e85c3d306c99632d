use Rattle.std.proofs.Common.{◌≡◌, ◌∷◌, [], codes, ap, refl, arith}
use Rattle.std.proofs.lemmas.Slice.Eq.{text_from_reads}
use Rattle.input_lines.specs.Saying.{name_said}
use Rattle.input_lines.proofs.questions.operator_question.Goals as goal

pub returns-in_ok-name_if_any-in-accounts-clause-said : goal.returns-in_ok-name_if_any-in-accounts-clause-said
returns-in_ok-name_if_any-in-accounts-clause-said c =
    let kind : c.args.kind.now ≡ codes "accounts" = text_from_reads c.args.kind.now (codes "accounts") (omega arith) (omega arith, (omega arith, (omega arith, (omega arith, (omega arith, (omega arith, (omega arith, (omega arith, tt)))))))) in
    let behind = c.in_ok-name_if_any-in-accounts in
    let fields = name_said behind.field-0 ∷ [] in
    (fields, (_, behind.ensures.said, refl), ap (λ k. k ∷ fields) kind)
