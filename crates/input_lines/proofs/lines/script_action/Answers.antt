use Rattle.std.proofs.Common.{◌≡◌, ◌∷◌, [], codes, ap, refl, arith}
use Rattle.std.proofs.lemmas.Slice.Eq.{text_from_reads}
use Rattle.input_lines.proofs.lines.script_action.Goals as goal

pub returns-in_ok-bytes-in-ipp-clause-said : goal.returns-in_ok-bytes-in-ipp-clause-said
returns-in_ok-bytes-in-ipp-clause-said c =
    let word = c.in_ok-kind.kind.now in
    let kind : word ≡ codes "ipp" = text_from_reads word (codes "ipp") (omega arith) (omega arith, (omega arith, (omega arith, tt))) in
    let account = c.in_ok-name-in-ipp in
    let body = c.in_ok-bytes-in-ipp.ensures.said in
    let fields = account.field-0 ∷ body.0 ∷ [] in
    (word ∷ fields, (_, c.in_ok-kind.ensures.took, (_, account.ensures.said, (_, body.1, refl))), (body.0, ap (λ k. k ∷ fields) kind, body.2))
