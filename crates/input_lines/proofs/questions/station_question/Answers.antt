use Rattle.std.proofs.Common.{◌≡◌, ◌∷◌, [], codes, ap, refl, arith}
use Rattle.std.proofs.lemmas.Slice.Eq.{text_from_reads}
use Rattle.input_lines.proofs.questions.station_question.Goals as goal

pub returns-in_ok-name-in-list-clause-said : goal.returns-in_ok-name-in-list-clause-said
returns-in_ok-name-in-list-clause-said c =
    let kind : c.args.kind.now ≡ codes "list" = text_from_reads c.args.kind.now (codes "list") (omega arith) (omega arith, (omega arith, (omega arith, (omega arith, tt)))) in
    let device = c.in_ok-device-in-list in
    let account = c.in_ok-name-in-list in
    let fields = device.device ∷ account.field-0 ∷ [] in
    (fields, (_, device.ensures.said, (_, account.ensures.said, refl)), ap (λ k. k ∷ fields) kind)

pub returns-in_ok-number-in-again-clause-said : goal.returns-in_ok-number-in-again-clause-said
returns-in_ok-number-in-again-clause-said c =
    let kind : c.args.kind.now ≡ codes "again" = text_from_reads c.args.kind.now (codes "again") (omega arith) (omega arith, (omega arith, (omega arith, (omega arith, (omega arith, tt))))) in
    let device = c.in_ok-device-in-again in
    let account = c.in_ok-name-in-again in
    let job = c.in_ok-number-in-again.ensures.said in
    let fields = device.device ∷ account.field-0 ∷ job.0 ∷ [] in
    (fields, (_, device.ensures.said, (_, account.ensures.said, (_, job.1, refl))), (job.0, ap (λ k. k ∷ fields) kind, job.2))
