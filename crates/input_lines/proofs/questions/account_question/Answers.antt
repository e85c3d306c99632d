use Rattle.std.proofs.Common.{◌≡◌, ◌∷◌, [], codes, ap, refl, arith}
use Rattle.std.proofs.lemmas.Slice.Eq.{text_from_reads}
use Rattle.input_lines.proofs.questions.account_question.Goals as goal

pub returns-in_ok-name-in-check-clause-said : goal.returns-in_ok-name-in-check-clause-said
returns-in_ok-name-in-check-clause-said c =
    let kind : c.args.kind.now ≡ codes "check" = text_from_reads c.args.kind.now (codes "check") (omega arith) (omega arith, (omega arith, (omega arith, (omega arith, (omega arith, tt))))) in
    let account = c.in_ok-name-in-check in
    let fields = account.field-0 ∷ [] in
    (fields, (_, account.ensures.said, refl), ap (λ k. k ∷ fields) kind)

pub returns-in_ok-month-in-left-clause-said : goal.returns-in_ok-month-in-left-clause-said
returns-in_ok-month-in-left-clause-said c =
    let kind : c.args.kind.now ≡ codes "left" = text_from_reads c.args.kind.now (codes "left") (omega arith) (omega arith, (omega arith, (omega arith, (omega arith, tt)))) in
    let account = c.in_ok-name-in-left in
    let month = c.in_ok-month-in-left.ensures.said in
    let fields = account.field-0 ∷ month.0 ∷ [] in
    (fields, (_, account.ensures.said, (_, month.1, refl)), (month.0, ap (λ k. k ∷ fields) kind, month.2))

pub returns-in_ok-month-in-statement-clause-said : goal.returns-in_ok-month-in-statement-clause-said
returns-in_ok-month-in-statement-clause-said c =
    let kind : c.args.kind.now ≡ codes "statement" = text_from_reads c.args.kind.now (codes "statement") (omega arith) (omega arith, (omega arith, (omega arith, (omega arith, (omega arith, (omega arith, (omega arith, (omega arith, (omega arith, tt))))))))) in
    let account = c.in_ok-name-in-statement in
    let month = c.in_ok-month-in-statement.ensures.said in
    let fields = account.field-0 ∷ month.0 ∷ [] in
    (fields, (_, account.ensures.said, (_, month.1, refl)), (month.0, ap (λ k. k ∷ fields) kind, month.2))

pub returns-in_ok-name-in-jobs-clause-said : goal.returns-in_ok-name-in-jobs-clause-said
returns-in_ok-name-in-jobs-clause-said c =
    let kind : c.args.kind.now ≡ codes "jobs" = text_from_reads c.args.kind.now (codes "jobs") (omega arith) (omega arith, (omega arith, (omega arith, (omega arith, tt)))) in
    let account = c.in_ok-name-in-jobs in
    let fields = account.field-0 ∷ [] in
    (fields, (_, account.ensures.said, refl), ap (λ k. k ∷ fields) kind)

pub returns-in_ok-number-in-ended-clause-said : goal.returns-in_ok-number-in-ended-clause-said
returns-in_ok-number-in-ended-clause-said c =
    let kind : c.args.kind.now ≡ codes "ended" = text_from_reads c.args.kind.now (codes "ended") (omega arith) (omega arith, (omega arith, (omega arith, (omega arith, (omega arith, tt))))) in
    let account = c.in_ok-name-in-ended in
    let most = c.in_ok-number-in-ended.ensures in
    let fields = account.field-0 ∷ most.said.0 ∷ [] in
    (fields, (_, account.ensures.said, (_, most.said.1, refl)), (most.said.0, ap (λ k. k ∷ fields) kind, most.said.2, most.range.0, most.range.1))

pub returns-in_ok-name-in-grants-clause-said : goal.returns-in_ok-name-in-grants-clause-said
returns-in_ok-name-in-grants-clause-said c =
    let kind : c.args.kind.now ≡ codes "grants" = text_from_reads c.args.kind.now (codes "grants") (omega arith) (omega arith, (omega arith, (omega arith, (omega arith, (omega arith, (omega arith, tt)))))) in
    let account = c.in_ok-name-in-grants in
    let fields = account.field-0 ∷ [] in
    (fields, (_, account.ensures.said, refl), ap (λ k. k ∷ fields) kind)
