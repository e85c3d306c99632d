use Rattle.std.proofs.Common.{◌≡◌, ◌∷◌, [], codes, ap, refl, arith}
use Rattle.std.proofs.lemmas.Slice.Eq.{text_from_reads}
use Rattle.input_lines.proofs.lines.operator_action.Goals as goal

pub returns-in_ok-name-in-open-clause-said : goal.returns-in_ok-name-in-open-clause-said
returns-in_ok-name-in-open-clause-said c =
    let kind : c.args.kind.now ≡ codes "open" = text_from_reads c.args.kind.now (codes "open") (omega arith) (omega arith, (omega arith, (omega arith, (omega arith, tt)))) in
    let account = c.in_ok-name-in-open in
    let fields = account.field-0 ∷ [] in
    (fields, (_, account.ensures.said, refl), ap (λ k. k ∷ fields) kind)

pub returns-in_ok-number-in-rate-clause-said : goal.returns-in_ok-number-in-rate-clause-said
returns-in_ok-number-in-rate-clause-said c =
    let kind : c.args.kind.now ≡ codes "rate" = text_from_reads c.args.kind.now (codes "rate") (omega arith) (omega arith, (omega arith, (omega arith, (omega arith, tt)))) in
    let name = c.in_ok-name-in-rate in
    let units = c.in_ok-number-in-rate.ensures.said in
    let fields = name.field-0 ∷ units.0 ∷ [] in
    (fields, (_, name.ensures.said, (_, units.1, refl)), (units.0, ap (λ k. k ∷ fields) kind, units.2))

pub returns-in_ok-number-in-grant-clause-said : goal.returns-in_ok-number-in-grant-clause-said
returns-in_ok-number-in-grant-clause-said c =
    let kind : c.args.kind.now ≡ codes "grant" = text_from_reads c.args.kind.now (codes "grant") (omega arith) (omega arith, (omega arith, (omega arith, (omega arith, (omega arith, tt))))) in
    let account = c.in_ok-name-in-grant in
    let month = c.in_ok-month-in-grant.ensures.said in
    let pages = c.in_ok-number-in-grant.ensures.said in
    let fields = account.field-0 ∷ month.0 ∷ pages.0 ∷ [] in
    (fields, (_, account.ensures.said, (_, month.1, (_, pages.1, refl))), (month.0, pages.0, ap (λ k. k ∷ fields) kind, month.2, pages.2))

pub returns-in_ok-choice-in-device-clause-said : goal.returns-in_ok-choice-in-device-clause-said
returns-in_ok-choice-in-device-clause-said c =
    let kind : c.args.kind.now ≡ codes "device" = text_from_reads c.args.kind.now (codes "device") (omega arith) (omega arith, (omega arith, (omega arith, (omega arith, (omega arith, (omega arith, tt)))))) in
    let name = c.in_ok-name-in-device in
    let on = c.in_ok-choice-in-device.ensures.said in
    let fields = name.field-0 ∷ on.0 ∷ [] in
    (fields, (_, name.ensures.said, (_, on.1, refl)), (on.0, ap (λ k. k ∷ fields) kind, on.2))
