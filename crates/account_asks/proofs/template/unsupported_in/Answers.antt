use Rattle.std.proofs.Common.{◌≡◌, Bool, ◌||◌, not, sym, ap, ◌∙◌}
use Rattle.ipp_coding.specs.Plain.{plain_attribute}
use Rattle.account_asks.specs.ProofNames.{is_repeated}
use Rattle.account_asks.specs.Templates.{is_supported}
use Rattle.account_asks.proofs.Returns.{up_to_place, repeated_unless_first, either, none_yet, passed_over, sent_back, all_over}
use Rattle.account_asks.proofs.template.unsupported_in.Goals as goal
use Rattle.account_asks.proofs.template.unsupported_in.Goals.{then-index+then-not-is_supported+in_ok-returned+in_ok-push, else-index, else-index-via-then-index+else-not-is_supported, else-index-via-else-index}

pub loop-place-init : goal.loop-place-init
loop-place-init c = rw c.new-items.ensures.items (none_yet c.args.attributes.now)

pub loop-place-preserved : goal.loop-place-preserved
loop-place-preserved c =
    let x = c.index-attributes-place.result in
    let xs = c.args.attributes.now in
    let i = c.loop-place.place in
    let at = sym c.index-attributes-place.is in
    let repeated : is_repeated (up_to_place xs i) (plain_attribute x) ≡ not c.index.result.now =
    repeated_unless_first xs c.in_ok-firsts.firsts.items i x c.index.result.now c.in_ok-firsts.ensures.length c.in_ok-firsts.ensures.firsts c.loop-place-test.true at c.index.ensures in
    elim c.if-index.branch [
      | then-index+then-not-is_supported+in_ok-returned+in_ok-push w ↦
          rw (w.items-is, w.in_ok-push.ensures.items) (sent_back xs i x _ _ c.loop-place-test.true at (repeated ∙ ap not w.if-index.true) (sym w.is_supported.ensures ∙ w.if-not-is_supported.true) w.in_ok-returned.ensures.returned c.loop-place.invariant)
      | else-index w ↦
          rw w.items-is (passed_over xs i x _ c.loop-place-test.true at
          (elim w.else-index.branch [
            | else-index-via-then-index+else-not-is_supported v ↦ either _ _ (sym v.is_supported.ensures ∙ v.if-not-is_supported.false)
            | else-index-via-else-index v ↦ ap (λ (b : Bool). b || is_supported (plain_attribute x)) (repeated ∙ ap not v.if-index.false)
          ]) c.loop-place.invariant)
    ]

pub returns-clause-unsupported : goal.returns-clause-unsupported
returns-clause-unsupported c = all_over c.args.attributes.now c.loop-place.place c.loop-place.items.items c.loop-place-test.false c.loop-place.invariant
