use Rattle.std.proofs.Common.{◌≡◌, ◌∙◌, ap, sym, ℕ, zero, suc, ◌+◌, ◌<◌, List, [], ◌∷◌, ◌++◌, length, map, take, get_or, append-nil, append_assoc, add-one, arith}
use Rattle.std.proofs.lemmas.List.{take_all}
use Rattle.std.proofs.Math.Seq.{take-append_seam}
use Rattle.std.specs.List.{flat_map}
use Rattle.ipp_coding.specs.declared.message.Value.{Value}
use Rattle.ipp_coding.specs.Plain.{plain_value}
use Rattle.ipp_coding.specs.Spelling.{further_spelling}
use Rattle.account_replies.proofs.Values.{each_is_value}
use Rattle.account_replies.proofs.attribute.put_further.Goals as goal

one_more : (values : List Value) (i : ℕ) (d : Value) → i < length values
    → flat_map further_spelling (map plain_value (take (suc i) values)) ≡ flat_map further_spelling (map plain_value (take i values)) ++ further_spelling (plain_value (get_or values i d))
one_more [] i d below = absurd (omega arith)
one_more (first ∷ further) zero d below = append-nil (further_spelling (plain_value first))
one_more (first ∷ further) (suc i) d below =
    let text = further_spelling (plain_value first) in
    ap (λ t. text ++ t) (one_more further i d (omega arith)) ∙ sym (append_assoc text (flat_map further_spelling (map plain_value (take i further))) (further_spelling (plain_value (get_or further i d))))

put_one_more : (old before after : List ℕ) (values : List Value) (i : ℕ) (d : Value) → i < length values → before ≡ old ++ flat_map further_spelling (map plain_value (take i values)) → after ≡ before ++ further_spelling (plain_value (get_or values i d))
    → after ≡ old ++ flat_map further_spelling (map plain_value (take (i + 1) values))
put_one_more old before after values i d below so_far put =
    let text = further_spelling (plain_value (get_or values i d)) in
    rw add-one (put ∙ ap (λ t. t ++ text) so_far ∙ append_assoc old (flat_map further_spelling (map plain_value (take i values))) text ∙ ap (λ t. old ++ t) (sym (one_more values i d below)))

pub put_value-requires : goal.put_value-requires
put_value-requires c = each_is_value c.args.values.now c.loop-value.value-index _ c.requires c.loop-value-test.true

pub loop-value-preserved : goal.loop-value-preserved
loop-value-preserved c = put_one_more c.args.out.now.items c.loop-value.out.items c.put_value.new.out.items c.args.values.now c.loop-value.value-index _ c.loop-value-test.true c.loop-value.invariant c.in_ok-put_value.ensures.appended

pub returns-in_err-put_value-clause-front : goal.returns-in_err-put_value-clause-front
returns-in_err-put_value-clause-front c = rw (c.in_err-put_value.ensures.unchanged, c.loop-value.invariant) (take-append_seam c.args.out.now.items _)

pub returns-clause-appended : goal.returns-clause-appended
returns-clause-appended c = c.loop-value.invariant ∙ ap (λ values. c.args.out.now.items ++ flat_map further_spelling (map plain_value values)) (take_all c.loop-value.value-index c.args.values.now c.loop-value-test.false)

pub returns-clause-front : goal.returns-clause-front
returns-clause-front c = rw c.loop-value.invariant (take-append_seam c.args.out.now.items _)
