use Rattle.std.proofs.Common.{◌≡◌, ◌++◌, map, ap, ◌∙◌, rules, tests, refl}
use Rattle.std.proofs.lemmas.Iterator.Consumers.{YieldsList-at}
use Rattle.std.proofs.lemmas.Iterator.Splits.{YieldsList-from_slice_split}
use Rattle.std.specs.List.{join_with_byte}
use Rattle.serve_desk.specs.Lines.{value_of}
use Rattle.serve_desk.specs.ProofLines.{behind_space}
use Rattle.serve_desk.proofs.FormLines.{is_ampersand, one_more_value, yielded_whole}
use Rattle.serve_desk.proofs.line.line_of.Goals as goal

pub loop-field-init : goal.loop-field-init
loop-field-init c = record { line_is = search rules; first_is = refl }

pub loop-field-preserved : goal.loop-field-preserved
loop-field-preserved c =
    let put : c.put_value.new.line.items ≡ c.loop-field.line.items ++ behind_space c.loop-field.is_first (value_of c.in-Some.field.now) = search rules in
    one_more_value _ _ c.loop-field.yielded c.in-Some.field _ c.loop-field.invariant put

pub returns : goal.returns
returns c =
    let all = yielded_whole c.loop-field.yielded _ c.loop-field.yielded_by _ _ c.in-None.is c.next.ensures.steps
    (YieldsList-at c.into_iter-field-iterator.ensures.into_iter_gives
    (YieldsList-from_slice_split _ is_ampersand c.args.form.now c.split-field-items.ensures.rest c.split-field-items.ensures.done c.split-field-items.ensures.closure (λ x b q k. search (rules, tests)))) in
    c.loop-field.invariant.line_is ∙ ap (λ l. join_with_byte 32 (map value_of l)) all
