use Rattle.account_replies.proofs.Fronts.{front_after}
use Rattle.account_replies.proofs.Values.{each_is_attribute}
use Rattle.account_replies.proofs.attribute.put_attributes.Goals as goal

pub put_values-requires-clause-name : goal.put_values-requires-clause-name
put_values-requires-clause-name c =
    let is = each_is_attribute c.args.attributes.now c.loop-attribute.attribute-index c.attribute-item.result c.attribute-item.result c.requires c.loop-attribute-test.true c.attribute-item.is in
    record { named = is.named; fits = is.name }

pub put_values-requires-clause-values : goal.put_values-requires-clause-values
put_values-requires-clause-values c =
    let is = each_is_attribute c.args.attributes.now c.loop-attribute.attribute-index c.attribute-item.result c.attribute-item.result c.requires c.loop-attribute-test.true c.attribute-item.is in
    rw c.as_slice.ensures is.values

pub returns-in_err-put_values-clause-front : goal.returns-in_err-put_values-clause-front
returns-in_err-put_values-clause-front c = front_after _ _ _ _ c.loop-attribute.invariant c.put_values.ensures.front
