use Rattle.std.proofs.Common.{◌≡◌, ◌++◌, map, take}
use Rattle.std.specs.List.{flat_map}
use Rattle.ipp_coding.specs.Plain.{plain_attribute}
use Rattle.ipp_coding.specs.Spelling.{attribute_spelling}
use Rattle.account_replies.proofs.attribute.put_attributes.Given as goal

abbrev pub invariant-loop-attribute : goal.invariant-loop-attribute
invariant-loop-attribute l = l.out.items ≡ l.fn.out.items ++ flat_map attribute_spelling (map plain_attribute (take l.attribute-index l.attributes))
