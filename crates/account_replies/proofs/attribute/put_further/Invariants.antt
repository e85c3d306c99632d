use Rattle.std.proofs.Common.{◌≡◌, ◌++◌, map, take}
use Rattle.std.specs.List.{flat_map}
use Rattle.ipp_coding.specs.Plain.{plain_value}
use Rattle.ipp_coding.specs.Spelling.{further_spelling}
use Rattle.account_replies.proofs.attribute.put_further.Given as goal

abbrev pub invariant-loop-value : goal.invariant-loop-value
invariant-loop-value l = l.out.items ≡ l.fn.out.items ++ flat_map further_spelling (map plain_value (take l.value-index l.values))
