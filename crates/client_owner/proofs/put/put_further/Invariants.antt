use Rattle.std.proofs.Common.{◌≡◌, ◌++◌, map, take}
use Rattle.std.specs.List.{flat_map}
use Rattle.ipp_coding.specs.Spelling.{further_spelling}
use Rattle.account_replies.specs.Attributes.{value_with}
use Rattle.client_owner.proofs.put.put_further.Given as goal

abbrev pub invariant-loop-value : goal.invariant-loop-value
invariant-loop-value l = l.out.items ≡ l.initial.out.items
    ++ flat_map further_spelling (map (value_with 0x44) (map (λ value. value.now) (take l.value-index l.further)))
