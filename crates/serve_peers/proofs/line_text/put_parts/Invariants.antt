use Rattle.std.proofs.Common.{◌≡◌, ◌++◌}
use Rattle.std.specs.List.{flat_map}
use Rattle.serve_peers.specs.LineTexts.{part_text}
use Rattle.serve_peers.proofs.line_text.put_parts.Given as goal

-- what stands after the head is the parts that were put so far
abbrev pub invariant-loop-part : goal.invariant-loop-part
invariant-loop-part l = l.output.items ++ flat_map part_text l.part-iterator.rest.items ≡ l.initial.output.items ++ flat_map part_text l.fn.parts.items
