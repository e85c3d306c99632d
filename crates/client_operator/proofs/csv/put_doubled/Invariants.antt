use Rattle.std.proofs.Common.{◌≡◌, ◌++◌, take}
use Rattle.std.specs.List.{flat_map}
use Rattle.client_operator.specs.Csv.{doubled_byte}
use Rattle.client_operator.proofs.csv.put_doubled.Given as goal

-- what was put of the bytes so far
abbrev pub invariant-loop-byte : goal.invariant-loop-byte
invariant-loop-byte l = l.out.items ≡ l.initial.out.items ++ flat_map doubled_byte (take l.byte-index l.field)
