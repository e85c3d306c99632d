use Rattle.std.proofs.Common.{◌≡◌, ℕ, List, ◌++◌, length}
use Rattle.hex.specs.Hex.{encode_lower}
use Rattle.std.specs.Io.KnownBytes.{Appends}
use Rattle.input_fields.proofs.hex_text.print_hex.Given as goal

abbrev pub invariant-loop-rest : goal.invariant-loop-rest
invariant-loop-rest g l = (done : List ℕ) × (l.bytes ≡ done ++ l.rest)
    × Appends (g.O.Write.contents l.initial.output) (g.O.Write.contents l.output) (encode_lower done)

abbrev pub decreases-loop-rest : goal.decreases-loop-rest
decreases-loop-rest g l = length l.rest
