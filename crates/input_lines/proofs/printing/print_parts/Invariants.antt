use Rattle.std.proofs.Common.{take}
use Rattle.std.specs.Io.KnownBytes.{Appends}
use Rattle.std.specs.List.{flat_map}
use Rattle.input_lines.specs.Printed.{part_lines}
use Rattle.input_lines.proofs.printing.print_parts.Given as goal

abbrev pub invariant-loop-part : goal.invariant-loop-part
invariant-loop-part g l = Appends (g.W.Write.contents l.initial.output) (g.W.Write.contents l.output) (flat_map part_lines (take l.part-index l.parts))
