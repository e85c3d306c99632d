use Rattle.std.proofs.Common.{All}
use Rattle.std.specs.List.{AllZip}
use Rattle.input_lines.specs.Lines.{IsAllowed}
use Rattle.input_lines.specs.Saying.{IsLineOf}
use Rattle.input_lines.proofs.lines.Grammar.read.Given as goal

-- each line so far is one of the grammar, and says what its text says
abbrev pub invariant-loop-index : goal.invariant-loop-index
invariant-loop-index l = All (IsAllowed l.fn.self) l.lines.items
    × AllZip (λ item. IsLineOf l.fn.self item.1.now) l.yielded l.lines.items
