use Rattle.std.proofs.Common.{◌≡◌, ◌++◌, take, map}
use Rattle.page_markup.specs.Parts.{html, part_of}
use Rattle.page_markup.proofs.piece.put_all.Given as goal

-- the pieces so far
abbrev pub invariant-loop-piece : goal.invariant-loop-piece
invariant-loop-piece l = l.out.items ≡ l.fn.out.items ++ html (map part_of (take l.piece-index l.pieces))
