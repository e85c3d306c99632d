use Rattle.std.proofs.Common.{◌≡◌, ◌++◌, ◌∷◌, codes, decimal, length, take}
use Rattle.std.specs.List.{flat_map}
use Rattle.account_questions.proofs.lists.list.Given as goal

-- the head, and a line for each item so far
abbrev pub invariant-loop-item : goal.invariant-loop-item
invariant-loop-item g l = l.lines.items ≡ l.word ++ codes " " ++ decimal (length l.items) ++ flat_map (λ item. 10 ∷ g.L.Line.text item) (take l.item-index l.items)
