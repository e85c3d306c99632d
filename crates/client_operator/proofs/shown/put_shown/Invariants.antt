use Rattle.std.proofs.Common.{◌≡◌, ◌++◌, take}
use Rattle.std.specs.List.{flat_map}
use Rattle.client_operator.specs.Shown.{shown_character}
use Rattle.client_operator.proofs.shown.put_shown.Given as goal

-- what was put of the characters so far
abbrev pub invariant-loop-character : goal.invariant-loop-character
invariant-loop-character l = l.out.items
    ≡ l.initial.out.items ++ flat_map shown_character (take l.character-index l.characters)
