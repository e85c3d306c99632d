-- For the proof of the code alone: what is taken of a reader, a line at a time.
use Rattle.std.specs.Prelude.{◌≡◌, ◌≢◌, ℕ, ◌+◌, ◌<◌, ◌≤◌, All, List, [], ◌++◌, codes, length, Option, ◌⊎◌}
use Rattle.std.specs.Io.KnownBytes.{Consumes}
use Rattle.client_lines.specs.Sending.{IsAtKnownEnd, longest_line}
use Rattle.client_lines.specs.declared.line.Taken.{Taken}
use Rattle.client_lines.specs.declared.line.Taken.TheVariants as taken
use Rattle.client_lines.specs.declared.line.Piece.{Piece}
use Rattle.client_lines.specs.declared.line.Piece.TheVariants as piece

-- no line feed is in it
abbrev pub HasNoFeed : List ℕ → Type 0
HasNoFeed bytes = All (λ byte. byte ≢ 10) bytes

-- what one line may be, without the line feed that ends it
abbrev pub MayBeLine : List ℕ → Type 0
MayBeLine bytes = (length bytes ≤ longest_line) × HasNoFeed bytes

-- more than one line may be was taken, and no more
abbrev pub TakesTooMany : (before after : Option (List ℕ)) → Type 0
TakesTooMany before after = (front : List ℕ) × (length front ≡ longest_line + 1)
    × HasNoFeed front × Consumes before after front

-- all that was left was taken
abbrev pub TakesAll : (before after : Option (List ℕ)) (bytes : List ℕ) → Type 0
TakesAll before after bytes = Consumes before after bytes × IsAtKnownEnd before after

abbrev pub TakesInput : (before after : Option (List ℕ)) → Taken → Type 0
TakesInput before after (taken.Line line) =
    MayBeLine line.items × Consumes before after (line.items ++ codes "\n")
TakesInput before after (taken.Last line) = MayBeLine line.items × TakesAll before after line.items
TakesInput before after taken.Long = TakesTooMany before after

-- a line was taken with the line feed that ends it, or as the last one, which has none
abbrev pub TakesLine : (before after : Option (List ℕ)) (line : List ℕ) → Type 0
TakesLine before after line = Consumes before after (line ++ codes "\n")
    ⊎ ((0 < length line) × TakesAll before after line)

-- the bytes that were taken are what was added to a line, and its line feed
abbrev pub Adds : (bytes old new : List ℕ) → Piece → Type 0
Adds bytes old new piece.Part = (new ≡ old ++ bytes) × HasNoFeed bytes
Adds bytes old new piece.Line = (part : List ℕ) × (bytes ≡ part ++ codes "\n")
    × (new ≡ old ++ part) × HasNoFeed part
Adds bytes old new piece.End = (bytes ≡ []) × (new ≡ old)

-- what was taken was added to the bytes
abbrev pub TakesMore : (before after : Option (List ℕ)) (old new : List ℕ) → Type 0
TakesMore before after old new = (more : List ℕ) × (new ≡ old ++ more) × Consumes before after more
