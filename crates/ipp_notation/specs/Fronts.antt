-- The front of a message, closed by an end tag (RFC 8010 section 3.1.1).
use Rattle.std.specs.Prelude.{ℕ, List, [], ◌∷◌, ◌++◌}

-- the end-of-attributes-tag after what stands before it
abbrev pub closed_by_end : List ℕ → List ℕ
closed_by_end front = front ++ 3 ∷ []
