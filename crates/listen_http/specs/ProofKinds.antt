-- For the proof of the code alone: where a text of some kind (a head, a line, trailers) is at the
-- front of another.
use Rattle.std.specs.Prelude.{◌≡◌, ◌==◌, ◌&&◌, ◌||◌, ℕ, Bool, List, ◌++◌, codes, nat_eq}
use Rattle.std.specs.List.{ends_with, list_any}

-- none is at the front
abbrev pub HasNone : {X : Type 0} → (print : X → List ℕ) (IsX : X → Type 0) (text : List ℕ) → Type 0
HasNone {X} print IsX text = (x : X) (rest : List ℕ) → ¬ (IsX x × (text ≡ print x ++ rest))

-- a line ends here
abbrev pub ends_line : List ℕ → Bool
ends_line text = ends_with nat_eq text (codes "\n")

-- an empty line ends here
abbrev pub ends_empty_line : List ℕ → Bool
ends_empty_line text =
    ends_with nat_eq text (codes "\n\n") || ends_with nat_eq text (codes "\n\r\n")

abbrev pub has_space : List ℕ → Bool
has_space text = list_any (λ b. b == 32) text

-- a head may end here
abbrev pub may_end_head : List ℕ → Bool
may_end_head text = has_space text && ends_empty_line text
