-- Rule: The words of a command line by their places, the first of which is the command (this
-- project's own).
use Rattle.std.specs.Prelude.{◌≡◌, ◌⊎◌, ℕ, if◌then◌else◌, List, [], ◌∷◌, map, codes, Option, Some, option_map, slice_get}
use Rattle.std.specs.Borrow.{Bor}
use Rattle.std.specs.Str.{bytes_eq}

-- the first word, by which a command is told from the others
abbrev pub first_word : List (Bor (List ℕ)) → Option (List ℕ)
first_word words = option_map (λ (word : Bor (List ℕ)). word.now) (slice_get words 0)

-- each of them
abbrev pub texts : List (Bor (List ℕ)) → List (List ℕ)
texts words = map (λ (word : Bor (List ℕ)). word.now) words

-- a command over an operator's address
abbrev pub IsErrand : Option (List ℕ) → Type 0
IsErrand word = (word ≡ Some (codes "ping")) ⊎ ((word ≡ Some (codes "end"))
    ⊎ ((word ≡ Some (codes "report")) ⊎ ((word ≡ Some (codes "waiting"))
    ⊎ ((word ≡ Some (codes "expire")) ⊎ (word ≡ Some (codes "refund"))))))

-- a command over the queue of an account
abbrev pub IsOwnerErrand : Option (List ℕ) → Type 0
IsOwnerErrand word = (word ≡ Some (codes "print")) ⊎ ((word ≡ Some (codes "jobs"))
    ⊎ ((word ≡ Some (codes "cancel")) ⊎ ((word ≡ Some (codes "hold"))
    ⊎ (word ≡ Some (codes "release")))))

-- without the first `--`, behind which a word that begins with a dash is no flag
abbrev pub placed : List (List ℕ) → List (List ℕ)
placed [] = []
placed (word ∷ words) = if bytes_eq word (codes "--") then words else word ∷ placed words
