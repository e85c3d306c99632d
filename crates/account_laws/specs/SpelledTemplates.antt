-- What the attributes of a job say, those of its group 0x02: its copies, and which of them are not
-- supported (RFC 8011 sections 4.1.7 and 5.2).
use Rattle.std.specs.Prelude.{◌≡◌, ◌⊎◌, ℕ, ◌≤◌, codes, List, [], ◌∷◌}
use Rattle.ipp_coding.specs.Plain.{PlainAttribute, PlainValue}
use Rattle.account_laws.specs.SpelledAttributes.{HasNone, IsInteger, IsUnder, Says}

-- copies are one integer from 1 to 999, and else 1 (section 5.2.5)
abbrev pub AreCopies : PlainValue → ℕ → Type 0
AreCopies value n = IsInteger value n × (1 ≤ n) × (n ≤ 999)

abbrev pub SaysCopies : List PlainAttribute → ℕ → Type 0
SaysCopies attributes copies =
    Says AreCopies (codes "copies") attributes copies
    ⊎ (((n : ℕ) → Says AreCopies (codes "copies") attributes n → ⊥) × (copies ≡ 1))

-- job-hold-until is one keyword or name `indefinite` (section 5.2.2)
abbrev pub HoldsForGood : PlainValue → Type 0
HoldsForGood value =
    IsUnder 0x44 value (codes "indefinite") ⊎ IsUnder 0x42 value (codes "indefinite")

-- these two alone are known, each with such a value
abbrev pub IsKnown : PlainAttribute → Type 0
IsKnown a = (a.name ≡ codes "copies") ⊎ (a.name ≡ codes "job-hold-until")

abbrev pub IsSupported : PlainAttribute → Type 0
IsSupported a =
    ((a.name ≡ codes "copies")
    × ((value : PlainValue) × (n : ℕ) × (a.values ≡ value ∷ []) × AreCopies value n))
    ⊎ ((a.name ≡ codes "job-hold-until")
    × ((value : PlainValue) × (a.values ≡ value ∷ []) × HoldsForGood value))

-- One that is known goes back with its values, any other as unsupported, 0x10 (section 4.1.7).
abbrev pub IsReturned : (a back : PlainAttribute) → Type 0
IsReturned a back =
    (IsKnown a × (back ≡ a))
    ⊎ ((IsKnown a → ⊥)
    × (back ≡ record { name = a.name; values = record { tag = 0x10; bytes = [] } ∷ [] }))

-- Those go back, in their order, that are the first of their name and not supported.
abbrev pub GoesBack : (earlier : List PlainAttribute) → PlainAttribute → Type 0
GoesBack earlier a = HasNone a.name earlier × (IsSupported a → ⊥)

abbrev pub GoBack : (earlier attributes back : List PlainAttribute) → Type 0
GoBack earlier [] back = back ≡ []
GoBack earlier (a ∷ later) back =
    (GoesBack earlier a
    × ((first : PlainAttribute) × (rest : List PlainAttribute)
    × IsReturned a first × (back ≡ first ∷ rest) × GoBack (a ∷ earlier) later rest))
    ⊎ ((GoesBack earlier a → ⊥) × GoBack (a ∷ earlier) later back)
