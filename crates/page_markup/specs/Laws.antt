-- Laws of the text that a page shows: none of it becomes markup, and a browser reads it back.
use Rattle.std.specs.Prelude.{◌≡◌, ◌≢◌, ◌⊎◌, ℕ, List, [], ◌∷◌, ◌++◌, codes}
use Rattle.std.specs.List.{AllByRecursion}
use Rattle.page_markup.specs.Escaping.{escaped, readable}

-- < > " ' begin or end markup, or the value of an attribute
abbrev pub IsMarkup : ℕ → Type 0
IsMarkup byte = (byte ≡ 60) ⊎ ((byte ≡ 62) ⊎ ((byte ≡ 34) ⊎ (byte ≡ 39)))

abbrev pub NeverMarksUp : Type 0
NeverMarksUp = (text : List ℕ) → AllByRecursion (λ byte. IsMarkup byte → ⊥) (escaped text)

-- what a reader of HTML makes of bytes in which nothing is markup (the HTML standard, section
-- 13.2.5: the character references that stand there, and all other bytes as they are)
pub data Reads : List ℕ → List ℕ → Type 0 where
  ends : Reads [] []
  amp : (shown text : List ℕ) → Reads shown text → Reads (codes "&amp;" ++ shown) (38 ∷ text)
  lt : (shown text : List ℕ) → Reads shown text → Reads (codes "&lt;" ++ shown) (60 ∷ text)
  gt : (shown text : List ℕ) → Reads shown text → Reads (codes "&gt;" ++ shown) (62 ∷ text)
  quot : (shown text : List ℕ) → Reads shown text → Reads (codes "&quot;" ++ shown) (34 ∷ text)
  apos : (shown text : List ℕ) → Reads shown text → Reads (codes "&#39;" ++ shown) (39 ∷ text)
  plain : (byte : ℕ) (shown text : List ℕ) → byte ≢ 38 → (IsMarkup byte → ⊥) → Reads shown text
      → Reads (byte ∷ shown) (byte ∷ text)

abbrev pub IsReadBack : Type 0
IsReadBack = (text : List ℕ) → Reads (escaped text) (readable text)
