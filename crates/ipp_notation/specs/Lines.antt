-- Rule: Which lines have a message (this project's own).
use Rattle.std.specs.Prelude.{◌≡◌, ◌≢◌, ◌<◌, ℕ, List, [], ◌∷◌, ◌++◌, length, slice_index, codes, Ok}
use Rattle.hex.specs.Hex.{decode_of}
use Rattle.ipp_notation.specs.declared.line.Origin.{Origin}
use Rattle.ipp_notation.specs.declared.line.Origin.TheVariants.{Script, Output, Alone}

-- a word has no space
abbrev pub IsWord : (bytes : List ℕ) → Type 0
IsWord bytes = (k : ℕ) → k < length bytes → slice_index bytes k ≢ 32

-- `MOMENT ipp ACCOUNT`
pub record IsOfScript (words : List ℕ) : Type 0 where
  pub moment : List ℕ
  pub account : List ℕ
  pub moment_word : IsWord moment
  pub account_word : IsWord account
  pub parts : words ≡ moment ++ (codes " ipp " ++ account)

-- the words, a space, and a last word
pub record AreBefore (words digits line : List ℕ) : Type 0 where
  pub last : IsWord digits
  pub whole : line ≡ words ++ 32 ∷ digits

-- a line of a script, `MOMENT ipp ACCOUNT DIGITS`; of its output, `ipp DIGITS`; and one of digits
-- alone
abbrev pub IsParted : Origin → (words digits line : List ℕ) → Type 0
IsParted Script words digits line = IsOfScript words × AreBefore words digits line
IsParted Output words digits line = (words ≡ codes "ipp") × AreBefore words digits line
IsParted Alone words digits line = (words ≡ []) × IsWord digits × (line ≡ digits)

-- the digits of the line are one or more pairs of hexadecimal digits, which write the bytes
pub record HasMessage (origin : Origin) (words bytes line : List ℕ) : Type 0 where
  pub digits : List ℕ
  pub parts : IsParted origin words digits line
  pub some : 0 < length digits
  pub pairs : decode_of digits ≡ Ok bytes

abbrev pub HasNoMessage : (line : List ℕ) → Type 0
HasNoMessage line =
    (origin : Origin) (words bytes : List ℕ) → HasMessage origin words bytes line → ⊥
