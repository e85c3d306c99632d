-- Rule: What a line that asks for an event says, field by field (this project's own).
use Rattle.std.specs.Prelude.{◌≡◌, ◌≢◌, ◌⊎◌, ℕ, ◌<◌, Bool, All, List, [], ◌∷◌, ◌++◌, codes, length, Option, Some, None, Ok}
use Rattle.std.specs.List.{AllZip, join_with_byte}
use Rattle.hex.specs.Hex.{decode_of}
use Rattle.input_fields.specs.Fields.{SaysNumber, choice_said, month_said}
use Rattle.input_lines.specs.OwnerRequests.{act_word}
use Rattle.input_lines.specs.declared.action.Action.{Action}
use Rattle.input_lines.specs.declared.action.Action.TheVariants.{Open, Device, Rate, Grant, Ipp, Release, Start, Settle, Owner}
use Rattle.input_lines.specs.declared.lines.Grammar.{Grammar}
use Rattle.input_lines.specs.declared.lines.Grammar.TheVariants.{Script, Station, Operator}
use Rattle.input_lines.specs.declared.line.Line.{Line}

-- ---- what one field says; a name is said by its own bytes

-- a dash where there is none
abbrev pub name_said : Option (List ℕ) → List ℕ
name_said None = codes "-"
name_said (Some name) = name

abbrev pub SaysMonth : (field : List ℕ) → ℕ → Type 0
SaysMonth field month = month_said field ≡ Some month

-- whether it is one word or the other
abbrev pub SaysWord : (one other field : List ℕ) → Bool → Type 0
SaysWord one other field said = choice_said one other field ≡ Some said

-- one or more bytes, in hexadecimal
abbrev pub SaysBytes : (field bytes : List ℕ) → Type 0
SaysBytes field bytes = (0 < length field) × (decode_of field ≡ Ok bytes)

-- a dash where there is none
abbrev pub SaysPassword : (field password : List ℕ) → Type 0
SaysPassword field password =
    ((field ≡ codes "-") × (password ≡ [])) ⊎ SaysBytes field password

-- a dash where they are left out
abbrev pub SaysImpressions : (field : List ℕ) → Option ℕ → Type 0
SaysImpressions field None = field ≡ codes "-"
SaysImpressions field (Some impressions) = SaysNumber field impressions

-- ---- what the fields of a line say

abbrev pub Says : (fields : List (List ℕ)) (action : Action) → Type 0
Says fields (Open account) = fields ≡ codes "open" ∷ account ∷ []
Says fields (Device name on) =
    (word : List ℕ) × (fields ≡ codes "device" ∷ name ∷ word ∷ [])
    × SaysWord (codes "on") (codes "off") word on
Says fields (Rate name units) =
    (number : List ℕ) × (fields ≡ codes "rate" ∷ name ∷ number ∷ []) × SaysNumber number units
Says fields (Grant account month pages) =
    (from : List ℕ) × (number : List ℕ)
    × (fields ≡ codes "grant" ∷ account ∷ from ∷ number ∷ [])
    × SaysMonth from month × SaysNumber number pages
Says fields (Ipp account body) =
    (digits : List ℕ) × (fields ≡ codes "ipp" ∷ account ∷ digits ∷ [])
    × SaysBytes digits body.items
Says fields (Release device account job password impressions) =
    (number : List ℕ) × (digits : List ℕ) × (counted : List ℕ)
    × (fields ≡ codes "release" ∷ device ∷ account ∷ number ∷ digits ∷ counted ∷ [])
    × SaysNumber number job × SaysPassword digits password.items
    × SaysImpressions counted impressions
Says fields (Start device account job) =
    (number : List ℕ) × (fields ≡ codes "start" ∷ device ∷ account ∷ number ∷ [])
    × SaysNumber number job
Says fields (Settle device account job impressions failed) =
    (number : List ℕ) × (counted : List ℕ) × (word : List ℕ)
    × (fields ≡ codes "settle" ∷ device ∷ account ∷ number ∷ counted ∷ word ∷ [])
    × SaysNumber number job × SaysNumber counted impressions
    × SaysWord (codes "failed") (codes "done") word failed
Says fields (Owner request) =
    (number : List ℕ)
    × (fields ≡ act_word request.act ∷ request.account ∷ number ∷ [])
    × SaysNumber number request.job

-- ---- what a line says

abbrev pub HasNoSpace : List ℕ → Type 0
HasNoSpace field = All (λ byte. byte ≢ 32) field

-- fields, which one space parts from each other
pub record AreFields (text : List ℕ) (fields : List (List ℕ)) : Type 0 where
  pub parted : text ≡ join_with_byte 32 fields
  pub no_space : All HasNoSpace fields

-- a line of a script begins with its moment, which the others are given
abbrev pub SaysLine : (grammar : Grammar) (fields : List (List ℕ)) (line : Line) → Type 0
SaysLine Script fields line =
    (moment : List ℕ) × (rest : List (List ℕ)) × (fields ≡ moment ∷ rest)
    × SaysNumber moment line.moment × Says rest line.action
SaysLine (Station moment) fields line = Says fields line.action
SaysLine (Operator moment) fields line = Says fields line.action

abbrev pub IsLineOf : Grammar → (text : List ℕ) → Line → Type 0
IsLineOf grammar text line =
    (fields : List (List ℕ)) × AreFields text fields × SaysLine grammar fields line

-- ---- what an input says

-- with a line feed after each
abbrev pub ended_lines : List (List ℕ) → List ℕ
ended_lines [] = []
ended_lines (text ∷ texts) = text ++ 10 ∷ ended_lines texts

-- the line feed after the last one may be missing
abbrev pub AreTexts : (input : List ℕ) (texts : List (List ℕ)) → Type 0
AreTexts input texts = (input ≡ ended_lines texts) ⊎ (input ++ 10 ∷ [] ≡ ended_lines texts)

-- a line for each text, in order
abbrev pub AreLinesOf : Grammar → (input : List ℕ) → List Line → Type 0
AreLinesOf grammar input lines =
    (texts : List (List ℕ)) × AreTexts input texts × AllZip (IsLineOf grammar) texts lines
