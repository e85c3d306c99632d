-- Rule: A text that a user chose, made safe for terminals and spreadsheets (this project's own).
use Rattle.std.specs.Prelude.{ℕ, List, [], ◌∷◌, ◌++◌, codes, ◌==◌, ◌||◌, nat_lt, Bool, if◌then◌else◌, flat_map}
use Rattle.std.specs.Char.{encode_utf8}
use Rattle.std.specs.Int.{is_in_range}
use Rattle.std.specs.Str.{chars}
use Rattle.std.specs.Str.Lossy.{utf8_lossy}

-- a control; a mark that turns what stands behind it the other way; a character that is not seen
abbrev pub is_hidden : (character : ℕ) → Bool
is_hidden character = nat_lt character 32 || is_in_range 0x7F 0x9F character
    || character == 0xAD || character == 0x61C || character == 0x180E
    || is_in_range 0x200B 0x200F character || is_in_range 0x2028 0x202E character
    || is_in_range 0x2060 0x206F character || character == 0xFEFF
    || is_in_range 0xFFF9 0xFFFB character || is_in_range 0xE0000 0xE0FFF character

-- U+FFFD in the place of what is hidden
abbrev pub shown_character : (character : ℕ) → List ℕ
shown_character character =
    if is_hidden character then 239 ∷ 191 ∷ 189 ∷ [] else encode_utf8 character

-- what a spreadsheet takes for the start of a formula: `=`, `+`, `-` and `@`, also as wide as two
abbrev pub starts_formula : (character : ℕ) → Bool
starts_formula character =
    character == 61 || character == 43 || character == 45 || character == 64
    || character == 0xFF1D || character == 0xFF0B || character == 0xFF0D || character == 0xFF20

-- `'` before what a spreadsheet would compute
abbrev pub guard : (characters : List ℕ) → List ℕ
guard [] = []
guard (first ∷ rest) = if starts_formula first then codes "'" else []

abbrev pub shown_characters : (characters : List ℕ) → List ℕ
shown_characters characters = guard characters ++ flat_map shown_character characters

-- the text, where it is UTF-8, nothing of it is hidden, and it starts no formula
abbrev pub shown_text : (text : List ℕ) → List ℕ
shown_text text = shown_characters (chars (utf8_lossy text))
