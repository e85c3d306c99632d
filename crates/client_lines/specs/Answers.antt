-- Rule: What the first line of an answer says (all this project's own).
use Rattle.std.specs.Prelude.{ℕ, ◌-◌, Bool, ◌&&◌, ◌||◌, if◌then◌else◌, bytes_eq, nat_le, nat_lt, List, [], ◌∷◌, codes, drop, length, take, Option, None, Some, option_map}
use Rattle.std.specs.List.{list_all}
use Rattle.std.specs.Option.{option_or}
use Rattle.std.specs.Str.Parse.{digits_value}
use Rattle.input_fields.specs.GrantLines.{is_decimal}
use Rattle.client_lines.specs.declared.answer.Answer.{Answer}
use Rattle.client_lines.specs.declared.answer.Answer.TheVariants.{Failed, BadLine, Documents, Lines, Told, Refused}

-- how many documents follow: one digit, 0 to 8
abbrev pub document_count_said : List ℕ → Option ℕ
document_count_said [] = None
document_count_said (digit ∷ []) =
    if nat_le 48 digit && nat_le digit 56 then Some (digit - 48) else None
document_count_said (digit ∷ more ∷ rest) = None

-- the most lines that may follow the first
abbrev pub most_lines : ℕ
most_lines = 999999

-- how many lines follow: in decimal, up to the most
abbrev pub line_count_said : List ℕ → Option ℕ
line_count_said text =
    let count : ℕ = digits_value 10 text in
    if is_decimal text && nat_le count most_lines then Some count else None

-- what comes after this front of a line
abbrev pub after_front : (front line : List ℕ) → Option (List ℕ)
after_front front line =
    if bytes_eq (take (length front) line) front then Some (drop (length front) line) else None

-- what comes after the word of a list and a space
unfoldable pub after_list_word : (line : List ℕ) → Option (List ℕ)
after_list_word line =
    option_or (after_front (codes "jobs ") line)
    (option_or (after_front (codes "grants ") line)
    (option_or (after_front (codes "accounts ") line) (after_front (codes "devices ") line)))

-- `ok`, and what is told behind it, or that rows are sound
abbrev pub is_ok : (line : List ℕ) → Bool
is_ok line =
    bytes_eq line (codes "ok") || bytes_eq (take 3 line) (codes "ok ") || bytes_eq line (codes "sound")

-- `jobs N`, `grants N`, `accounts N` or `devices N`; else it was done where it is `ok`
abbrev pub list_or_told : (line : List ℕ) (count : Option (List ℕ)) → Option Answer
list_or_told line None = Some (if is_ok line then Told else Refused)
list_or_told line (Some count) = option_map (λ count. Lines count) (line_count_said count)

-- `failed`, `bad-line`, `documents N`, a list, that it was done, or why it was refused
abbrev pub answer_said : List ℕ → Option Answer
answer_said line =
    if bytes_eq line (codes "failed") then Some Failed
    else if bytes_eq line (codes "bad-line") then Some BadLine
    else if bytes_eq (take 10 line) (codes "documents ")
    then option_map (λ count. Documents count) (document_count_said (drop 10 line))
    else list_or_told line (after_list_word line)

-- a space or what ASCII prints
abbrev pub is_text_byte : ℕ → Bool
is_text_byte byte = nat_le 32 byte && nat_le byte 126

-- what can be shown as it is
abbrev pub is_text : List ℕ → Bool
is_text line = nat_lt 0 (length line) && list_all is_text_byte line
