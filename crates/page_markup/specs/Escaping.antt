-- Rule: Text as HTML shows it: a character reference in the place of each byte that could be markup
-- (the HTML standard, section 13.1.4).
use Rattle.std.specs.Prelude.{ℕ, List, [], ◌∷◌, codes, ◌==◌, ◌||◌, nat_lt, Bool, if◌then◌else◌, flat_map}
use Rattle.std.specs.Str.Lossy.{utf8_lossy}

-- U+FFFD as UTF-8
abbrev pub replacement : List ℕ
replacement = 239 ∷ 191 ∷ 189 ∷ []

-- in a text that is UTF-8: a byte that is a control of ASCII
abbrev pub is_control : ℕ → Bool
is_control byte = nat_lt byte 32 || byte == 127

abbrev pub escaped_byte : ℕ → List ℕ
escaped_byte byte =
    if byte == 38 then codes "&amp;"
    else if byte == 60 then codes "&lt;"
    else if byte == 62 then codes "&gt;"
    else if byte == 34 then codes "&quot;"
    else if byte == 39 then codes "&#39;"
    else byte ∷ []

abbrev pub shown_byte : ℕ → List ℕ
shown_byte byte = if is_control byte then replacement else escaped_byte byte

-- what is no UTF-8 is shown as U+FFFD, one for each longest piece that could have begun a character
abbrev pub escaped : List ℕ → List ℕ
escaped text = flat_map shown_byte (utf8_lossy text)

-- ---- what a reader is to read

abbrev pub readable_byte : ℕ → List ℕ
readable_byte byte = if is_control byte then replacement else byte ∷ []

-- the text, where it is UTF-8 with no control
abbrev pub readable : List ℕ → List ℕ
readable text = flat_map readable_byte (utf8_lossy text)
