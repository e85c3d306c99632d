-- Rule: The lines that records of grants ask for (all this project's own).
use Rattle.std.specs.Prelude.{ℕ, ◌+◌, ◌/◌, ◌%◌, List, [], ◌∷◌, ◌++◌, codes, decimal, Option, None, Some}
use Rattle.std.specs.List.{flat_map}
use Rattle.std.specs.Io.KnownBytes.{Appends}
use Rattle.input_fields.specs.GrantFiles.{records_of}
use Rattle.input_fields.specs.GrantLines.{grant_lines}
use Rattle.client_lines.specs.Sending.{AppendsUpTo}
use Rattle.input_fields.specs.declared.grant_line.GrantLine.{GrantLine}
use Rattle.input_fields.specs.declared.grant_line.GrantLine.TheVariants.{Good, Bad}

abbrev pub two_digits : ℕ → List ℕ
two_digits number = (48 + number / 10) ∷ (48 + number % 10) ∷ []

-- `YYYY-MM` of twelve times the year, and 0 for January to 11 for December
abbrev pub month_text : ℕ → List ℕ
month_text month = two_digits (month / 12 / 100) ++ two_digits (month / 12 % 100) ++ codes "-"
    ++ two_digits (month % 12 + 1)

abbrev pub grant_text : (account : List ℕ) (month pages : ℕ) → List ℕ
grant_text account month pages =
    codes "grant " ++ account ++ codes " " ++ month_text month ++ codes " " ++ decimal pages

-- the line that a record asks for: a bad one asks for none
abbrev pub line_asked : GrantLine → Option (List ℕ)
line_asked (Good account month pages) = Some (grant_text account month pages)
line_asked (Bad number) = None

-- a good record asks for a line, with the line feed that ends it
abbrev pub record_sent : GrantLine → List ℕ
record_sent (Good account month pages) = grant_text account month pages ++ codes "\n"
record_sent (Bad number) = []

-- one record after another
abbrev pub records_sent : List GrantLine → List ℕ
records_sent records = flat_map record_sent records

-- the lines of all good records of a file that was left were sent
abbrev pub SendsFile : (left : List ℕ → Type 0) (before after : Option (List ℕ)) → Type 0
SendsFile left before after = (file : List ℕ) × left file
    × Appends before after (records_sent (grant_lines (records_of file)))

-- a front of that, or all of it, was sent
abbrev pub SendsFileFront : (left : List ℕ → Type 0) (before after : Option (List ℕ)) → Type 0
SendsFileFront left before after = (file : List ℕ) × left file
    × AppendsUpTo before after (records_sent (grant_lines (records_of file)))
