-- Rule: How a file of grants is cut into records, and how many it may have.
use Rattle.std.specs.Prelude.{ℕ, Bool, ◌||◌, nat_lt, List, length}
use Rattle.csv.specs.Reading.{default_config, records, strip_bom}

-- the fields of each record, without a byte order mark at the start of the file
abbrev pub records_of : List ℕ → List (List (List ℕ))
records_of bytes = records default_config (strip_bom bytes)

-- records of a file
abbrev pub most_records : ℕ
most_records = 100000

-- bytes of a file
abbrev pub longest_file : ℕ
longest_file = 67108864

-- more bytes or more records than a file may have
abbrev pub is_too_large : List ℕ → Bool
is_too_large bytes =
    nat_lt longest_file (length bytes) || nat_lt most_records (length (records_of bytes))
