-- Rule: A statement as a table for a spreadsheet (RFC 4180): the opening balance, each grant, each
-- job that ended, the closing balance. The last column adds up to the closing balance. No name begins
-- a formula.
use Rattle.std.specs.Prelude.{ℕ, ◌==◌, ◌||◌, Bool, false, nat_lt, if◌then◌else◌, min, List, [], ◌∷◌, ◌++◌, Option, Some, None, codes, decimal, flat_map}
use Rattle.std.specs.Fmt.{signed_decimal}
use Rattle.std.specs.Str.Lossy.{utf8_lossy}
use Rattle.account_rules.specs.Limits.{last_moment}
use Rattle.account_rules.specs.Months.{month_at}
use Rattle.account_rules.specs.declared.account.Grant.{Grant}
use Rattle.account_rules.specs.declared.job.Job.{Job}
use Rattle.page_markup.specs.Escaping.{is_control}
use Rattle.page_markup.specs.Moments.{day_in_month, month_text, two_digits}
use Rattle.page_pages.specs.Ended.{device_or_none}
use Rattle.page_pages.specs.Movements.{closing, is_then, is_within, opening}
use Rattle.page_pages.specs.Phases.{phase_of, word}
use Rattle.page_pages.specs.declared.statement.Statement.{Statement}
use Rattle.page_pages.specs.declared.statement_rows.TheConstants.{COLUMNS, END_OF_ROW, FIVE_EMPTY, GRANT_CELL, JOB_CELL, OPENING_CELL, CLOSING_CELL}

-- ---- a name

-- A spreadsheet takes a cell for a formula that begins with = + - or @, also behind space and in
-- their wide forms, which begin with the byte 239.
abbrev pub is_formula_sign : ℕ → Bool
is_formula_sign byte =
    nat_lt byte 33
    || (byte == 43 || (byte == 45 || (byte == 61 || (byte == 64 || (byte == 127 || byte == 239)))))

abbrev pub may_be_formula : List ℕ → Bool
may_be_formula [] = false
may_be_formula (byte ∷ rest) = is_formula_sign byte

-- a quote is doubled; where a spreadsheet takes ";" between cells, none begins within a name
abbrev pub cell_byte : ℕ → List ℕ
cell_byte byte =
    if byte == 34 then 34 ∷ 34 ∷ []
    else if byte == 59 then 44 ∷ []
    else if is_control byte then 32 ∷ []
    else byte ∷ []

-- a spreadsheet takes what begins with an apostrophe for a text
abbrev pub mark_of : List ℕ → List ℕ
mark_of text = if may_be_formula text then 39 ∷ [] else []

-- in quotes
unfoldable pub name_cell : (name : List ℕ) → List ℕ
name_cell name =
    let text = utf8_lossy name in
    codes "\"" ++ (mark_of text ++ (flat_map cell_byte text ++ codes "\""))

-- ---- days and units

-- as 2026-11-27
unfoldable pub day_text : (at : ℕ) → List ℕ
day_text at = month_text (month_at at) ++ (codes "-" ++ two_digits (day_in_month at))

abbrev pub end_cell : (ended : Option ℕ) → List ℕ
end_cell None = []
end_cell (Some at) = day_text (min at last_moment)

-- what is charged is taken away
abbrev pub charge_cell : (charged : ℕ) → List ℕ
charge_cell charged = if charged == 0 then codes "0" else codes "-" ++ decimal charged

-- ---- the rows: what it is, its month or day, number, name, state and device of a job, units

-- of a balance: the opening one is of the first month, the closing one of the last
unfoldable pub balance_row : (what : List ℕ) (month : ℕ) (units : List ℕ) → List ℕ
balance_row what month units =
    what ++ (month_text month ++ (FIVE_EMPTY.now ++ (units ++ END_OF_ROW.now)))

unfoldable pub grant_line : Grant → List ℕ
grant_line grant =
    GRANT_CELL.now
    ++ (month_text grant.month ++ (FIVE_EMPTY.now ++ (decimal grant.pages ++ END_OF_ROW.now)))

unfoldable pub job_ending : Job → List ℕ
job_ending job =
    codes ","
    ++ (word (phase_of job)
    ++ (codes ","
    ++ (device_or_none job.standing.device
    ++ (codes "," ++ (charge_cell job.standing.charged ++ END_OF_ROW.now)))))

unfoldable pub job_line : Job → List ℕ
job_line job =
    JOB_CELL.now
    ++ (end_cell job.standing.ended
    ++ (codes "," ++ (decimal job.job ++ (codes "," ++ (name_cell job.name ++ job_ending job)))))

abbrev pub grant_line_if_then : (first last : ℕ) → Grant → List ℕ
grant_line_if_then first last grant =
    if is_within first last grant.month then grant_line grant else []

abbrev pub job_line_if_then : (first last : ℕ) → Job → List ℕ
job_line_if_then first last job =
    if is_then first last job.standing.ended then job_line job else []

abbrev pub opening_row : Statement → List ℕ
opening_row it = balance_row OPENING_CELL.now it.first (signed_decimal (opening it))

abbrev pub closing_row : Statement → List ℕ
closing_row it = balance_row CLOSING_CELL.now it.last (signed_decimal (closing it))

unfoldable pub statement_rows : Statement → List ℕ
statement_rows it =
    COLUMNS.now
    ++ (opening_row it
    ++ (flat_map (grant_line_if_then it.first it.last) it.grants
    ++ (flat_map (job_line_if_then it.first it.last) it.ended
    ++ closing_row it)))
