-- Rule: What the query of a page or the form of an act says. Each field is `NAME=VALUE`, `&` stands
-- between two, and they come in one order (all this project's own; the order is that in which the
-- pages and their script write them).
use Rattle.std.specs.Prelude.{ℕ, ◌+◌, ◌*◌, ◌||◌, ◌==◌, not, List, length, drop, nat_lt, Option, Some, None, codes, bytes_eq, if◌then◌else◌, option_and_then, option_map}
use Rattle.input_fields.specs.Fields.{month_said}
use Rattle.client_owner.specs.declared.acts.JobAct.{JobAct}
use Rattle.client_owner.specs.declared.acts.JobAct.TheVariants as job_act
use Rattle.input_http.specs.Words.{before}
use Rattle.account_rules.specs.Limits.{most_copies}
use Rattle.account_rules.specs.Names.{is_name}
use Rattle.account_rules.specs.QueuePaths.{behind}
use Rattle.serve_web.specs.OutcomeQueries.{came_in}
use Rattle.serve_web.specs.Numbers.{number_said}
use Rattle.page_pages.specs.declared.statement.Form.{Form}
use Rattle.serve_web.specs.declared.asked.Months.{Months}
use Rattle.serve_web.specs.declared.asked.Asked.{Asked}
use Rattle.serve_web.specs.declared.asked.Asked.TheVariants.{Room, Owner, Statement, Act, Print}

-- what stands behind the value of the field in front
abbrev pub behind_value : (next rest : List ℕ) → Option (List ℕ)
behind_value next rest = behind next (drop (length (before 38 rest)) rest)

-- ---- the print room's page: front, behind

abbrev pub name_said : (text : List ℕ) → Option (List ℕ)
name_said text = if is_name text then Some text else None

abbrev pub behind_in : (part : List ℕ) → Option (List ℕ)
behind_in part = option_and_then name_said (behind (codes "&behind=") part)

abbrev pub room_behind : (rest : List ℕ) → Asked
room_behind rest =
    let word = before 38 rest in
    Room (name_said word) (behind_in (drop (length word) rest))

abbrev pub room_of : (rest : Option (List ℕ)) → Asked
room_of None = Room None None
room_of (Some rest) = room_behind rest

-- what is no name is as if it were not there
abbrev pub room_asked : (query : List ℕ) → Asked
room_asked query = room_of (behind (codes "front=") query)

-- ---- the owner's page: what came of an act, or `still`

abbrev pub owner_asked : (account query : List ℕ) → Asked
owner_asked account query = Owner account (came_in query) (bytes_eq query (codes "still"))

-- ---- a statement: month, year, or nothing for the month that it is

abbrev pub months_of : (first last : ℕ) → Months
months_of first last = record { first = first; last = last }

abbrev pub month_in : (text : List ℕ) → Option Months
month_in text = option_map (λ month. months_of month month) (month_said text)

-- the twelve months of a year from 1970 to 2099
abbrev pub year_of : (year : ℕ) → Option Months
year_of year =
    if nat_lt year 1970 || nat_lt 2099 year then None
    else Some (months_of (year * 12) (year * 12 + 11))

-- four digits
abbrev pub year_in : (text : List ℕ) → Option Months
year_in text = if not (length text == 4) then None else option_and_then year_of (number_said text)

abbrev pub months_or : (month : Option (List ℕ)) (query : List ℕ) → Option Months
months_or (Some text) query = month_in text
months_or None query = option_and_then year_in (behind (codes "year=") query)

abbrev pub months_in : (query : List ℕ) → Option Months
months_in query = months_or (behind (codes "month=") query) query

abbrev pub statement_asked : (account : List ℕ) (form : Form) (query : List ℕ) → Option Asked
statement_asked account form query =
    if bytes_eq query (codes "") then Some (Statement account form None)
    else option_map (λ months. Statement account form (Some months)) (months_in query)

-- ---- what is to be done with a job: act

abbrev pub act_in : (form : List ℕ) → Option JobAct
act_in form =
    if bytes_eq form (codes "act=release") then Some job_act.Release
    else if bytes_eq form (codes "act=hold") then Some job_act.Hold
    else if bytes_eq form (codes "act=cancel") then Some job_act.Cancel
    else None

abbrev pub act_asked : (account : List ℕ) (job : ℕ) (form : List ℕ) → Option Asked
act_asked account job form = option_map (λ act. Act account act job) (act_in form)

-- ---- a file that is to be printed: name, copies, and pages, whose value may be empty

-- so many copies, if a job may have them
abbrev pub copies_of : (number : ℕ) → Option ℕ
copies_of number = if number == 0 || nat_lt most_copies number then None else Some number

abbrev pub copies_in : (digits : List ℕ) → Option ℕ
copies_in digits = option_and_then copies_of (number_said digits)

abbrev pub pages_in : (text : List ℕ) → Option (Option ℕ)
pages_in text =
    if bytes_eq text (codes "") then Some None
    else option_map (λ pages. Some pages) (number_said text)

abbrev pub print_of : (account : List ℕ) (pages : Option (Option ℕ)) (copies : ℕ) → Option Asked
print_of account pages copies = option_map (λ count. Print account copies count) pages

abbrev pub counts_asked : (account rest : List ℕ) → Option Asked
counts_asked account rest =
    let pages = option_and_then pages_in (behind_value (codes "&pages=") rest) in
    option_and_then (print_of account pages) (copies_in (before 38 rest))

abbrev pub print_asked : (account query : List ℕ) → Option Asked
print_asked account query =
    option_and_then (counts_asked account)
    (option_and_then (behind_value (codes "&copies=")) (behind (codes "name=") query))
