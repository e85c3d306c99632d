-- Rule: Which page, account or job the path of a request leads to (all this project's own).
use Rattle.std.specs.Prelude.{ℕ, List, length, drop, Option, Some, None, codes, bytes_eq, if◌then◌else◌, option_and_then, option_map}
use Rattle.input_http.specs.Words.{before}
use Rattle.account_rules.specs.Names.{is_name}
use Rattle.account_rules.specs.QueuePaths.{behind}
use Rattle.serve_web.specs.Numbers.{number_said}
use Rattle.serve_web.specs.declared.place.Place.{Place}
use Rattle.serve_web.specs.declared.place.Place.TheVariants.{Room, Style, Script, Owner, Statement, Table, Print, Job}

-- the number of a job
abbrev pub job_in : (account digits : List ℕ) → Option Place
job_in account digits = option_map (λ job. Job account job) (number_said digits)

-- behind the name of an account
abbrev pub place_in : (account part : List ℕ) → Option Place
place_in account part =
    if bytes_eq part (codes "") then Some (Owner account)
    else if bytes_eq part (codes "/statement") then Some (Statement account)
    else if bytes_eq part (codes "/statement.csv") then Some (Table account)
    else if bytes_eq part (codes "/print") then Some (Print account)
    else option_and_then (job_in account) (behind (codes "/") part)

-- a name ends before the first "/"
abbrev pub place_behind : (rest : List ℕ) → Option Place
place_behind rest =
    let name = before 47 rest in
    if is_name name then place_in name (drop (length name) rest) else None

abbrev pub place_of : (path : List ℕ) → Option Place
place_of path =
    if bytes_eq path (codes "/") then Some Room
    else if bytes_eq path (codes "/style.css") then Some Style
    else if bytes_eq path (codes "/page.js") then Some Script
    else option_and_then place_behind (behind (codes "/") path)
