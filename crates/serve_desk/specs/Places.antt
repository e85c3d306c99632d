-- Rule: Which page or account the path of a request at the desk leads to (all this project's own).
use Rattle.std.specs.Prelude.{ℕ, List, length, drop, Option, Some, None, codes, bytes_eq, if◌then◌else◌, option_and_then}
use Rattle.account_rules.specs.Names.{is_name}
use Rattle.account_rules.specs.QueuePaths.{behind}
use Rattle.input_http.specs.Words.{before}
use Rattle.serve_web.specs.Queries.{behind_in, name_said}
use Rattle.serve_desk.specs.declared.place.Listed.{Listed}
use Rattle.serve_desk.specs.declared.place.Place.{Place}
use Rattle.serve_desk.specs.declared.place.Place.TheVariants.{Room, Devices, Style, Script, DeskScript, Line, Account, Statement, Table}

-- behind the name of an account
abbrev pub place_in : (account part : List ℕ) → Option Place
place_in account part =
    if bytes_eq part (codes "") then Some (Account account)
    else if bytes_eq part (codes "/statement") then Some (Statement account)
    else if bytes_eq part (codes "/statement.csv") then Some (Table account)
    else None

-- a name ends before the first "/"
abbrev pub place_behind : (rest : List ℕ) → Option Place
place_behind rest =
    let name = before 47 rest in
    if is_name name then place_in name (drop (length name) rest) else None

-- no name has a dot, so no account has the path of another page
abbrev pub place_of : (path : List ℕ) → Option Place
place_of path =
    if bytes_eq path (codes "/") then Some Room
    else if bytes_eq path (codes "/devices.html") then Some Devices
    else if bytes_eq path (codes "/style.css") then Some Style
    else if bytes_eq path (codes "/page.js") then Some Script
    else if bytes_eq path (codes "/desk.js") then Some DeskScript
    else if bytes_eq path (codes "/line.html") then Some Line
    else option_and_then place_behind (behind (codes "/") path)

-- ---- which accounts the first page lists, as the print room's page reads it

abbrev pub listed_behind : (rest : List ℕ) → Listed
listed_behind rest =
    let word = before 38 rest in
    record { front = name_said word; behind = behind_in (drop (length word) rest) }

abbrev pub listed_of : (rest : Option (List ℕ)) → Listed
listed_of None = record { front = None; behind = None }
listed_of (Some rest) = listed_behind rest

abbrev pub listed_in : (query : List ℕ) → Listed
listed_in query = listed_of (behind (codes "front=") query)
