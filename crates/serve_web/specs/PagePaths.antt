-- Which path of a browser leads where, byte by byte (all this project's own).
use Rattle.std.specs.Prelude.{◌≡◌, ℕ, ◌≤◌, IfOk, codes, List, ◌++◌, length, Some}
use Rattle.std.specs.List.{AllByRecursion}
use Rattle.std.specs.Str.Parse.{digits_value}
use Rattle.http.specs.Request.{head_of}
use Rattle.http.specs.declared.request.Request.{Request}
use Rattle.http_uri.specs.Uri.{uri_path}
use Rattle.room_serve.specs.Paths.{IsDigit, IsName}
use Rattle.serve_web.specs.Places.{place_of}
use Rattle.serve_web.specs.Requests.{asked}
use Rattle.page_pages.specs.declared.statement.Form.TheVariants.{Paper, Csv}
use Rattle.serve_web.specs.declared.asked.Asked.{Asked}
use Rattle.serve_web.specs.declared.asked.Asked.TheVariants as asked_is
use Rattle.serve_web.specs.declared.place.Place.{Place}
use Rattle.serve_web.specs.declared.place.Place.TheVariants.{Room, Style, Script, Owner, Statement, Table, Print, Job}

-- 1 to 8 digits, and what they count
pub record SaysJob (digits : List ℕ) (job : ℕ) : Type 0 where
  pub least : 1 ≤ length digits
  pub most : length digits ≤ 8
  pub are_digits : AllByRecursion IsDigit digits
  pub says : digits_value 10 digits ≡ job

-- "/" and the account's name, and this behind it
pub record IsOf (account behind path : List ℕ) : Type 0 where
  pub account_is : IsName account
  pub is : path ≡ codes "/" ++ (account ++ behind)

abbrev pub LeadsTo : (path : List ℕ) → Place → Type 0
LeadsTo path Room = path ≡ codes "/"
LeadsTo path Style = path ≡ codes "/style.css"
LeadsTo path Script = path ≡ codes "/page.js"
LeadsTo path (Owner account) = IsOf account (codes "") path
LeadsTo path (Statement account) = IsOf account (codes "/statement") path
LeadsTo path (Table account) = IsOf account (codes "/statement.csv") path
LeadsTo path (Print account) = IsOf account (codes "/print") path
LeadsTo path (Job account job) =
    (digits : List ℕ) × SaysJob digits job × IsOf account (codes "/" ++ digits) path

-- where a request leads that asks for this
abbrev pub place_for : Asked → Place
place_for asked_is.Style = Style
place_for asked_is.Script = Script
place_for (asked_is.Room front behind) = Room
place_for (asked_is.Owner account came stays) = Owner account
place_for (asked_is.Statement account Paper months) = Statement account
place_for (asked_is.Statement account Csv months) = Table account
place_for (asked_is.Act account act job) = Job account job
place_for (asked_is.Print account copies pages) = Print account

-- a path that leads somewhere is spelled so
abbrev pub PathsAreSpelled : Type 0
PathsAreSpelled = (path : List ℕ) (place : Place) → place_of path ≡ Some place → LeadsTo path place

-- and whatever is spelled so leads there, and nowhere else
abbrev pub PathsLead : Type 0
PathsLead = (path : List ℕ) (place : Place) → LeadsTo path place → place_of path ≡ Some place

-- a request that is not refused asks for what its path leads to
abbrev pub AsksByItsPath : Type 0
AsksByItsPath = (request : Request (List ℕ))
    → IfOk (asked request) (λ it. LeadsTo (uri_path (head_of request).uri) (place_for it))
