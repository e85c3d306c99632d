-- Rule: The page that shows an overview (all this project's own).
use Rattle.std.specs.Prelude.{◌≡◌, ℕ, ◌+◌, ◌-◌, ◌/◌, ◌%◌, ◌==◌, ◌&&◌, pos, Bool, true, if◌then◌else◌, filter, length, min, nat_lt, List, [], ◌∷◌, Option, None, Some, option_map, slice_get, take}
use Rattle.std.specs.List.{starts_with}
use Rattle.std.specs.Ordering.{is_lt}
use Rattle.jiff_core.specs.Calendar.{days_in_month}
use Rattle.page_pages.specs.DeskRooms.{desk_page}
use Rattle.page_pages.specs.Rooms.{room_page}
use Rattle.page_pages.specs.declared.accounts.AccountLine.{AccountLine}
use Rattle.page_pages.specs.declared.chart.DayLine.{DayLine}
use Rattle.page_pages.specs.declared.room.Room.{Room}
use Rattle.account_rules.specs.Devices.{name_cmp}
use Rattle.account_rules.specs.Limits.{last_month}
use Rattle.page_overview.specs.declared.overview.Overview.{Overview}
use Rattle.page_overview.specs.declared.page.TheConstants.{MOST_LISTED}

-- ---- the days of its month

-- a month past the last that the rules know has as many as that
abbrev pub days_in : (month : ℕ) → ℕ
days_in month = days_in_month (pos (min month last_month / 12)) (min month last_month % 12 + 1)

abbrev pub numbered : (day : ℕ) → (units : List ℕ) → List DayLine
numbered day [] = []
numbered day (units ∷ more) = record { day = day; units = units } ∷ numbered (day + 1) more

abbrev pub day_lines : Overview → List DayLine
day_lines it = numbered 1 (take (days_in it.month) it.days)

-- ---- the accounts that are asked for

abbrev pub begins_so : (front : Option (List ℕ)) (account : List ℕ) → Bool
begins_so None account = true
begins_so (Some front) account = starts_with (λ a b. a == b) account front

abbrev pub comes_behind : (behind : Option (List ℕ)) (account : List ℕ) → Bool
comes_behind None account = true
comes_behind (Some name) account = is_lt (name_cmp name account)

abbrev pub is_listed : (front behind : Option (List ℕ)) → AccountLine → Bool
is_listed front behind line = begins_so front line.account && comes_behind behind line.account

-- the first of them, and one more where there are more
abbrev pub found : (front behind : Option (List ℕ)) → List AccountLine → List AccountLine
found front behind lines = take (MOST_LISTED + 1) (filter (is_listed front behind) lines)

-- the last that is listed, where more were found
abbrev pub next_behind : List AccountLine → Option (List ℕ)
next_behind lines =
    if nat_lt MOST_LISTED (length lines)
    then option_map (λ (line : AccountLine). line.account) (slice_get lines (MOST_LISTED - 1))
    else None

-- ---- the page

-- it shows the overview, with these days and accounts
pub record Lists (it : Overview) (gathers : Bool) (front : Option (List ℕ)) (days : List DayLine)
    (accounts : List AccountLine) (behind : Option (List ℕ)) (room : Room) : Type 0 where
  pub as_of : room.as_of ≡ it.as_of
  pub gathers_now : room.gathers ≡ gathers
  pub skips : room.skips ≡ it.skips
  pub has_more : room.has_more ≡ it.has_more
  pub month : room.month ≡ it.month
  pub are_open : room.«open» ≡ length it.accounts.items
  pub waiting : room.waiting ≡ it.waiting
  pub unsettled : room.unsettled ≡ it.unsettled
  pub charged : room.charged ≡ it.charged
  pub beyond : room.beyond ≡ it.beyond
  pub days_are : room.days.now ≡ days
  pub begun : room.begun.now ≡ it.begun.items
  pub longest : room.longest.now ≡ it.longest.items
  pub devices : room.devices.now ≡ it.devices
  pub front_is : room.front ≡ front
  pub accounts_are : room.accounts.now ≡ accounts
  pub behind_is : room.behind ≡ behind

-- the days of the month, and the first accounts of those that are asked for
abbrev pub ListsFound : (it : Overview) (gathers : Bool) (front behind : Option (List ℕ))
    → Room → Type 0
ListsFound it gathers front behind room = Lists it gathers front (day_lines it)
    (take MOST_LISTED (found front behind it.accounts.items))
    (next_behind (found front behind it.accounts.items)) room

abbrev pub IsPage : (it : Overview) (gathers : Bool) (front behind : Option (List ℕ))
    (page : List ℕ) → Type 0
IsPage it gathers front behind page =
    (room : Room) × ListsFound it gathers front behind room × (page ≡ room_page room)

-- the desk's first page shows the same
abbrev pub IsDesk : (it : Overview) (gathers : Bool) (front behind : Option (List ℕ))
    (page : List ℕ) → Type 0
IsDesk it gathers front behind page =
    (room : Room) × ListsFound it gathers front behind room × (page ≡ desk_page room)
