-- What is gathered of all accounts for the print room's page, step by step (all this project's own).
use Rattle.std.specs.Prelude.{◌≡◌, ◌⊎◌, ◌+◌, ◌-◌, ⊤, ℕ, Bool, false, true, List, [], ◌∷◌, ◌++◌, ◌&&◌, if◌then◌else◌, length, min, nat_le, nat_lt, slice_get, Option, None, Some, is_some, vec_len, IsTrue}
use Rattle.std.specs.FinMap.{values}
use Rattle.sqlite.specs.Held.{Held}
use Rattle.sqlite_trees.specs.declared.store.Store.{Ghosts}
use Rattle.page_overview.specs.Overviews.{Shows, Surveyed}
use Rattle.page_overview.specs.Surveys.{IsSurvey}
use Rattle.page_overview.specs.declared.overview.Overview.{Overview}
use Rattle.page_overview.specs.declared.overview.TheConstants.{MOST_ACCOUNTS}
use Rattle.page_overview.specs.declared.survey.Survey.{Survey}
use Rattle.account_state.specs.Names.{next_names}
use Rattle.account_rules.specs.Devices.{Devices}
use Rattle.account_rules.specs.declared.device.Device.{Device}
use Rattle.account_rules.specs.Limits.{last_moment, last_month}
use Rattle.account_rules.specs.Months.{month_at}
use Rattle.account_state.specs.Rooms.{RoomValue}
use Rattle.room_store.specs.Questions.{OpenNames}
use Rattle.rows_survey.specs.Reading.{SurveyIsReadable}
use Rattle.rows_tables.specs.Accounts.{HoldsRoom}
use Rattle.rows_tables.specs.Calls.{IfOurTables}
use Rattle.rows_tables.specs.Devices.{HoldsDevices}
use Rattle.serve_peers.specs.Applying.{OnlyLooks}
use Rattle.serve_peers.specs.declared.gathering.Adding.{Adding}
use Rattle.serve_peers.specs.declared.gathering.Gathered.{Gathered}
use Rattle.serve_peers.specs.declared.gathering.Gathering.{Gathering}
use Rattle.serve_peers.specs.declared.gathering.Gathering.TheVariants.{Adds, Begun}
use Rattle.serve_peers.specs.declared.gathering.Stepped.{Stepped}
use Rattle.serve_peers.specs.declared.gathering.Stepped.TheVariants.{GivenUp, More, Whole}

-- ---- when it is gathered

-- the month of a moment, or the last that the rules know
abbrev pub month_then : (moment : ℕ) → ℕ
month_then moment = if nat_le moment last_moment then month_at moment else last_month

-- seconds in which what was gathered is not gathered anew
abbrev pub fresh : ℕ
fresh = 10

abbrev pub is_fresh : (as_of : Option ℕ) (moment : ℕ) → Bool
is_fresh None moment = false
is_fresh (Some at) moment = nat_le at moment && nat_lt (moment - at) fresh

abbrev pub gathers : Gathered → Bool
gathers it = is_some it.under_way

-- somebody asks for the page
abbrev pub asked_at : (moment : ℕ) → Gathered → Gathered
asked_at moment it =
    if gathers it then it
    else if is_fresh it.shown.as_of moment then it
    else if nat_le moment last_moment then record it { under_way = Some (Begun moment) }
    else it

-- ---- a step

-- what it has come to is kept
abbrev pub gathered_then : Stepped → Gathered → Gathered
gathered_then (More gathering) it = record { shown = it.shown; under_way = Some gathering }
gathered_then (Whole overview) it = record { shown = overview; under_way = None }
gathered_then GivenUp it = record { shown = it.shown; under_way = None }

-- the next account of those that were found
abbrev pub next_of : Adding → Option (List ℕ)
next_of it = slice_get it.names it.taken

-- the last of them
abbrev pub last_of : Adding → Option (List ℕ)
last_of it = slice_get it.names (length it.names - 1)

-- nothing was added yet, at this moment
pub record HasBegun (at : ℕ) (it : Adding) : Type 0 where
  pub shows : Shows [] it.overview
  pub as_of : it.overview.as_of ≡ Some at
  pub month : it.overview.month ≡ month_at at
  pub names : it.names ≡ []
  pub taken : it.taken ≡ 0

-- the next place; none is behind the greatest number
abbrev pub place_behind : ℕ → ℕ
place_behind place = min (place + 1) 18446744073709551615

-- its account was taken, and nothing but the overview is another
pub record HasTaken (from to : Adding) : Type 0 where
  pub names : to.names ≡ from.names
  pub taken : to.taken ≡ place_behind from.taken
  pub as_of : to.overview.as_of ≡ from.overview.as_of
  pub month : to.overview.month ≡ from.overview.month
  pub devices : to.overview.devices ≡ from.overview.devices

-- whatever it shows, of this account it shows the survey too
abbrev pub ShowsMore : (account : List ℕ) (survey : Survey) (from to : Overview) → Type 0
ShowsMore account survey from to = (surveys : List Surveyed) → Shows surveys from
    → Shows (surveys ++ (account, survey) ∷ []) to

-- a survey is added, or memory ran out
abbrev pub AddsSurvey : (account : List ℕ) (survey : Survey) (from : Adding) → Stepped → Type 0
AddsSurvey account survey from (More (Adds to)) =
    HasTaken from to × ShowsMore account survey from.overview to.overview
AddsSurvey account survey from GivenUp = ⊤
AddsSurvey account survey from _ = ⊥

-- an account is left out
abbrev pub LeavesOut : (from : Adding) → Stepped → Type 0
LeavesOut from (More (Adds to)) =
    HasTaken from to × (to.overview ≡ record from.overview { skips = true })
LeavesOut from _ = ⊥

-- Others were found, or none. Then it is whole, and if it is full, it tells that there are more.
abbrev pub FindsTo : (from : Adding) (found : List (List ℕ)) → Stepped → Type 0
FindsTo from found (More (Adds to)) =
    (to.overview ≡ from.overview) × (to.names ≡ found) × (to.taken ≡ 0)
FindsTo from found (Whole overview) = ((found ≡ []) × (overview ≡ from.overview))
    ⊎ (IsTrue (nat_le MOST_ACCOUNTS (vec_len from.overview.accounts))
    × (overview ≡ record from.overview { has_more = true }))
FindsTo from found _ = ⊥

module _ {S : Type 0} (store : Ghosts S) where
  -- ---- what is read

  abbrev pub AreDevices : (listed : List Device) (old new : Held S) → Type 0
  AreDevices listed old new = IfOurTables store old new (λ db. (devices : Devices)
      → HoldsDevices db devices → listed ≡ values devices)

  -- the accounts that come behind a name
  abbrev pub AreNext : (behind : Option (List ℕ)) (found : List (List ℕ)) (old new : Held S)
      → Type 0
  AreNext behind found old new = IfOurTables store old new (λ db. (names : List (List ℕ))
      → OpenNames db names → found ≡ next_names behind names)

  -- the account comes to this, by its rows
  abbrev pub Surveys : (month : ℕ) (account : List ℕ) (survey : Survey) (old new : Held S) → Type 0
  Surveys month account survey old new = IfOurTables store old new (λ db. (room : RoomValue)
      → HoldsRoom db account room → IsSurvey month room survey)

  -- its rows are none of sound rows
  abbrev pub IsDamaged : (month : ℕ) (account : List ℕ) (old new : Held S) → Type 0
  IsDamaged month account old new =
      IfOurTables store old new (λ db. SurveyIsReadable account month db → ⊥)

  -- ---- what that comes to

  -- an overview begins, with the devices
  abbrev pub BeginsTo : (at : ℕ) (old new : Held S) → Stepped → Type 0
  BeginsTo at old new (More (Adds it)) =
      HasBegun at it × AreDevices it.overview.devices old new
  BeginsTo at old new GivenUp = ⊤
  BeginsTo at old new _ = ⊥

  pub record Begins (at : ℕ) (old new : Held S) (to : Stepped) : Type 0 where
    pub looks : OnlyLooks store old new
    pub to_this : BeginsTo at old new to

  -- the account is added, or left out, or all is given up
  abbrev pub AddsTo : (account : List ℕ) (from : Adding) (old new : Held S) → Stepped → Type 0
  AddsTo account from old new to =
      ((survey : Survey) × Surveys from.overview.month account survey old new
      × AddsSurvey account survey from to)
      ⊎ ((IsDamaged from.overview.month account old new × LeavesOut from to)
      ⊎ (to ≡ GivenUp))

  pub record AddsAccount (account : List ℕ) (from : Adding) (old new : Held S) (to : Stepped)
      : Type 0 where
    pub looks : OnlyLooks store old new
    pub to_this : AddsTo account from old new to

  -- the next accounts are found, or all is given up
  abbrev pub FindsOrNot : (from : Adding) (old new : Held S) → Stepped → Type 0
  FindsOrNot from old new to = ((found : List (List ℕ))
      × AreNext (last_of from) found old new × FindsTo from found to) ⊎ (to ≡ GivenUp)

  pub record FindsNames (from : Adding) (old new : Held S) (to : Stepped) : Type 0 where
    pub looks : OnlyLooks store old new
    pub to_this : FindsOrNot from old new to

  -- the account that was found is added, or others are found
  abbrev pub AddsBy : (next : Option (List ℕ)) (from : Adding) (old new : Held S) (to : Stepped)
      → Type 0
  AddsBy (Some account) from old new to = AddsAccount account from old new to
  AddsBy None from old new to = FindsNames from old new to

  abbrev pub AddsOn : (from : Adding) (old new : Held S) (to : Stepped) → Type 0
  AddsOn from old new to = AddsBy (next_of from) from old new to

  abbrev pub StepsOn : (from : Gathering) (old new : Held S) (to : Stepped) → Type 0
  StepsOn (Begun at) old new to = Begins at old new to
  StepsOn (Adds adding) old new to = AddsOn adding old new to
