-- A step of what is gathered, by what its read says.
use Rattle.std.proofs.Common.{◌≡◌, ◌≤◌, ◌<◌, ℕ, List, Option, Some, None, Bor, MatchOption, HoldsAt, IfSome, Result, Ok, Err, IfOk, get_or, length, slice_get, refl, sym}
use Rattle.std.proofs.lemmas.Option.{slice_get_past, slice_get_read}
use Rattle.std.specs.Option.{option_copied}
use Rattle.std.specs.FinMap.{values}
use Rattle.sqlite.specs.Held.{Held}
use Rattle.sqlite_trees.specs.declared.store.Store.{Ghosts}
use Rattle.page_overview.specs.Surveys.{IsSurvey}
use Rattle.page_overview.specs.declared.survey.Survey.{Survey}
use Rattle.account_state.specs.Names.{next_names}
use Rattle.account_rules.specs.Devices.{Devices}
use Rattle.account_rules.specs.declared.device.Device.{Device}
use Rattle.account_state.specs.Rooms.{RoomValue}
use Rattle.room_store.specs.Questions.{OpenNames}
use Rattle.rows_survey.specs.Reading.{SurveyIsReadable}
use Rattle.rows_tables.specs.Accounts.{HoldsRoom}
use Rattle.rows_tables.specs.Calls.{IfOurTables}
use Rattle.rows_tables.specs.Devices.{HoldsDevices}
use Rattle.rows_tables.specs.declared.fault.TableFault.{TableFault}
use Rattle.rows_tables.specs.declared.fault.TableFault.TheVariants.{Damaged}
use Rattle.serve_peers.specs.Gathering.{AreDevices, AreNext, IsDamaged, Surveys}

-- what `get` lends is what stands at the place
pub got : {X : Type 0} (lent : Option (Bor X)) (xs : List X) (i : ℕ) → IfSome lent (λ x. x.now ≡ get_or xs i x.now) → MatchOption lent (length xs ≤ i) (λ x. (i < length xs) × HoldsAt (λ y. x.now ≡ y) xs i) → option_copied lent ≡ slice_get xs i
got None xs i is at = sym (slice_get_past xs i at)
got (Some x) xs i is at = sym (slice_get_read xs (length xs) i x.now refl at.0 is)

-- where a read answers
module _ {S : Type 0} (store : Ghosts S) (old new : Held S) where
  pub devices_told : (r : Result (List Device) TableFault) → IfOurTables store old new (λ db. (devices : Devices) → HoldsDevices db devices → IfOk r (λ listed. listed ≡ values devices)) → IfOk r (λ listed. AreDevices store listed old new)
  devices_told (Ok listed) told = told
  devices_told (Err fault) told = tt

  pub names_told : (behind : Option (List ℕ)) (r : Result (List (List ℕ)) TableFault) → IfOurTables store old new (λ db. (names : List (List ℕ)) → OpenNames db names → IfOk r (λ next. next ≡ next_names behind names)) → IfOk r (λ found. AreNext store behind found old new)
  names_told behind (Ok found) told = told
  names_told behind (Err fault) told = tt

  pub survey_told : (month : ℕ) (account : List ℕ) (r : Result Survey TableFault) → IfOurTables store old new (λ db. (room : RoomValue) → HoldsRoom db account room → IfOk r (IsSurvey month room)) → IfOk r (λ survey. Surveys store month account survey old new)
  survey_told month account (Ok survey) told = told
  survey_told month account (Err fault) told = tt

  pub damaged_told : (month : ℕ) (account : List ℕ) (r : Result Survey TableFault) → IfOurTables store old new (λ db. r ≡ Err Damaged → SurveyIsReadable account month db → ⊥) → r ≡ Err Damaged → IsDamaged store month account old new
  damaged_told month account r told is clean has = told clean has is
