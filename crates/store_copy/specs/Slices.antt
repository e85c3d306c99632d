-- A copy that is made in slices, between which the source may change (all this project's own).
use Rattle.std.specs.Prelude.{◌≡◌, ◌⊎◌, ℕ, ◌+◌, ◌<◌, ◌≤◌, Bool, true, List, [], ◌∷◌, Option, None, Some, IfSome, IsSome}
use Rattle.std.specs.Ordering.{is_lt}
use Rattle.sqlite_rules.specs.Lists.{Has}
use Rattle.sqlite.specs.Effect.{Database}
use Rattle.account_state.specs.Names.{AreNames}
use Rattle.account_rules.specs.Devices.{name_cmp}
use Rattle.account_rules.specs.declared.account.Account.{Account}
use Rattle.rows_tables.specs.Accounts.{account_at, AgreeOnRows, HoldsNothing}
use Rattle.rows_tables.specs.Cells.{account_cells}
use Rattle.rows_statements.specs.Alone.{OnlyAccount}
use Rattle.rows_statements.specs.SoundRows.{AreNamed}
use Rattle.store_copy.specs.Copies.{AreCopies, CopiesDevices, HoldsNoDevice, IsCopyOf}
use Rattle.store_copy.specs.Parts.{IsPartly}
use Rattle.store_copy.specs.declared.slices.Progress.{Progress}
use Rattle.store_copy.specs.declared.slices.Progress.TheVariants.{UpTo, Anew, Within}

-- told of a source whose accounts have names
abbrev pub IfNamed : (source : Database) (told : Type 0) → Type 0
IfNamed source told = (names : List (List ℕ))
    → AreNames (λ name. IsSome (account_at source name)) names → AreNamed source → told

-- ---- which account comes next

-- the name comes behind the last one
abbrev pub is_behind : (last : Option (List ℕ)) (name : List ℕ) → Bool
is_behind None name = true
is_behind (Some last) name = is_lt (name_cmp last name)

-- it comes before the next one
abbrev pub is_before : (next : Option (List ℕ)) (name : List ℕ) → Bool
is_before None name = true
is_before (Some next) name = is_lt (name_cmp name next)

-- the next one comes behind the last, and the source has no account between them
pub record ComesNext (last : Option (List ℕ)) (source : Database) (next : Option (List ℕ))
    : Type 0 where
  pub behind : IfSome next (λ name. is_behind last name ≡ true)
  pub none_between : (name : List ℕ)
      → is_behind last name ≡ true → is_before next name ≡ true → account_at source name ≡ None

-- ---- one slice

-- whose turn it was
abbrev pub reached : Progress → Option (List ℕ)
reached (UpTo last) = last
reached (Anew name) = Some name
reached (Within name next job) = Some name

-- what the copy has of that account: all, nothing or a part
abbrev pub HasCome : (progress : Progress) (source copy : Database) → Type 0
HasCome (UpTo None) source copy = Unit {0}
HasCome (UpTo (Some name)) source copy = IsCopyOf name source copy
HasCome (Anew name) source copy = HoldsNothing copy name
HasCome (Within name next job) source copy = IsPartly name next job source copy

-- the copy comes from one of these to the other, and nobody else's rows change
pub record CopiesFurther (name : List ℕ) (from to : Progress) (source before after : Database)
    : Type 0 where
  pub same_account : reached to ≡ Some name
  pub further : HasCome from source before → HasCome to source after
  pub alone : OnlyAccount name before after

-- the account that is under way, or the next one, or the devices, where no account is left: then
-- the copy is whole
abbrev pub CopiesSlice : (from : Progress) (to : Option Progress) (source before after : Database)
    → Type 0
CopiesSlice (UpTo last) None source before after =
    ComesNext last source None × CopiesDevices source before after
CopiesSlice (UpTo last) (Some to) source before after = (name : List ℕ)
    × ComesNext last source (Some name) × CopiesFurther name (Anew name) to source before after
CopiesSlice (Anew name) None source before after = ⊥
CopiesSlice (Anew name) (Some to) source before after =
    CopiesFurther name (Anew name) to source before after
CopiesSlice (Within name next job) None source before after = ⊥
CopiesSlice (Within name next job) (Some to) source before after =
    CopiesFurther name (Within name next job) to source before after

-- ---- that each comes further

-- the number of the job that is next: the first one, where none is copied yet
abbrev pub next_job : Progress → ℕ
next_job (UpTo last) = 1
next_job (Anew name) = 1
next_job (Within name next job) = job

-- the account is done, or its jobs from this number on are copied up to a later one
abbrev pub ComesFurther : (job : ℕ) (to : Progress) → Type 0
ComesFurther job (UpTo None) = ⊥
ComesFurther job (UpTo (Some name)) = Unit {0}
ComesFurther job (Anew name) = ⊥
ComesFurther job (Within name next further) = job < further

-- the account is done
abbrev pub IsDone : (to : Progress) → Type 0
IsDone (UpTo last) = Unit {0}
IsDone (Anew name) = ⊥
IsDone (Within name next job) = ⊥

-- ---- that none goes too far

-- from one number up to another there are so many at most, or one
abbrev pub AreAtMost : (most : Option ℕ) (first end : ℕ) → Type 0
AreAtMost None first end = Unit {0}
AreAtMost (Some most) first end = (end ≤ first + most) ⊎ (end ≤ first + 1)

-- the number up to which the jobs are copied, of an account whose own next job is `next`
abbrev pub end_of : (next : ℕ) (to : Progress) → ℕ
end_of next (UpTo last) = next
end_of next (Anew name) = 1
end_of next (Within name same job) = job

-- the account's own row in the source tells its next job
abbrev pub HasNext : (source : Database) (name : List ℕ) (next : ℕ) → Type 0
HasNext source name next = (it : Account)
    × (account_at source name ≡ Some (account_cells name it)) × (it.next_job ≡ next)

-- of an account that was begun
abbrev pub BeginsAtMost : (most : Option ℕ) (to : Progress) (source : Database) → Type 0
BeginsAtMost most to source = IfSome (reached to) (λ name. (next : ℕ)
    → HasNext source name next → AreAtMost most 1 (end_of next to))

-- a slice from one to the other copies so many jobs at most, or one
abbrev pub CopiesAtMost : (most : Option ℕ) (from to : Progress) (source : Database) → Type 0
CopiesAtMost most (UpTo last) to source = BeginsAtMost most to source
CopiesAtMost most (Anew name) to source = BeginsAtMost most to source
CopiesAtMost most (Within name next job) to source = AreAtMost most job (end_of next to)

-- ---- between two slices

-- the account has no row any more, and nobody else's rows change
pub record ForgetsAccount (name : List ℕ) (before after : Database) : Type 0 where
  pub gone : HoldsNothing after name
  pub alone : OnlyAccount name before after

-- the account that is under way begins anew
abbrev pub StartsAgain : (from to : Progress) (before after : Database) → Type 0
StartsAgain (UpTo last) to before after = (to ≡ UpTo last) × (after ≡ before)
StartsAgain (Anew name) to before after = (to ≡ Anew name) × (after ≡ before)
StartsAgain (Within name next job) to before after =
    (to ≡ Anew name) × ForgetsAccount name before after

-- the source has the same rows of it as before, if one is under way
abbrev pub StaysUnderWay : (progress : Progress) (source later : Database) → Type 0
StaysUnderWay (UpTo last) source later = Unit {0}
StaysUnderWay (Anew name) source later = Unit {0}
StaysUnderWay (Within name next job) source later = AgreeOnRows name source later

-- the source may have changed, and the copy goes on with what is under way, or begins that anew
abbrev pub GoesOn : (from to : Progress) (source later before after : Database) → Type 0
GoesOn from to source later before after =
    (StaysUnderWay from source later × (to ≡ from) × (after ≡ before))
    ⊎ StartsAgain from to before after

-- ---- all slices

-- each sees a source: this one first, and then those
abbrev pub CopiesSlices : (from : Progress) (source : Database) (later : List Database)
    (before after : Database) → Type 0
CopiesSlices from source [] before after = CopiesSlice from None source before after
CopiesSlices from source (next ∷ later) before after = (to : Progress) × (again : Progress)
    × (done : Database) × (begun : Database)
    × CopiesSlice from (Some to) source before done × GoesOn to again source next done begun
    × CopiesSlices again next later begun after

abbrev pub last_of : (source : Database) (later : List Database) → Database
last_of source [] = source
last_of source (next ∷ later) = last_of next later

-- of each text the copy has what one of these sources has
abbrev pub IsOfOne : (sources : List Database) (name : List ℕ) (copy : Database) → Type 0
IsOfOne sources name copy = (source : Database) × Has sources source × IsCopyOf name source copy

-- ---- what follows

-- where the copy had no account and no device, of each text it has in the end what the source had
-- at one of the slices, and of the devices what it had at the last
abbrev pub SlicesCopy : Type 0
SlicesCopy = (source : Database) (later : List Database) (before after : Database)
    → ((name : List ℕ) → HoldsNothing before name) → HoldsNoDevice before
    → CopiesSlices (UpTo None) source later before after
    → ((name : List ℕ) → IsOfOne (source ∷ later) name after)
    × AreCopies (last_of source later) after
