-- What a backup's slices copy of the tables that are served (all this project's own).
use Rattle.std.specs.Prelude.{◌≡◌, ℕ, ◌+◌, min, Bool, false, true, if◌then◌else◌, nat_lt, List, Option, None, Some, IfSome, Result, Ok}
use Rattle.sqlite.specs.Held.{Held, state}
use Rattle.sqlite.specs.State.{HasCleanDisk}
use Rattle.sqlite_trees.specs.declared.store.Store.{Ghosts}
use Rattle.store_copy.specs.Slices.{ComesFurther, CopiesAtMost, CopiesSlice, IfNamed, IsDone, StartsAgain, next_job}
use Rattle.store_copy.specs.declared.slices.Progress.{Progress}
use Rattle.store_copy.specs.declared.slices.Progress.TheVariants.{UpTo, Anew, Within}
use Rattle.rows_tables.specs.Calls.{IfOurTables, KeepsConnection}
use Rattle.rows_tables.specs.Keyed.{HasSchema}
use Rattle.rows_tables.specs.Making.{IsNew}
use Rattle.rows_tables.specs.declared.fault.TableFault.{TableFault}
use Rattle.serve_peers.specs.Applying.{OnlyLooks}
use Rattle.serve_peers.specs.declared.copies.CopyUnderWay.{CopyUnderWay}
use Rattle.serve_peers.specs.declared.copies.Copies.{Copies}
use Rattle.serve_peers.specs.declared.copies.SliceOutcome.{SliceOutcome}
use Rattle.serve_peers.specs.declared.copies.SliceOutcome.TheVariants.{Failed, More, Whole}

-- the copy that is under way
abbrev pub copy_in : {T K : Type 0} → Copies T K → Option (CopyUnderWay T)
copy_in copies = copies.copy

-- the account of which a part is copied
abbrev pub under_way : Progress → Option (List ℕ)
under_way (UpTo last) = None
under_way (Anew name) = None
under_way (Within name next job) = Some name

-- how often the account under way has begun anew, once more where it was touched, as far as is counted
abbrev pub begun_anew : (touched : Bool) (anew : ℕ) → ℕ
begun_anew false anew = anew
begun_anew true anew = min (anew + 1) 4294967295

-- the next account has not begun anew yet
abbrev pub anew_left : Progress → (anew : ℕ) → ℕ
anew_left (UpTo last) anew = 0
anew_left (Anew name) anew = 0
anew_left (Within name next job) anew = anew

-- how many jobs a slice copies at most; all, of an account that has begun anew three times, so that a
-- backup ends whoever goes on to print
abbrev pub most_at : (anew : ℕ) → Option ℕ
most_at anew = if nat_lt anew 3 then Some 32 else None

-- a copy that is new: its tables have no row, where the disk was honest
abbrev pub IsNewCopy : {T : Type 0} (copy_store : Ghosts T) → Option (CopyUnderWay T) → Type 0
IsNewCopy copy_store None = ⊥
IsNewCopy copy_store (Some copy) = (copy.progress ≡ UpTo None)
    × (HasCleanDisk (state copy_store copy.rows) → IsNew (state copy_store copy.rows).now)

module _ {S T : Type 0} (store : Ghosts S) (copy_store : Ghosts T) where
  -- where the account under way was touched since the last slice, it begins anew
  abbrev pub Restarts : (touched : Bool) (from to : Progress) (rows begun : Held T) → Type 0
  Restarts false from to rows begun = (to ≡ from) × (begun ≡ rows)
  Restarts true from to rows begun =
      IfOurTables copy_store rows begun (λ before. HasSchema (state copy_store begun).now
      × StartsAgain from to before (state copy_store begun).now)

  -- then the next slice is copied
  pub record Slices (touched : Bool) (from : Progress) (to : Option Progress)
      (source looked : Held S) (rows new : Held T) : Type 0 where
    pub again : Progress
    pub begun : Held T
    pub restarts : Restarts touched from again rows begun
    pub restarted : KeepsConnection (state copy_store rows) (state copy_store begun)
    pub slice : IfOurTables copy_store begun new (λ before. HasSchema (state copy_store new).now
        × IfOurTables store source looked (λ db. IfNamed db
        (CopiesSlice again to db before (state copy_store new).now)))
    pub copied : KeepsConnection (state copy_store begun) (state copy_store new)

  -- it comes further, by so many jobs at most; with no `most` it ends the account
  pub record Advances (touched : Bool) (most : Option ℕ) (from : Progress) (to : Option Progress)
      (source looked : Held S) (rows new : Held T) : Type 0 where
    pub slices : Slices touched from to source looked rows new
    pub further : IfSome to (ComesFurther (next_job slices.again))
    pub whole : most ≡ None → IfSome to IsDone
    pub at_most : IfOurTables store source looked
        (λ db. IfSome to (λ to. CopiesAtMost most slices.again to db))

  -- a slice of a copy: what it has come to, or it fails
  pub record SlicesOn (touched : Bool) (from : Progress) (most : Option ℕ) (source looked : Held S)
      (result : Result (Option Progress) TableFault) (rows new : Held T) : Type 0 where
    pub looks : OnlyLooks store source looked
    pub advances : (to : Option Progress) → result ≡ Ok to
        → Advances touched most from to source looked rows new

  -- A part of the copy, or all of it, is done, or it failed, or there is none. Where all of it is done its
  -- file is closed, and has these rows.
  abbrev pub CopiesPart : (touched : Bool) (source looked : Held S) (done : SliceOutcome)
      (was now : Option (CopyUnderWay T)) → Type 0
  CopiesPart touched source looked (More account) was now = (copy : CopyUnderWay T) × (further : CopyUnderWay T)
      × (was ≡ Some copy) × (now ≡ Some further) × (account ≡ under_way further.progress)
      × Advances touched (most_at (begun_anew touched copy.anew)) copy.progress
      (Some further.progress) source looked copy.rows further.rows
      × (further.anew ≡ anew_left further.progress (begun_anew touched copy.anew))
  CopiesPart touched source looked Whole was now = (copy : CopyUnderWay T) × (rows : Held T)
      × (was ≡ Some copy) × (now ≡ None)
      × Slices touched copy.progress None source looked copy.rows rows
  CopiesPart touched source looked Failed was now = now ≡ None

  pub record CopiesOn (touched : Bool) (source looked : Held S) (done : SliceOutcome)
      (was now : Option (CopyUnderWay T)) : Type 0 where
    pub looks : OnlyLooks store source looked
    pub part : CopiesPart touched source looked done was now
