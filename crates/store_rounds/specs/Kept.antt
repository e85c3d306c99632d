-- What is kept in memory of the tables, when it is right, and how changes move it (all this
-- project's own).
use Rattle.std.specs.Prelude.{◌≡◌, ◌≢◌, ℕ, ◌+◌, Bool, List, [], Option, None, Some, IfSome, IsTrue, Result, Ok, Err, bytes_eq, unwrap_or}
use Rattle.std.specs.Map.{lookup}
use Rattle.lru.specs.LruCache.{LruCache}
use Rattle.sqlite.specs.Effect.{Database}
use Rattle.sqlite.specs.State.{State, HasCleanDisk}
use Rattle.account_rules.specs.declared.account.Account.{Account}
use Rattle.account_rules.specs.declared.job.Job.{Job}
use Rattle.account_rules.specs.declared.job.Standing.{Standing}
use Rattle.rows_statements.specs.JobSums.{IsCounted, IsSum, charges, counts, reserves}
use Rattle.store_rounds.specs.ProofKnown.{HasAccountRow, HasJobRow}
use Rattle.store_rounds.specs.declared.cache.Known.{Known}
use Rattle.store_rounds.specs.declared.cache.Key.{Key}
use Rattle.store_rounds.specs.declared.kept.Sums.{Sums}
use Rattle.store_rounds.specs.declared.kept.Added.{Added}
use Rattle.store_rounds.specs.declared.kept.Kept.{Kept}
use Rattle.store_rounds.specs.declared.kept.Seen.{Seen}
use Rattle.rows_tables.specs.Keyed.{HasSchema}
use Rattle.rows_tables.specs.declared.fault.TableFault.{TableFault}

-- ---- accounts by name

abbrev pub is_of : (name : List ℕ) (key : Key) → Bool
is_of name key = bytes_eq name key.name

-- what is kept of the account
abbrev pub kept_of : (accounts : List (Key × Known)) (name : List ℕ) → Option Known
kept_of accounts name = lookup (is_of name) accounts

abbrev pub unknown : Known
unknown = record { row = None; reserved = None; charged = None; unfinished = None }

abbrev pub known_of : (accounts : List (Key × Known)) (name : List ℕ) → Known
known_of accounts name = unwrap_or (kept_of accounts name) unknown

-- those that are kept, where any are
abbrev pub kept_in : Option (LruCache Key Known) → List (Key × Known)
kept_in None = []
kept_in (Some accounts) = accounts.entries

-- this of the account, or nothing, and of others what was kept, or nothing
pub record SetsKnown (name : List ℕ) (it : Known) (before after : List (Key × Known)) : Type 0 where
  pub own : IfSome (kept_of after name) (λ is. is ≡ it)
  pub others : (other : List ℕ) → other ≢ name
      → IfSome (kept_of after other) (λ is. kept_of before other ≡ Some is)

abbrev pub HasRow : (kept : Kept) (name : List ℕ) (row : Account) → Type 0
HasRow kept name row = (known_of (kept_in kept.accounts) name).row ≡ Some row

abbrev pub HasSums : (kept : Kept) (name : List ℕ) (sums : Sums) → Type 0
HasSums kept name sums =
    ((known_of (kept_in kept.accounts) name).reserved ≡ Some sums.reserved)
    × ((known_of (kept_in kept.accounts) name).charged ≡ Some sums.charged)

abbrev pub HasCount : (kept : Kept) (name : List ℕ) (count : ℕ) → Type 0
HasCount kept name count = (known_of (kept_in kept.accounts) name).unfinished ≡ Some count

-- what a job of this standing adds to what is kept of its account, and what no job adds
abbrev pub added_by : Standing → Added
added_by standing = record {
  reserved = standing.reserved;
  charged = standing.charged;
  unfinished = counts standing;
}

abbrev pub nothing : Added
nothing = record { reserved = 0; charged = 0; unfinished = 0 }

-- a sum is less what a job added, and with what it adds, if it is known yet
abbrev pub IsMoved : (was is : ℕ) (before after : Option ℕ) → Type 0
IsMoved was is before after =
    IfSome after (λ units. (rest : ℕ) × (before ≡ Some (rest + was)) × (units ≡ rest + is))

pub record MovesTo (was is : Added) (before after : Known) : Type 0 where
  pub row : after.row ≡ before.row
  pub reserved : IsMoved was.reserved is.reserved before.reserved after.reserved
  pub charged : IsMoved was.charged is.charged before.charged after.charged
  pub unfinished : IsMoved was.unfinished is.unfinished before.unfinished after.unfinished

-- ---- what is kept is so

-- its jobs reserve and were charged so much
abbrev pub HaveSums : (db : Database) (name : List ℕ) (sums : Sums) → Type 0
HaveSums db name sums = IsSum reserves db name sums.reserved × IsSum charges db name sums.charged

-- its row is this, its jobs reserve so much and were charged so much, and so many of their rows
-- tell no moment of an end
pub record IsRight (db : Database) (name : List ℕ) (it : Known) : Type 0 where
  pub row : IfSome it.row (λ row. HasAccountRow name row db)
  pub reserved : IfSome it.reserved (IsSum reserves db name)
  pub charged : IfSome it.charged (IsSum charges db name)
  pub unfinished : IfSome it.unfinished (IsCounted db name)

abbrev pub AreRight : (db : Database) (accounts : List (Key × Known)) → Type 0
AreRight db accounts = (name : List ℕ) → IfSome (kept_of accounts name) (IsRight db name)

-- the job is there, and adds so much
abbrev pub IsSeen : (db : Database) (seen : Seen) → Type 0
IsSeen db seen = (job : Job) × (job.job ≡ seen.number) × (added_by job.standing ≡ seen.added)
    × HasJobRow seen.account job db

-- the tables are the store's, and those that a round would go back to, and what is kept is so
pub record IsKept (now : State) (kept : Kept) : Type 0 where
  pub schema : HasSchema now.now
  pub committed : IsTrue now.in_transaction → HasSchema now.committed
  pub accounts : AreRight now.now (kept_in kept.accounts)
  pub job : IfSome kept.job (IsSeen now.now)

abbrev pub WhereOpen : (now : State) → Type 0 → Type 0
WhereOpen now P = HasCleanDisk now → IsTrue now.is_open → P

-- ---- what a call leaves of it

pub record IsNothing (kept : Kept) : Type 0 where
  pub accounts : kept_in kept.accounts ≡ []
  pub job : kept.job ≡ None

-- an answer leaves all, a fault nothing
abbrev pub ForgetsAfterFault : {T E : Type 0} (told : Result T E) (before after : Kept) → Type 0
ForgetsAfterFault (Ok it) before after = after ≡ before
ForgetsAfterFault (Err e) before after = IsNothing after

-- this is kept of the account
pub record KeepsKnown (name : List ℕ) (it : Known) (before after : Kept) : Type 0 where
  pub accounts : SetsKnown name it (kept_in before.accounts) (kept_in after.accounts)
  pub job : after.job ≡ before.job

-- an account that was found is kept
abbrev pub KeepsAccount :
    (name : List ℕ) (told : Result (Option Account) TableFault) (before after : Kept) → Type 0
KeepsAccount name (Ok (Some row)) before after =
    KeepsKnown name (record (known_of (kept_in before.accounts) name) { row = Some row }) before after
KeepsAccount name (Ok None) before after = after ≡ before
KeepsAccount name (Err e) before after = IsNothing after

-- a job that was found is kept
abbrev pub KeepsJob : (name : List ℕ) (number : ℕ) (told : Result (Option Job) TableFault)
    (before after : Kept) → Type 0
KeepsJob name number (Ok (Some job)) before after = after ≡ record before {
  job = Some (record { account = name; number = number; added = added_by job.standing });
}
KeepsJob name number (Ok None) before after = after ≡ before
KeepsJob name number (Err e) before after = IsNothing after

-- what was added up is kept
abbrev pub KeepsSums :
    (name : List ℕ) (told : Result Sums TableFault) (before after : Kept) → Type 0
KeepsSums name (Ok sums) before after = KeepsKnown name
    (record (known_of (kept_in before.accounts) name) {
      reserved = Some sums.reserved;
      charged = Some sums.charged;
    }) before after
KeepsSums name (Err e) before after = IsNothing after

-- what was counted is kept
abbrev pub KeepsCount :
    (name : List ℕ) (told : Result ℕ TableFault) (before after : Kept) → Type 0
KeepsCount name (Ok count) before after =
    KeepsKnown name (record (known_of (kept_in before.accounts) name) { unfinished = Some count })
    before after
KeepsCount name (Err e) before after = IsNothing after

-- of an account that was opened nothing is kept, nor what was found last
pub record ForgetsAccount (name : List ℕ) (before after : Kept) : Type 0 where
  pub accounts : SetsKnown name unknown (kept_in before.accounts) (kept_in after.accounts)
  pub job : after.job ≡ None

abbrev pub FollowsOpening : {E : Type 0}
    (name : List ℕ) (made : Result (Unit {0}) E) (before after : Kept) → Type 0
FollowsOpening name (Ok done) before after = ForgetsAccount name before after
FollowsOpening name (Err e) before after = IsNothing after

-- what is kept of an account of this row is moved by a new job, and the number of its next job
pub record MakesKept (name : List ℕ) (row : Account) (new : Job) (before after : Kept) : Type 0 where
  pub moved : Known
  pub moves : MovesTo nothing (added_by new.standing) (known_of (kept_in before.accounts) name) moved
  pub accounts : SetsKnown name
      (record moved { row = Some (record row { next_job = new.job + 1 }) })
      (kept_in before.accounts) (kept_in after.accounts)
  pub job : after.job ≡ None

-- where its row is known
abbrev pub FollowsMaking : {E : Type 0} (name : List ℕ) (was : Option Account) (job : Job)
    (made : Result (Unit {0}) E) (before after : Kept) → Type 0
FollowsMaking name (Some row) job (Ok done) before after = MakesKept name row job before after
FollowsMaking name None job (Ok done) before after = IsNothing after
FollowsMaking name was job (Err e) before after = IsNothing after

-- what is kept of the account is moved, and nothing is kept of what was found last
pub record MovesKept (name : List ℕ) (was is : Added) (before after : Kept) : Type 0 where
  pub moved : Known
  pub moves : MovesTo was is (known_of (kept_in before.accounts) name) moved
  pub accounts : SetsKnown name moved (kept_in before.accounts) (kept_in after.accounts)
  pub job : after.job ≡ None

-- where it is known what the job added before
abbrev pub FollowsMove : {E : Type 0} (name : List ℕ) (was : Option Added) (is : Standing)
    (made : Result (Unit {0}) E) (before after : Kept) → Type 0
FollowsMove name (Some added) is (Ok done) before after =
    MovesKept name added (added_by is) before after
FollowsMove name None is (Ok done) before after = IsNothing after
FollowsMove name was is (Err e) before after = IsNothing after
