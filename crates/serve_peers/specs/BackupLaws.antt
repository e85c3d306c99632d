-- What a backup holds that is made while the rooms are served (all this project's own).
use Rattle.std.specs.Prelude.{◌≡◌, ℕ, List, [], ◌∷◌, map, Option, None, Some, IsSome, IsTrue}
use Rattle.sqlite.specs.Effect.{Database}
use Rattle.sqlite.specs.Held.{Held, state}
use Rattle.sqlite.specs.State.{HasCleanDisk}
use Rattle.sqlite_rules.specs.Lists.{Has}
use Rattle.sqlite_trees.specs.declared.store.Store.{Ghosts}
use Rattle.store_copy.specs.Copies.{AreCopies}
use Rattle.store_copy.specs.Slices.{IsOfOne, last_of}
use Rattle.store_copy.specs.declared.slices.Progress.{Progress}
use Rattle.store_copy.specs.declared.slices.Progress.TheVariants.{UpTo}
use Rattle.account_state.specs.Names.{AreNames}
use Rattle.rows_statements.specs.SoundRows.{AreNamed}
use Rattle.rows_tables.specs.Accounts.{account_at}
use Rattle.rows_tables.specs.Keyed.{HasSchema}
use Rattle.rows_tables.specs.Making.{IsNew}
use Rattle.serve_peers.specs.Applying.{OnlyLooks}
use Rattle.serve_peers.specs.Copies.{Slices, under_way}
use Rattle.serve_peers.specs.Journals.{rounds_of, store_of}
use Rattle.serve_peers.specs.Keeping.{watch_of}
use Rattle.serve_peers.specs.Rounds.{Follows}
use Rattle.serve_peers.specs.Watching.{seen_by}
use Rattle.serve_peers.specs.declared.served.Served.{Served}

-- the tables that are served
abbrev pub tables_of : {S : Type 0} (store : Ghosts S) → Served S → Database
tables_of store served = (state store (store_of served)).now

-- its accounts have names
pub record HasNames (db : Database) : Type 0 where
  pub names : List (List ℕ)
  pub are : AreNames (λ name. IsSome (account_at db name)) names
  pub named : AreNamed db

module _ {S T : Type 0} (store : Ghosts S) (copy_store : Ghosts T) where
  -- a slice was done
  pub record IsSlice (from : Progress) (to : Option Progress) (old new : Served S)
      (rows further : Held T) : Type 0 where
    pub looks : OnlyLooks store (store_of old) (store_of new)
    pub slices : Slices store copy_store (watch_of old).touched from to (store_of old)
        (store_of new) rows further

  -- Behind a slice the rooms were served, up to the next one: since then the account is watched that was
  -- under way.
  pub record GoesOnTo (progress : Progress) (old next : Served S) : Type 0 where
    pub follows : Follows store old next
    pub account : (watch_of next).account ≡ under_way progress
    pub seen : seen_by (watch_of next) ≡ rounds_of old

  -- slice after slice, as each was asked for: this one first, and then those
  abbrev pub IsMadeBy : (from : Progress) (old : Served S) (rows : Held T)
      (later : List (Served S)) (last : Served S) (whole : Held T) → Type 0
  IsMadeBy from old rows [] last whole = IsSlice from None old last rows whole
  IsMadeBy from old rows (next ∷ later) last whole = (to : Progress) × (done : Served S)
      × (further : Held T) × IsSlice from (Some to) old done rows further × GoesOnTo to done next
      × IsMadeBy to next further later last whole

  -- A copy that was new, and was made by slices alone, has of each account the room that it had as one of
  -- them was done, whatever was asked in between, and the devices that there were at the last.
  abbrev pub BackupsHold : Type 0
  BackupsHold = (old : Served S) (rows : Held T) (later : List (Served S)) (last : Served S)
      (whole : Held T) → (HasCleanDisk (state copy_store rows) → IsNew (state copy_store rows).now)
      → IsMadeBy (UpTo None) old rows later last whole
      → HasCleanDisk (state store (store_of last)) → IsTrue (state store (store_of last)).is_open
      → HasCleanDisk (state copy_store whole) → HasSchema (tables_of store old)
      → ((db : Database) → Has (tables_of store old ∷ map (tables_of store) later) db → HasNames db)
      → ((name : List ℕ) → IsOfOne (tables_of store old ∷ map (tables_of store) later) name
      (state copy_store whole).now)
      × AreCopies (last_of (tables_of store old) (map (tables_of store) later))
      (state copy_store whole).now
