-- What an opening leaves of the tables as they were found (all this project's own).
use Rattle.std.specs.Prelude.{ℕ, List}
use Rattle.sqlite.specs.Held.{Held, state}
use Rattle.sqlite_trees.specs.declared.store.Store.{Ghosts}
use Rattle.account_rules.specs.Devices.{Devices}
use Rattle.rows_tables.specs.Accounts.{AgreeOnRows}
use Rattle.rows_tables.specs.Calls.{IfDiskHonest, KeepsConnection, UnchangedIfHonest}
use Rattle.rows_tables.specs.Devices.{AgreeOnDevices, HoldsDevices}
use Rattle.rows_tables.specs.Keyed.{AreNumbered, HasSchema}
use Rattle.rows_tables.specs.Migrating.{HoldsFirstDevices}

module _ {S : Type 0} (store : Ghosts S) (old new : Held S) where
  -- each account keeps its rows; and the tables are the store's, if row numbers came once
  pub record OpensRows : Type 0 where
    pub rows : IfDiskHonest store old new
        (λ db. (name : List ℕ) → AgreeOnRows name db (state store new).now)
    pub has_schema : IfDiskHonest store old new
        (λ db. AreNumbered db.schema.tables db → HasSchema (state store new).now)

  -- devices keep their rows
  abbrev pub OpensDevices : Type 0
  OpensDevices = IfDiskHonest store old new (λ db. AgreeOnDevices db (state store new).now)

  -- devices of version 1 get rate 1
  abbrev pub MigratesDevices : Type 0
  MigratesDevices = IfDiskHonest store old new (λ db. (devices : Devices)
      → HoldsFirstDevices db devices → HoldsDevices (state store new).now devices)

  -- a refused opening leaves the tables as they were, as far as they can be seen
  pub record LeavesUnopened : Type 0 where
    pub unchanged : UnchangedIfHonest store old new
    pub connection : KeepsConnection (state store old) (state store new)
