-- What a change leaves as it was: all rows but those of one account, or of the devices (all this
-- project's own).
use Rattle.std.specs.Prelude.{◌≡◌, ◌≢◌, ℕ, List}
use Rattle.sqlite.specs.Effect.{Database}
use Rattle.rows_tables.specs.Tables.{meta}
use Rattle.rows_tables.specs.Accounts.{AgreeOnRows}
use Rattle.rows_tables.specs.Devices.{AgreeOnDevices}

-- only rows of this account, by its exact text, are others than before
pub record OnlyAccount (name : List ℕ) (old new : Database) : Type 0 where
  pub others : (other : List ℕ) → other ≢ name → AgreeOnRows other old new
  pub devices : AgreeOnDevices old new
  pub version : new.trees meta.tree ≡ old.trees meta.tree

-- only rows of devices are
pub record OnlyDevices (old new : Database) : Type 0 where
  pub accounts : (name : List ℕ) → AgreeOnRows name old new
  pub version : new.trees meta.tree ≡ old.trees meta.tree
