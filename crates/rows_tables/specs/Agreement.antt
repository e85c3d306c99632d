-- When two databases are the same to an account: they have the same rows of it and of the devices
-- (all this project's own).
use Rattle.std.specs.Prelude.{ℕ, List}
use Rattle.sqlite.specs.Effect.{Database}
use Rattle.rows_tables.specs.Accounts.{AgreeOnRows}
use Rattle.rows_tables.specs.Devices.{AgreeOnDevices}

-- they have the same rows of the account and of devices, and anything else besides
pub record Agree (name : List ℕ) (a b : Database) : Type 0 where
  pub rows : AgreeOnRows name a b
  pub devices : AgreeOnDevices a b
