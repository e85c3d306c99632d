-- That a copy which is made at once has all accounts and the devices, as the source has them (all
-- this project's own).
use Rattle.std.specs.Prelude.{ℕ, List}
use Rattle.sqlite.specs.Effect.{Database}
use Rattle.rows_tables.specs.Accounts.{HoldsNothing, IsSound}
use Rattle.rows_tables.specs.Devices.{AreSoundDevices}
use Rattle.rows_statements.specs.SoundRows.{AreNamed}
use Rattle.store_copy.specs.Copies.{AreCopies, HoldsNoDevice, IsCopyOf}
use Rattle.store_copy.specs.Slices.{IfNamed}

-- of a source whose accounts have names: each text names the same in both, and the devices are the
-- same, where the copy had no account and no device
abbrev pub CopiesAll : (source before after : Database) → Type 0
CopiesAll source before after = IfNamed source (((name : List ℕ) → HoldsNothing before name)
    → HoldsNoDevice before
    → ((name : List ℕ) → IsCopyOf name source after) × AreCopies source after)

-- all rows are sound, each account is one of a name
pub record AreAllSound (db : Database) : Type 0 where
  pub named : AreNamed db
  pub accounts : (name : List ℕ) → IsSound db name
  pub devices : AreSoundDevices db
