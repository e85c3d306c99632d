-- Rule: What migrating makes of a database of version 1 (all this project's own).
use Rattle.std.specs.Prelude.{◌≡◌, ◌≢◌, ◌⊎◌, ⊤, ℕ, ℤ, List, [], option_map, IfSome}
use Rattle.std.specs.List.{AllByRecursion}
use Rattle.std.specs.FinMap.{get}
use Rattle.sqlite_trees.specs.View.{IsShaped}
use Rattle.sqlite_trees.specs.declared.store.Shape.TheVariants as shape
use Rattle.sqlite_schema.specs.declared.schema.Schema.{Schema}
use Rattle.sqlite.specs.Effect.{Database, IsDatabase}
use Rattle.account_rules.specs.Devices.{Devices}
use Rattle.rows_tables.specs.Tables.{first_schema, room_schema, meta, rates, first_version, room_version}
use Rattle.rows_tables.specs.declared.fault.OpenFault.{OpenFault}
use Rattle.rows_tables.specs.declared.fault.OpenFault.TheVariants.{NotOurs, WrongVersion, Storage, Memory}
use Rattle.rows_tables.specs.Keyed.{AreNumbered, OnlyChanges}
use Rattle.rows_tables.specs.Cells.{units_cells, device_cells}
use Rattle.rows_tables.specs.Devices.{device_at, rate_at, IsDevice}
use Rattle.rows_tables.specs.declared.schema.Layout.TheVariants.{Current, Unindexed, First}
use Rattle.rows_tables.specs.declared.version.Edition.{Edition}
use Rattle.rows_tables.specs.declared.version.Lack.{Lack}
use Rattle.rows_tables.specs.declared.version.Lack.TheVariants as lack
use Rattle.rows_tables.specs.Making.{HasVersion, KeepsVersion, IsOpened, LacksIndex, IsNotOurs}

-- ---- a database of version 1

pub record IsFirstVersion (db : Database) : Type 0 where
  pub schema_is : db.schema ≡ first_schema
  pub is_database : IsDatabase db
  pub version_one : HasVersion db first_version

-- each device has one row, and counts one unit for an impression
pub record HoldsFirstDevices (db : Database) (devices : Devices) : Type 0 where
  pub schema_is : db.schema ≡ first_schema
  pub are_devices : (name : List ℕ)
      → IfSome (get devices name) (λ device. IsDevice name device × (device.rate ≡ 1))
  pub device_rows : (name : List ℕ) → device_at db name ≡ option_map device_cells (get devices name)

-- ---- what a database that is taken lacks of version 2, and by which edition it is told

abbrev pub Lacks : Database → Lack → Type 0
Lacks db lack.Nothing = IsOpened db
Lacks db lack.Index = LacksIndex db
Lacks db lack.Version = IsFirstVersion db

abbrev pub LacksIn : Edition → Lack → Type 0
LacksIn edition lack.Nothing =
    (edition.layout ≡ Current) × (edition.version ≡ room_version)
LacksIn edition lack.Index =
    (edition.layout ≡ Unindexed) × (edition.version ≡ room_version)
LacksIn edition lack.Version =
    (edition.layout ≡ First) × (edition.version ≡ first_version)

-- ---- as it is migrated

-- each device has rate 1, and nothing else has a rate
abbrev pub AreRatedOne : Database → Type 0
AreRatedOne db =
    (name : List ℕ) → rate_at db name ≡ option_map (λ row. units_cells name 1) (device_at db name)

-- each table of version 1 but that of the version is as it was
abbrev pub KeepsFirst : (old new : Database) → Type 0
KeepsFirst old new =
    AllByRecursion (λ table. table.tree ≢ meta.tree → new.trees table.tree ≡ old.trees table.tree)
    first_schema.tables

pub record IsMigrated (old new : Database) : Type 0 where
  pub was_first : IsFirstVersion old
  pub schema_is : new.schema ≡ room_schema
  pub version_two : HasVersion new room_version
  pub kept : KeepsFirst old new
  pub rated : AreRatedOne new
  pub is_database : IsDatabase new
  pub numbered : AreNumbered first_schema.tables old → AreNumbered room_schema.tables new

-- ---- the statements on the way

-- the table `rates` is there, with no row, beside the tables of version 1
pub record AddsRates (schema : Schema) (old new : Database) : Type 0 where
  pub schema_is : new.schema ≡ schema
  pub kept : AllByRecursion (λ table. new.trees table.tree ≡ old.trees table.tree)
      first_schema.tables
  pub no_rate : new.trees rates.tree ≡ []

pub record RatesDevices (old new : Database) : Type 0 where
  pub schema_is : new.schema ≡ room_schema
  pub kept : OnlyChanges rates old new
  pub rated : AreRatedOne new
  pub numbered : IsShaped shape.Table (new.trees rates.tree)

pub record NotesVersionTwo (old new : Database) : Type 0 where
  pub schema_is : new.schema ≡ room_schema
  pub is_database : IsDatabase new
  pub kept : OnlyChanges meta old new
  pub version_two : HasVersion new room_version
  pub numbered : IsShaped shape.Table (old.trees meta.tree)
      → IsShaped shape.Table (new.trees meta.tree)

-- ---- why it is not migrated

-- a version that there is none of, whatever its tables are beside that of the version
abbrev pub IsOfOtherVersion : (db : Database) (version : ℤ) → Type 0
IsOfOtherVersion db version =
    KeepsVersion db.schema × HasVersion db version
    × (version ≢ first_version) × (version ≢ room_version)

-- it has the version 1, and not its tables
abbrev pub IsFirstMislaid : Database → Type 0
IsFirstMislaid db = HasVersion db first_version × (db.schema ≢ first_schema)

-- lack of memory and a failure of the storage say nothing of it
abbrev pub IsMigrateFault : Database → OpenFault → Type 0
IsMigrateFault db NotOurs = IsNotOurs db ⊎ IsFirstMislaid db
IsMigrateFault db (WrongVersion version) = IsOfOtherVersion db version
IsMigrateFault db Storage = ⊤
IsMigrateFault db Memory = ⊤
