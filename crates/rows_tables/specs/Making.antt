-- Rule: A database as it is made, and what it is found to be when it is opened (all this project's
-- own).
use Rattle.std.specs.Prelude.{◌≡◌, ◌≢◌, ◌⊎◌, ⊤, List, ℕ, ℤ, pos, true, [], ◌∷◌, Some, slice_get}
use Rattle.std.specs.List.{AllByRecursion}
use Rattle.std.specs.FinMap.{empty}
use Rattle.sqlite_value.specs.declared.value.Value.TheVariants.{Int, Null}
use Rattle.sqlite_value.specs.declared.keys.Collation.TheVariants.{Binary}
use Rattle.sqlite_value.specs.Order.{Row, column}
use Rattle.sqlite_trees.specs.Tree.{rowid}
use Rattle.sqlite_sql.specs.declared.ops.BinaryOp.TheVariants.{Compare}
use Rattle.sqlite_sql.specs.declared.ops.CompareOp.TheVariants.{Eq}
use Rattle.sqlite_sql.specs.Term.{Term, lit, col, op2}
use Rattle.sqlite_schema.specs.declared.schema.Schema.{Schema}
use Rattle.sqlite_schema.specs.Rules.{equal}
use Rattle.sqlite_rules.specs.Lists.{Has}
use Rattle.sqlite_catalog.specs.Change.{created}
use Rattle.sqlite.specs.Effect.{Database, IsDatabase}
use Rattle.sqlite.specs.State.{State}
use Rattle.rows_tables.specs.Places.{meta_column, row_number}
use Rattle.rows_tables.specs.Tables.{no_schema, first_schema, unindexed_schema, room_schema, meta, account, job, document, grants, room_version}
use Rattle.rows_tables.specs.declared.fault.OpenFault.{OpenFault}
use Rattle.rows_tables.specs.declared.schema.Layout.{Layout}
use Rattle.rows_tables.specs.declared.schema.Layout.TheVariants.{Current, Unindexed, First, Other}
use Rattle.rows_tables.specs.declared.version.Edition.{Edition}
use Rattle.rows_tables.specs.declared.making.FirstTable.{FirstTable}
use Rattle.rows_tables.specs.declared.making.FirstTable.TheVariants.{Meta, Account, Job, Document, Grants, Device}
use Rattle.rows_tables.specs.declared.fault.OpenFault.TheVariants.{NotOurs, WrongVersion, Storage, Memory}
use Rattle.rows_tables.specs.Calls.{IsUnchanged}
use Rattle.rows_tables.specs.Keyed.{HasSchema}
use Rattle.rows_tables.specs.Accounts.{HoldsNothing}
use Rattle.rows_tables.specs.Devices.{HoldsDevices}

-- ---- the schemas on the way, one table more each time

abbrev pub with_meta : Schema
with_meta = created no_schema meta

abbrev pub with_account : Schema
with_account = created with_meta account

abbrev pub with_job : Schema
with_job = created with_account job

abbrev pub with_documents : Schema
with_documents = created with_job document

abbrev pub with_grants : Schema
with_grants = created with_documents grants

-- before a table of version 1 is made
abbrev pub schema_before : FirstTable → Schema
schema_before Meta = no_schema
schema_before Account = with_meta
schema_before Job = with_account
schema_before Document = with_job
schema_before Grants = with_documents
schema_before Device = with_grants

-- and with it
abbrev pub schema_with : FirstTable → Schema
schema_with Meta = with_meta
schema_with Account = with_account
schema_with Job = with_job
schema_with Document = with_documents
schema_with Grants = with_grants
schema_with Device = first_schema

-- it has the tables of the schema, and no row
abbrev pub IsBlank : Schema → Database → Type 0
IsBlank schema db =
    (db.schema ≡ schema) × AllByRecursion (λ table. db.trees table.tree ≡ []) schema.tables

-- ---- the row of the version

abbrev pub IsVersionRow : Database → Row → Type 0
IsVersionRow db row = Has (db.trees meta.tree) row × (equal Binary (rowid row) (Int (pos 1)) ≡ true)

-- what asks for it
abbrev pub version_tests : List Term
version_tests = op2 (Compare Eq Binary) (col 1 row_number) (lit (Int (pos 1))) ∷ []

abbrev pub HasVersion : (db : Database) (version : ℤ) → Type 0
HasVersion db version =
    (row : Row) × IsVersionRow db row × (column row meta_column.version ≡ Int version)

-- there is no such row, or it has no number
abbrev pub LacksVersion : Database → Type 0
LacksVersion db = ((row : Row) → IsVersionRow db row → ⊥)
    ⊎ ((row : Row) × IsVersionRow db row
    × ((version : ℤ) → column row meta_column.version ≢ Int version))

-- ---- as it is made

-- the row of a version: the number 1, which is its id and is kept beside the columns, and the
-- version
abbrev pub version_row : ℤ → Row
version_row version = Int (pos 1) ∷ Null ∷ Int version ∷ []

-- the tables of version 2, in which there is the row (1, 2) of the version and no other, so that
-- every account is absent and there is no device
pub record IsNew (db : Database) : Type 0 where
  pub has_schema : HasSchema db
  pub one_version : db.trees meta.tree ≡ version_row room_version ∷ []
  pub version_two : HasVersion db room_version
  pub no_row : AllByRecursion (λ table. table.tree ≢ meta.tree → db.trees table.tree ≡ [])
      room_schema.tables
  pub no_account : (name : List ℕ) → HoldsNothing db name
  pub no_device : HoldsDevices db empty

-- ---- as it is opened

-- its first table is that of the version, as every version makes it; whatever else the schema has
abbrev pub KeepsVersion : Schema → Type 0
KeepsVersion schema = slice_get schema.tables 0 ≡ Some meta

abbrev pub IsLaidOut : Schema → Layout → Type 0
IsLaidOut schema Current = schema ≡ room_schema
IsLaidOut schema Unindexed = schema ≡ unindexed_schema
IsLaidOut schema First = schema ≡ first_schema
IsLaidOut schema Other =
    (schema ≢ room_schema) × (schema ≢ unindexed_schema) × (schema ≢ first_schema)

-- it has a version, and tables that are laid out so
pub record IsEdition (db : Database) (edition : Edition) : Type 0 where
  pub is_database : IsDatabase db
  pub keeps_version : KeepsVersion db.schema
  pub laid_out : IsLaidOut db.schema edition.layout
  pub has_version : HasVersion db edition.version

abbrev pub IsNoEdition : Database → OpenFault → Type 0
IsNoEdition db NotOurs = (KeepsVersion db.schema → ⊥) ⊎ LacksVersion db
IsNoEdition db (WrongVersion version) = ⊥
IsNoEdition db Storage = ⊤
IsNoEdition db Memory = ⊤

pub record IsOpened (db : Database) : Type 0 where
  pub schema_is : db.schema ≡ room_schema
  pub is_database : IsDatabase db
  pub version_two : HasVersion db room_version

-- it is version 2, with its tables and without its index on jobs
pub record LacksIndex (db : Database) : Type 0 where
  pub schema_is : db.schema ≡ unindexed_schema
  pub is_database : IsDatabase db
  pub version_two : HasVersion db room_version

-- the index on jobs is there, and each table is as it was
pub record AddsIndex (old new : Database) : Type 0 where
  pub schema_is : new.schema ≡ room_schema
  pub is_database : IsDatabase new
  pub kept : AllByRecursion (λ table. new.trees table.tree ≡ old.trees table.tree)
      room_schema.tables

-- version 2 as it was, or, where it lacked its index on jobs, with that and not otherwise changed
abbrev pub OpensTables : (old new : State) → Type 0
OpensTables old new = (IsOpened old.now × IsUnchanged old new)
    ⊎ (LacksIndex old.now × IsOpened new.now × AddsIndex old.now new.now)

-- it has the version 2, and not its tables, with the index on jobs or without
abbrev pub IsMislaid : Database → Type 0
IsMislaid db =
    HasVersion db room_version × (db.schema ≢ room_schema) × (db.schema ≢ unindexed_schema)

-- it is none of ours: no version can be read, or it is 2 over other tables
abbrev pub IsNotOurs : Database → Type 0
IsNotOurs db = (KeepsVersion db.schema → ⊥) ⊎ (LacksVersion db ⊎ IsMislaid db)

-- whatever its tables are beside that of the version
abbrev pub IsOfVersion : (db : Database) (version : ℤ) → Type 0
IsOfVersion db version = KeepsVersion db.schema × HasVersion db version × (version ≢ room_version)

-- why it could not be opened; lack of memory and a failure of the storage say nothing of it
abbrev pub IsOpenFault : Database → OpenFault → Type 0
IsOpenFault db NotOurs = IsNotOurs db
IsOpenFault db (WrongVersion version) = IsOfVersion db version
IsOpenFault db Storage = ⊤
IsOpenFault db Memory = ⊤
