-- What the texts mean that make the tables.
use Rattle.std.proofs.Common.{◌≡◌, ℕ, List, [], ◌∷◌, codes, Ok, refl, false, pos}
use Rattle.sqlite_tied.specs.Compute.{everything}
use Rattle.sqlite_value.specs.declared.value.Value.TheVariants.{Null, Int}
use Rattle.sqlite_sql.specs.Term.{Term, lit}
use Rattle.sqlite_schema.specs.declared.schema.Schema.{Schema}
use Rattle.sqlite_schema.specs.declared.schema.Table.{Table}
use Rattle.sqlite_schema.specs.declared.command.Command.TheVariants.{CreateTable, CreateIndex, Insert}
use Rattle.sqlite_schema.specs.declared.command.Source.TheVariants.{Values}
use Rattle.sqlite_resolve.specs.Compile.{table_defined_by, index_defined_by}
use Rattle.sqlite_catalog.specs.Change.{created, indexed}
use Rattle.sqlite.specs.Does.{lacks_sequence}
use Rattle.sqlite.specs.Listing.{understood}
use Rattle.sqlite.proofs.Callers.{IsPlain, command_of, statement_of}
use Rattle.rows_tables.specs.Making.{with_meta, with_account, with_job, with_documents, with_grants}
use Rattle.rows_tables.specs.Tables.{no_schema, first_schema, unindexed_schema, room_schema, job_ended, meta, account, job, document, grants, device, rates}

-- under the schema, the text is one statement that makes this table
pub record MakesIfHonest (schema : Schema) (text : List ℕ) (table : Table) : Type 0 where
  pub command : command_of (understood schema text) ≡ CreateTable
  pub whole : statement_of text (understood schema text) ≡ text
  pub is_plain : IsPlain (understood schema text)
  pub defines : table_defined_by text ≡ Ok (record table { tree = 0 })
  pub counts_nothing : lacks_sequence (created schema table) ≡ false

abbrev pub meta_text : List ℕ
meta_text = codes "CREATE TABLE meta (id INTEGER NOT NULL PRIMARY KEY, version INTEGER NOT NULL) STRICT"

abbrev pub account_text : List ℕ
account_text = codes "CREATE TABLE account (name TEXT NOT NULL, opened INTEGER NOT NULL, next_job INTEGER NOT NULL, PRIMARY KEY (name)) STRICT"

abbrev pub job_text : List ℕ
job_text = codes "CREATE TABLE job (account TEXT NOT NULL, job INTEGER NOT NULL, name BLOB NOT NULL, password BLOB NOT NULL, state INTEGER NOT NULL, open INTEGER NOT NULL, stopping INTEGER NOT NULL, copies INTEGER NOT NULL, impressions INTEGER NOT NULL, reserved INTEGER NOT NULL, charged INTEGER NOT NULL, documents INTEGER NOT NULL, rate INTEGER NOT NULL, device TEXT NOT NULL, created INTEGER NOT NULL, started INTEGER NOT NULL, ended INTEGER NOT NULL, PRIMARY KEY (account, job)) STRICT"

abbrev pub document_text : List ℕ
document_text = codes "CREATE TABLE document (account TEXT NOT NULL, job INTEGER NOT NULL, number INTEGER NOT NULL, format TEXT NOT NULL, bytes BLOB NOT NULL, PRIMARY KEY (account, job, number)) STRICT"

abbrev pub grants_text : List ℕ
grants_text = codes "CREATE TABLE grants (account TEXT NOT NULL, month INTEGER NOT NULL, pages INTEGER NOT NULL, PRIMARY KEY (account, month)) STRICT"

abbrev pub device_text : List ℕ
device_text = codes "CREATE TABLE device (name TEXT NOT NULL, accepting INTEGER NOT NULL, PRIMARY KEY (name)) STRICT"

abbrev pub rates_text : List ℕ
rates_text = codes "CREATE TABLE rates (device TEXT NOT NULL, units INTEGER NOT NULL, PRIMARY KEY (device)) STRICT"

pub first_schema_is : created with_grants device ≡ first_schema
unfolding everything
first_schema_is = refl

pub rated_schema_is : created first_schema rates ≡ unindexed_schema
unfolding everything
rated_schema_is = refl

-- ---- each text in its turn

pub makes_meta : MakesIfHonest no_schema meta_text meta
unfolding understood everything
makes_meta = record { command = refl; whole = refl; is_plain = (refl, refl); defines = refl; counts_nothing = refl }

pub makes_account : MakesIfHonest with_meta account_text account
unfolding understood everything
makes_account = record { command = refl; whole = refl; is_plain = (refl, refl); defines = refl; counts_nothing = refl }

pub makes_job : MakesIfHonest with_account job_text job
unfolding understood everything
makes_job = record { command = refl; whole = refl; is_plain = (refl, refl); defines = refl; counts_nothing = refl }

pub makes_document : MakesIfHonest with_job document_text document
unfolding understood everything
makes_document = record { command = refl; whole = refl; is_plain = (refl, refl); defines = refl; counts_nothing = refl }

pub makes_grants : MakesIfHonest with_documents grants_text grants
unfolding understood everything
makes_grants = record { command = refl; whole = refl; is_plain = (refl, refl); defines = refl; counts_nothing = refl }

pub makes_device : MakesIfHonest with_grants device_text device
unfolding understood everything
makes_device = record { command = refl; whole = refl; is_plain = (refl, refl); defines = refl; counts_nothing = refl }

pub makes_rates : MakesIfHonest first_schema rates_text rates
unfolding understood everything
makes_rates = record { command = refl; whole = refl; is_plain = (refl, refl); defines = refl; counts_nothing = refl }

-- ---- the index

abbrev pub job_ended_text : List ℕ
job_ended_text = codes "CREATE INDEX job_ended ON job (account, ended, job)"

pub job_ended_is : command_of (understood unindexed_schema job_ended_text) ≡ CreateIndex 2
unfolding understood everything
job_ended_is = refl

pub job_ended_whole : statement_of job_ended_text (understood unindexed_schema job_ended_text) ≡ job_ended_text
unfolding understood everything
job_ended_whole = refl

pub job_ended_plain : IsPlain (understood unindexed_schema job_ended_text)
unfolding understood everything
job_ended_plain = (refl, refl)

pub job_ended_defined : index_defined_by job job_ended_text ≡ Ok (record job_ended { tree = 0 })
unfolding understood everything
job_ended_defined = refl

pub room_schema_is : indexed unindexed_schema job job_ended ≡ room_schema
unfolding everything
room_schema_is = refl

-- ---- the row of the version

abbrev pub version_text : List ℕ
version_text = codes "INSERT INTO meta (id, version) VALUES (1, 2)"

abbrev pub version_terms : List Term
version_terms = lit (Int (pos 1)) ∷ lit Null ∷ lit (Int (pos 2)) ∷ []

pub version_is : command_of (understood room_schema version_text) ≡ Insert 0 (Values version_terms 3)
unfolding understood everything
version_is = refl

pub version_plain : IsPlain (understood room_schema version_text)
unfolding understood everything
version_plain = (refl, refl)
