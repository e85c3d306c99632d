-- The statements on the table `account`: what their texts mean, and what they leave.
use Rattle.std.proofs.Common.{◌≡◌, ◌≢◌, Result, ℕ, true, drop, List, [], ◌∷◌, codes, Option, Some, None, option_map, refl, ap, ◌∙◌}
use Rattle.sqlite_tied.specs.Compute.{everything}
use Rattle.sqlite_value.specs.declared.value.Value.TheVariants.{Null, Text}
use Rattle.sqlite_value.specs.declared.keys.Collation.TheVariants.{Binary}
use Rattle.sqlite_value.specs.Order.{Row, column}
use Rattle.sqlite_value.specs.Keys.{first_key}
use Rattle.sqlite_sql.specs.declared.ops.BinaryOp.TheVariants.{Compare}
use Rattle.sqlite_sql.specs.declared.ops.CompareOp.TheVariants.{Eq}
use Rattle.sqlite_sql.specs.Term.{Term, lit, col, op2}
use Rattle.sqlite.specs.Effect.{Database}
use Rattle.sqlite.specs.Listing.{understood}
use Rattle.account_rules.specs.declared.account.Account.{Account}
use Rattle.rows_tables.specs.Places.{account_tree, account_column, row_number, cell}
use Rattle.rows_tables.specs.Tables.{room_schema, account}
use Rattle.rows_tables.specs.Keyed.{HasSchema, has_key}
use Rattle.sqlite.specs.State.{State}
use Rattle.sqlite.specs.declared.error.Error.{Error}
use Rattle.rows_tables.specs.Calls.{Gets}
use Rattle.rows_tables.specs.Queries.{Means, TakesParams, of_table, shows_of, FindsRow}
use Rattle.rows_tables.proofs.Reading.{gets, without_number}
use Rattle.rows_tables.specs.Cells.{number, account_cells}
use Rattle.rows_tables.specs.Accounts.{account_at, account_of_room, IsAccount, IsSound}
use Rattle.rows_statements.specs.SoundRows.{IsRowOf}
use Rattle.rows_tables.proofs.KeyedTables.{account_in, account_key}
use Rattle.rows_tables.proofs.KeyedRows.{has_values, same_row, row_found}
use Rattle.rows_tables.proofs.Settings.{IsSetting, AllKept}
use Rattle.rows_tables.proofs.Updates.{IsUpdating}
use Rattle.rows_tables.proofs.StatementParts.{cast_integer}

-- ---- the read by its key

abbrev pub find_account_text : List ℕ
find_account_text = codes "SELECT opened, next_job FROM account WHERE name = ?1"

abbrev pub account_tests : List Term
account_tests = op2 (Compare Eq Binary) (col 1 account_column.name) (col 0 0) ∷ []

abbrev pub account_shows : List Term
account_shows = col 1 account_column.opened ∷ col 1 account_column.next_job ∷ []

abbrev pub account_names : List (List ℕ)
account_names = codes "opened" ∷ codes "next_job" ∷ []

pub find_account_is : Means room_schema find_account_text (of_table account_tree account_tests account_shows []) account_names 1
unfolding understood everything
find_account_is = record { is = refl; lists_nothing = refl; is_plain = (refl, refl); takes = refl; is_whole = refl }

pub find_account_takes : (name : List ℕ) → TakesParams room_schema (of_table account_tree account_tests account_shows []) (Text name ∷ []) 1
find_account_takes name = record { given = refl; typed = refl }

-- ---- the write of one row

abbrev pub set_account_text : List ℕ
set_account_text = codes "INSERT INTO account (name, opened, next_job) VALUES (?1, ?2, ?3) ON CONFLICT (name) DO UPDATE SET opened = excluded.opened, next_job = excluded.next_job"

-- its number and its key, and the new values
abbrev pub account_becomes : List Term
account_becomes = col 1 row_number ∷ col 1 account_column.name ∷ col 0 6 ∷ col 0 7 ∷ []

abbrev pub account_terms : List Term
account_terms = lit Null ∷ col 0 0 ∷ col 0 1 ∷ col 0 2 ∷ []

pub sets_account : (name : List ℕ) (it : Account) → IsSetting (Text name ∷ []) (number it.opened ∷ number it.next_job ∷ []) account_in set_account_text account_becomes account_terms
unfolding understood everything
sets_account name it = record { command = refl; is_plain = (refl, refl); rows = refl; becomes = λ id there r. refl; exact = account_key name; kept = (refl, (cast_integer _, (cast_integer _, tt))) }

-- ---- the update of its next number

abbrev pub next_text : List ℕ
next_text = codes "UPDATE account SET next_job = ?2 WHERE name = ?1"

-- its number twice, as the row that is there and as the new one's, and the cells
abbrev pub next_terms : List Term
next_terms = col 1 row_number ∷ col 1 account_column.name ∷ col 1 account_column.opened ∷ col 0 1 ∷ []

abbrev pub next_tests : List Term
next_tests = account_tests

abbrev pub with_next : ℕ → Row → Row
with_next next cells = cell account_column.name cells ∷ cell account_column.opened cells ∷ number next ∷ []

next_shows : (name : List ℕ) (next : ℕ) (r : Row) → drop 1 (shows_of (col 1 row_number ∷ next_terms) (Text name ∷ number next ∷ []) r) ≡ column r 0 ∷ with_next next (drop 1 r)
next_shows name next [] = refl
next_shows name next (v ∷ r) = refl

pub updates_next : (name : List ℕ) (next : ℕ) → IsUpdating (Text name ∷ []) account_in next_text next_tests next_terms (Text name ∷ number next ∷ []) (with_next next)
unfolding understood everything first_key
updates_next name next = record { command = refl; is_plain = (refl, refl); asks = λ r. refl; shows = next_shows name next }

pub next_kept : (name : List ℕ) (it : Account) (next : ℕ) → AllKept account.columns (account_cells name (record it { next_job = next }))
next_kept name it next = (refl, (cast_integer _, (cast_integer _, tt)))

pub next_keyed : (name : List ℕ) (it : Account) → has_key account (Text name ∷ []) (Null ∷ account_cells name it) ≡ true
next_keyed name it = has_values (Text name ∷ []) (Null ∷ account_cells name it) (refl, tt) (refl, tt)

-- ---- what is read of the row

pub gets_account : (old new : State) (name : List ℕ) → HasSchema old.now → (result : Result (Option Row) Error) → FindsRow old new account_tree account_tests account_shows (Text name ∷ []) result
    → Gets old new (account_at old.now name) (λ cells. cell account_column.opened cells ∷ cell account_column.next_job cells ∷ []) result
unfolding first_key
gets_account old new name has result found =
    gets account account_in.listed account_in.guarded (Text name ∷ []) account_tests account_shows (Text name ∷ []) (λ cells. cell account_column.opened cells ∷ cell account_column.next_job cells ∷ [])
    (λ r. refl) (λ r. rw (without_number r 1, without_number r 2) refl) old new has result found

module _ (db : Database) (has : HasSchema db) (name : List ℕ) (row : Row) (shown : Some row ≡ option_map (λ cells. cell account_column.opened cells ∷ cell account_column.next_job cells ∷ []) (account_at db name)) where
  pub account_found : (it : Account) → (column row 0 ≡ number it.opened) × (column row 1 ≡ number it.next_job) → account_at db name ≡ Some (account_cells name it)
  account_found it read = row_found (Text name ∷ []) account_in (account_key name) db has (number it.opened ∷ number it.next_job ∷ []) refl row shown (read.0, (read.1, tt))

  pub account_unsound : ((it : Account) → IsAccount it → column row 0 ≡ number it.opened → column row 1 ≢ number it.next_job) → IsRowOf (account_cells name) IsAccount (account_at db name) → ⊥
  account_unsound damaged (None, range, is) = absurd (let e = rw is at shown in cc)
  account_unsound damaged (Some it, range, is) =
      let same = same_row (shown ∙ ap (option_map (λ cells. cell account_column.opened cells ∷ cell account_column.next_job cells ∷ [])) is) in
      damaged it range (ap (λ r. column r 0) same) (ap (λ r. column r 1) same)

pub account_read : (db : Database) (name : List ℕ) → IsSound db name → IsRowOf (account_cells name) IsAccount (account_at db name)
account_read db name (None, held) = (None, tt, held.no_account)
account_read db name (Some room, held) =
    let rules = held.is_room in
    (Some (account_of_room room), record { opened_in_range = rules.opened_in_range; next_from_one = rules.next_from_one; next_in_range = rules.next_in_range }, held.rows.account_row)
