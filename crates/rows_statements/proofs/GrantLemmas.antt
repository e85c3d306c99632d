-- The statements on the table `grants`: what their texts mean, and what they leave.
use Rattle.std.proofs.Common.{◌≡◌, ◌≢◌, ◌≤◌, Result, ℕ, pos, List, [], ◌∷◌, codes, Option, Some, None, option_map, refl, ap, ◌∙◌}
use Rattle.std.specs.FinMap.{get}
use Rattle.sqlite_tied.specs.Compute.{everything}
use Rattle.sqlite_value.specs.declared.value.Value.TheVariants.{Null, Text}
use Rattle.sqlite_value.specs.declared.keys.Collation.TheVariants.{Binary}
use Rattle.sqlite_value.specs.Order.{Row, column}
use Rattle.sqlite_value.specs.Keys.{first_key}
use Rattle.sqlite_sql.specs.declared.ops.BinaryOp.TheVariants.{Compare}
use Rattle.sqlite_sql.specs.declared.ops.CompareOp.TheVariants.{Eq}
use Rattle.sqlite_sql.specs.Term.{Term, lit, col, op2}
use Rattle.sqlite.specs.Effect.{Database}
use Rattle.sqlite.specs.Listing.{understood}
use Rattle.sqlite.specs.State.{State}
use Rattle.sqlite.specs.declared.error.Error.{Error}
use Rattle.rows_tables.specs.Places.{grants_tree, grant_column, row_number, cell}
use Rattle.rows_tables.specs.Tables.{room_schema, grants}
use Rattle.rows_tables.specs.Keyed.{HasSchema}
use Rattle.rows_tables.specs.Queries.{Means, TakesParams, of_table, is_given, FindsRow}
use Rattle.rows_tables.specs.Cells.{number, grant_cells}
use Rattle.rows_tables.specs.Accounts.{grant_at, IsSound}
use Rattle.rows_tables.specs.Calls.{Gets}
use Rattle.account_rules.specs.Limits.{most_pages}
use Rattle.rows_statements.specs.SoundRows.{IsRowOf}
use Rattle.rows_tables.proofs.Reading.{gets, without_number}
use Rattle.rows_tables.proofs.KeyedTables.{grants_in, grants_key}
use Rattle.rows_tables.proofs.KeyedRows.{same_row, row_found}
use Rattle.rows_tables.proofs.Settings.{IsSetting}
use Rattle.rows_tables.proofs.StatementParts.{cast_integer}

-- ---- the read by its key

abbrev pub find_grant_text : List ℕ
find_grant_text = codes "SELECT pages FROM grants WHERE account = ?1 AND month = ?2"

abbrev pub grant_tests : List Term
grant_tests = is_given grant_column.account 1 ∷ op2 (Compare Eq Binary) (col 1 grant_column.month) (col 0 1) ∷ []

abbrev pub grant_shows : List Term
grant_shows = col 1 grant_column.pages ∷ []

abbrev pub grant_names : List (List ℕ)
grant_names = codes "pages" ∷ []

pub find_grant_is : Means room_schema find_grant_text (of_table grants_tree grant_tests grant_shows []) grant_names 2
unfolding understood everything
find_grant_is = record { is = refl; lists_nothing = refl; is_plain = (refl, refl); takes = refl; is_whole = refl }

pub find_grant_takes : (name : List ℕ) (month : ℕ) → TakesParams room_schema (of_table grants_tree grant_tests grant_shows []) (Text name ∷ number month ∷ []) 2
find_grant_takes name month = record { given = refl; typed = refl }

-- ---- the write of one row

abbrev pub set_grant_text : List ℕ
set_grant_text = codes "INSERT INTO grants (account, month, pages) VALUES (?1, ?2, ?3) ON CONFLICT (account, month) DO UPDATE SET pages = excluded.pages"

-- its number and its key, and the new value
abbrev pub grant_becomes : List Term
grant_becomes = col 1 row_number ∷ col 1 grant_column.account ∷ col 1 grant_column.month ∷ col 0 7 ∷ []

abbrev pub grant_terms : List Term
grant_terms = lit Null ∷ col 0 0 ∷ col 0 1 ∷ col 0 2 ∷ []

pub sets_grant : (name : List ℕ) (month pages : ℕ) → IsSetting (Text name ∷ number month ∷ []) (number pages ∷ []) grants_in set_grant_text grant_becomes grant_terms
unfolding understood everything
sets_grant name month pages = record { command = refl; is_plain = (refl, refl); rows = refl; becomes = λ id there r. refl; exact = grants_key name (pos month); kept = (refl, (cast_integer _, (cast_integer _, tt))) }

-- ---- what is read of the row

pub gets_grant : (old new : State) (name : List ℕ) (month : ℕ) → HasSchema old.now → (result : Result (Option Row) Error) → FindsRow old new grants_tree grant_tests grant_shows (Text name ∷ number month ∷ []) result
    → Gets old new (grant_at old.now name (pos month)) (λ cells. cell grant_column.pages cells ∷ []) result
unfolding first_key
gets_grant old new name month has result found =
    gets grants grants_in.listed grants_in.guarded (Text name ∷ number month ∷ []) grant_tests grant_shows (Text name ∷ number month ∷ []) (λ cells. cell grant_column.pages cells ∷ [])
    (λ r. refl) (λ r. rw (without_number r 2) refl) old new has result found

module _ (db : Database) (has : HasSchema db) (name : List ℕ) (month : ℕ) (row : Row) (shown : Some row ≡ option_map (λ cells. cell grant_column.pages cells ∷ []) (grant_at db name (pos month))) where
  pub grant_found : (pages : ℕ) → column row 0 ≡ number pages → grant_at db name (pos month) ≡ Some (grant_cells name month pages)
  grant_found pages read = row_found (Text name ∷ number month ∷ []) grants_in (grants_key name (pos month)) db has (number pages ∷ []) refl row shown (read, tt)

  pub grant_unsound : ((pages : ℕ) → pages ≤ most_pages → column row 0 ≢ number pages) → IsRowOf (grant_cells name month) (λ pages. pages ≤ most_pages) (grant_at db name (pos month)) → ⊥
  grant_unsound damaged (None, range, is) = absurd (let e = rw is at shown in cc)
  grant_unsound damaged (Some pages, range, is) = damaged pages range (ap (λ r. column r 0) (same_row (shown ∙ ap (option_map (λ cells. cell grant_column.pages cells ∷ [])) is)))

pub grant_read : (db : Database) (name : List ℕ) (month : ℕ) → IsSound db name → IsRowOf (grant_cells name month) (λ pages. pages ≤ most_pages) (grant_at db name (pos month))
grant_read db name month (None, held) = (None, tt, held.no_grant (pos month))
grant_read db name month (Some room, held) = of_room (get room.grants month) refl
  where
    of_room : (o : Option ℕ) → get room.grants month ≡ o → IsRowOf (grant_cells name month) (λ pages. pages ≤ most_pages) (grant_at db name (pos month))
    of_room None e = (None, tt, held.rows.grant_rows (pos month) ∙ ap (option_map (grant_cells name month)) e)
    of_room (Some pages) e = (Some pages, (held.is_room.grants month pages e).pages_fit, held.rows.grant_rows (pos month) ∙ ap (option_map (grant_cells name month)) e)
