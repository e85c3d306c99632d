-- The removal of an account's rows from a table: what the texts mean, and what they leave.
use Rattle.std.proofs.Common.{◌≡◌, ℕ, Bool, true, false, cond, List, [], ◌∷◌, drop, codes, Option, None, option_map, Ok, refl, sym, ap, subst, ◌∙◌, inl, inr}
use Rattle.std.proofs.lemmas.Bool.{cases_Bool, and_parts, and_from}
use Rattle.sqlite_tied.specs.Compute.{everything}
use Rattle.sqlite_value.specs.declared.value.Value.TheVariants.{Null, Text}
use Rattle.sqlite_value.specs.Order.{Row}
use Rattle.sqlite_value.specs.Keys.{plain, first_key}
use Rattle.sqlite_trees.specs.Tree.{Trees}
use Rattle.sqlite_sql.specs.Term.{Term, col}
use Rattle.sqlite_schema.specs.declared.command.Command.{Command}
use Rattle.sqlite_schema.specs.declared.command.Command.TheVariants.{Delete}
use Rattle.sqlite_schema.specs.declared.schema.Column.{Column}
use Rattle.sqlite_schema.specs.declared.schema.Table.{Table}
use Rattle.sqlite_schema.specs.Rules.{agree}
use Rattle.sqlite_rules.proofs.KeyLemmas.{agree_back, agree_chain}
use Rattle.sqlite.specs.Effect.{Database}
use Rattle.sqlite.specs.Does.{Does, Tally}
use Rattle.sqlite.specs.Listing.{understood}
use Rattle.sqlite.specs.State.{State, mode_of, Executes}
use Rattle.sqlite.proofs.Callers.{IsPlain, command_of, statement_of, runs_as}
use Rattle.rows_tables.specs.Places.{account_column, row_number, account_places}
use Rattle.rows_tables.specs.Tables.{room_schema, keyed}
use Rattle.rows_tables.specs.Keyed.{HasSchema, RemovesRows, has_key}
use Rattle.rows_tables.specs.Queries.{of_table, is_given, passes}
use Rattle.rows_tables.proofs.Finds.{removed, found_at}
use Rattle.rows_tables.proofs.KeyedTables.{places_from, IsInSchema, account_in, job_in, document_in, grants_in}
use Rattle.rows_tables.proofs.Removals.{deleted}
use Rattle.rows_tables.proofs.StatementParts.{went, same_value}
use Rattle.rows_tables.proofs.Statements.{numbered_in, once_in, keeps_schema}

-- two rows that agree on the places agree alike with a third
alike : (places : List ℕ) (a b c : Row) → agree plain places a places b ≡ true → agree plain places a places c ≡ agree plain places b places c
alike places a b c same = elim (cases_Bool (agree plain places b places c)) [
  | inl is ↦ agree_chain plain places places places a b c same is ∙ sym is
  | inr isnt ↦ elim (cases_Bool (agree plain places a places c)) [
    | inl is ↦ absurd (let other = agree_chain plain places places places b a c (agree_back plain places places a b same) is in cc)
    | inr other ↦ other ∙ sym isnt
  ]
]

abbrev tests : List Term
tests = is_given account_column.name 1 ∷ []

module _ {at : ℕ} {label : List ℕ} {tree width : ℕ} {columns : List Column} (in_schema : IsInSchema at label tree width columns) (text : List ℕ) where
  abbrev table : Table
  table = keyed label tree (places_from width 1) columns

  abbrev command_removes : Command
  command_removes = Delete at (record { lets = []; body = of_table tree tests (col 1 row_number ∷ []) [] })

  -- the text asks for the rows whose key begins with the parameter, and removes them
  pub record IsRemoving : Type 0 where
    pub command : command_of (understood room_schema text) ≡ command_removes
    pub is_plain : IsPlain (understood room_schema text)
    pub asks : (name : List ℕ) (key x : Row) → has_key table key x ≡ true → passes tests (Text name ∷ []) x ≡ agree plain account_places (Null ∷ key) account_places (Null ∷ Text name ∷ [])

  pub removes_own : IsRemoving → (name : List ℕ) (old new : State) (count : ℕ) → HasSchema old.now → Executes text (Text name ∷ []) old new (Ok count)
      → HasSchema new.now × RemovesRows table (Text name ∷ []) account_places old.now new.now
  removes_own it name old new count has h =
      let params : Row = Text name ∷ [] in
      let ran = runs_as text params old new room_schema has.schema_is command_removes it.command it.is_plain count h in
      let statement = statement_of text (understood room_schema text) in
      let does : Does old.step_limit (mode_of old) params (record { schema = room_schema; trees = old.now.trees }) statement None command_removes (Ok (ran.tally, new.now)) =
      subst (λ s. Does old.step_limit (mode_of old) params (record old.now { schema = s }) statement None command_removes (Ok (ran.tally, new.now))) has.schema_is ran.changed in
      let done = went (rw in_schema.place at does) in
      let now : new.now ≡ record { schema = room_schema; trees = done.0.trees } = ap (λ (p : Tally × Database). p.1) (same_value (went (went done.2).2).2) in
      let db = old.now.trees in
      let wrote = deleted old.step_limit params table tests db done.0 (numbered_in table in_schema.listed old.now has) done.1 in
      let left = keeps_schema table old.now new.now done.0.trees has ran.sound now wrote.1 in
      let after = once_in table in_schema.listed in_schema.guarded done.0.trees wrote.1.fits wrote.1.numbered in
      let trees : new.now.trees ≡ done.0.trees = ap (λ (d : Database). d.trees) now in (
        left.0,
        record {
          rows = λ key.
              let concerns = agree plain account_places (Null ∷ key) account_places (Null ∷ Text name ∷ []) in
              ap (λ (t : Trees). option_map (drop 1) (found_at table key (t tree))) trees
              ∙ ap (option_map (drop 1)) (removed table key (db tree) (done.0.trees tree) (passes tests params) wrote.0 after concerns (it.asks name key))
              ∙ by_case concerns (found_at table key (db tree));
          rest = left.1;
        },
      )
    where
      by_case : (concerns : Bool) (was : Option Row) → option_map (drop 1) (cond concerns None was) ≡ cond concerns None (option_map (drop 1) was)
      by_case true was = refl
      by_case false was = refl

-- what has the key begins as the key does
asks_own : (more : List ℕ) (name : List ℕ) (key x : Row) → agree plain (1 ∷ more) x (1 ∷ more) (Null ∷ key) ≡ true → passes tests (Text name ∷ []) x ≡ agree plain account_places (Null ∷ key) account_places (Null ∷ Text name ∷ [])
unfolding first_key
asks_own more name key x is = alike account_places x (Null ∷ key) (Null ∷ Text name ∷ []) (and_from _ _ (and_parts _ _ is).0 refl)

-- ---- the texts

pub removes_documents : IsRemoving document_in (codes "DELETE FROM document WHERE account = ?1")
unfolding understood everything
removes_documents = record { command = refl; is_plain = (refl, refl); asks = asks_own (2 ∷ 3 ∷ []) }

pub removes_jobs : IsRemoving job_in (codes "DELETE FROM job WHERE account = ?1")
unfolding understood everything
removes_jobs = record { command = refl; is_plain = (refl, refl); asks = asks_own (2 ∷ []) }

pub removes_grants : IsRemoving grants_in (codes "DELETE FROM grants WHERE account = ?1")
unfolding understood everything
removes_grants = record { command = refl; is_plain = (refl, refl); asks = asks_own (2 ∷ []) }

pub removes_account : IsRemoving account_in (codes "DELETE FROM account WHERE name = ?1")
unfolding understood everything
removes_account = record { command = refl; is_plain = (refl, refl); asks = asks_own [] }
