-- The names of accounts that come next: what the walk over the table `account` shows, and what is gathered of it.
use Rattle.std.proofs.Common.{◌≡◌, ℕ, pos, Bool, true, false, ◌&&◌, List, [], ◌∷◌, ◌++◌, map, filter, codes, Any, Option, None, Some, IsSome, Ordering, Less, Equal, Greater, is_lt, refl, sym, ap, subst, ◌∙◌}
use Rattle.std.specs.List.{take-map}
use Rattle.std.specs.Ordering.{is_gt, ordering_reverse}
use Rattle.std.specs.Cmp.Lexicographic.{nat_list_cmp_total}
use Rattle.std.proofs.lemmas.Bool.{true≢false}
use Rattle.std.proofs.lemmas.List.{map-id}
use Rattle.sqlite_tied.specs.Compute.{everything}
use Rattle.sqlite_value.specs.declared.value.Value.TheVariants.{Int, Text}
use Rattle.sqlite_value.specs.declared.keys.Collation.TheVariants.{Binary}
use Rattle.sqlite_value.specs.Order.{Row, column}
use Rattle.sqlite_value.proofs.OrderLemmas.{value_cmp-Text}
use Rattle.sqlite_trees.specs.Tree.{IsAscending}
use Rattle.sqlite_trees.proofs.ListLemmas.{ascending-filter}
use Rattle.sqlite_sql.specs.declared.ops.BinaryOp.TheVariants.{Compare}
use Rattle.sqlite_sql.specs.declared.ops.CompareOp.TheVariants.{Gt}
use Rattle.sqlite_sql.specs.Ops.{binary, is_true, from_truth}
use Rattle.sqlite_sql.specs.Term.{Term, col, lit, op2}
use Rattle.sqlite_sql.specs.Query.{Query, output}
use Rattle.sqlite_rules.specs.Lists.{Has}
use Rattle.sqlite_rules.proofs.ListLemmas.{any_has, contains_had, has_filtered, has_kept}
use Rattle.sqlite.specs.Effect.{Database}
use Rattle.sqlite.specs.Listing.{understood}
use Rattle.account_state.specs.Names.{AreNames, NamesRise, from_name, most_names, next_names}
use Rattle.account_rules.specs.Devices.{name_cmp}
use Rattle.rows_tables.specs.Places.{account_tree, account_column}
use Rattle.rows_tables.specs.Tables.{room_schema}
use Rattle.rows_tables.specs.Keyed.{HasSchema}
use Rattle.rows_tables.specs.Queries.{Means, TakesParams, first_of_table, passes, IsShownBy}
use Rattle.rows_tables.specs.Accounts.{account_at}
use Rattle.rows_tables.proofs.KeyedRows.{text_at}
use Rattle.rows_tables.proofs.KeyedTables.{account_in, account_key}
use Rattle.rows_tables.proofs.Queries.{env}
use Rattle.rows_tables.proofs.RowOfKey.{at_its_key, there_at}
use Rattle.rows_statements.specs.NameLists.{name_cells, ShowsNames, ListsName, refuses_name}
use Rattle.rows_statements.specs.Walks.{GathersAll, GathersShown, RefusesShown}
use Rattle.rows_statements.specs.SoundRows.{AreNamed}
use Rattle.rows_statements.proofs.ListWalks.{gathered_so}
use Rattle.rows_statements.proofs.NameOrder.{by_name, shown_of_row, shown_by_name}
use Rattle.rows_statements.proofs.WalkLemmas.{refused_there}

abbrev pub names_text : List ℕ
names_text = codes "SELECT name FROM account WHERE name > ?1 ORDER BY name LIMIT 100"

abbrev pub names_tests : List Term
names_tests = op2 (Compare Gt Binary) (col 1 account_column.name) (col 0 0) ∷ []

abbrev pub names_shows : List Term
names_shows = col 1 account_column.name ∷ []

abbrev pub names_limit : Term
names_limit = lit (Int (pos most_names))

abbrev pub names_shown : List (List ℕ)
names_shown = codes "name" ∷ []

abbrev pub names_query : Query
names_query = first_of_table account_tree names_tests names_shows by_name names_limit

pub names_is : Means room_schema names_text names_query names_shown 1
unfolding understood everything
names_is = record { is = refl; lists_nothing = refl; is_plain = (refl, refl); takes = refl; is_whole = refl }

pub names_takes : (start : List ℕ) → TakesParams room_schema names_query (name_cells start) 1
names_takes start = record { given = refl; typed = refl }

-- ---- which rows are asked for

abbrev comes_behind : List ℕ → List ℕ → Bool
comes_behind start name = is_lt (name_cmp start name)

other_way : (o : Ordering) → is_true (from_truth (Some (is_gt (ordering_reverse o)))) ≡ is_lt o
other_way Less = refl
other_way Equal = refl
other_way Greater = refl

greater_text : (start name : List ℕ) → is_true (binary (Compare Gt Binary) (Text name) (Text start)) ≡ comes_behind start name
unfolding binary
greater_text start name = rw (value_cmp-Text name start, nat_list_cmp_total.antisymm name start) (other_way (name_cmp start name))

only_test : (a b : Bool) → a ≡ b → (a && true) ≡ b
only_test true b same = same
only_test false b same = same

asks_behind : (start name : List ℕ) (r : Row) → column r account_column.name ≡ Text name → passes names_tests (name_cells start) r ≡ comes_behind start name
asks_behind start name r is = only_test _ _ (ap (λ v. is_true (binary (Compare Gt Binary) v (Text start))) is ∙ greater_text start name)

-- ---- what is shown

rise_so : (names : List (List ℕ)) → NamesRise names → IsAscending (λ a b. name_cmp a b ≡ Less) names
rise_so [] rise = tt
rise_so (name ∷ names) rise = (rise.0, rise_so names rise.1)

any_from : (names : List (List ℕ)) (name : List ℕ) → Has names name → Any (λ other. other ≡ name) names
any_from names name h = let it = contains_had names name h in (it.0, name, it.1, it.2, refl)

some_cells : (o : Option Row) → IsSome o → (cells : Row) × (o ≡ Some cells)
some_cells None some = absurd (true≢false (sym some))
some_cells (Some cells) some = (cells, refl)

module _ (db : Database) (has : HasSchema db) where
  row_named : (r : Row) → Has (db.trees account_tree) r → (name : List ℕ) × (column r account_column.name ≡ Text name)
  row_named r there = text_at account_in db has r there 0 (codes "name") refl

  row_there : (r : Row) → Has (db.trees account_tree) r → (name : List ℕ) → column r account_column.name ≡ Text name → IsSome (account_at db name)
  row_there r there name is = subst (λ (o : Option Row). IsSome o) (sym (at_its_key account_in db has (Text name ∷ []) refl (account_key name) (refl, tt) r there (is, tt))) refl

  module _ (start : List ℕ) where
    module _ (names : List (List ℕ)) (are : AreNames (λ name. IsSome (account_at db name)) names) where
      row_found : (r : Row) → Has (db.trees account_tree) r → passes names_tests (name_cells start) r ≡ true
          → (name : List ℕ) × Has (filter (comes_behind start) names) name × (output names_query (env (name_cells start) r) ≡ (Text name ∷ [], name_cells name))
      row_found r there passing =
          let name = row_named r there in
          let one = any_has (λ other. other ≡ name.0) names ((are.exactly name.0).1 (row_there r there name.0 name.1)) in
          let it : Has names name.0 = subst (Has names) one.2 one.1 in
          (name.0, has_kept (comes_behind start) names name.0 it (sym (asks_behind start name.0 r name.1) ∙ passing), ap (λ v. (v ∷ [], v ∷ [])) name.1)

      row_from : (name : List ℕ) → Has (filter (comes_behind start) names) name
          → (r : Row) × Has (db.trees account_tree) r × (passes names_tests (name_cells start) r ≡ true) × (output names_query (env (name_cells start) r) ≡ (Text name ∷ [], name_cells name))
      row_from name h =
          let it = has_filtered (comes_behind start) names name h in
          let cells = some_cells (account_at db name) ((are.exactly name).0 (any_from names name it.0)) in
          let r = there_at account_in db has (Text name ∷ []) refl (account_key name) (refl, tt) cells.0 cells.1 in
          (r.row, r.there, asks_behind start name r.row r.begins.0 ∙ it.1, ap (λ v. (v ∷ [], v ∷ [])) r.begins.0)

  pub shows_names : (behind : Option (List ℕ)) (rows : List Row) → IsShownBy names_query db.trees (name_cells (from_name behind)) rows → ShowsNames behind db rows
  shows_names behind rows answer =
      let start = from_name behind in
      record {
        of_names = λ names are.
            shown_by_name account_tree names_tests names_shows names_limit (name_cells start) account_in account_key (λ db has r there. text_at account_in db has r there 0 (codes "name") refl) (λ (name : List ℕ). name) name_cells db has rows answer
            (filter (comes_behind start) names) (ascending-filter (λ a b. name_cmp a b ≡ Less) (comes_behind start) names (rise_so names are.rise)) (row_found start names are) (row_from start names are)
            ∙ take-map name_cells most_names (filter (comes_behind start) names);
        are_accounts = λ row h.
            let r = shown_of_row account_tree names_tests names_shows names_limit (name_cells start) db.trees rows answer row h in
            let name = row_named r.0 r.1 in
            (name.0, row_there r.0 r.1 name.0 name.1, r.3 ∙ ap (λ v. v ∷ []) name.1);
      }

  -- ---- what is gathered

  told_so : (first : List (List ℕ)) (name : List ℕ) (last : List (List ℕ)) → ListsName first (name_cells name) last → last ≡ first ++ name ∷ []
  told_so first name last step =
      let same : step.name ≡ name = let e = step.told in cc in
      step.added ∙ ap (λ (n : List ℕ). first ++ n ∷ []) same

  pub names_listed : (behind : Option (List ℕ)) (first last : List (List ℕ)) → first ≡ [] → GathersShown ListsName (λ _ row. refuses_name row) (ShowsNames behind db) first last
      → (names : List (List ℕ)) → AreNames (λ name. IsSome (account_at db name)) names → last ≡ next_names behind names
  names_listed behind first last none gathered names are =
      let next = next_names behind names in
      gathered_so ListsName name_cells (λ (name : List ℕ). name) told_so next first last (subst (λ rows. GathersAll ListsName first rows last) (gathered.1.of_names names are) gathered.2)
      ∙ ap (λ (l : List (List ℕ)). l ++ map (λ (name : List ℕ). name) next) none
      ∙ map-id next

  pub names_unsound : (behind : Option (List ℕ)) (first : List (List ℕ)) → RefusesShown ListsName (λ _ row. refuses_name row) (ShowsNames behind db) first → AreNamed db → ⊥
  names_unsound behind first it named =
      let account = it.are_shown.are_accounts it.row (refused_there it.given it.row it.more) in
      it.refused account.0 (named account.0 account.1) (ap (λ l. column l 0) account.2)
