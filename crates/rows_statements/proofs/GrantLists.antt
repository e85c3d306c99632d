-- The walk over the grants of an account by month: what its text means, and what it lists.
use Rattle.std.proofs.Common.{◌≡◌, ℕ, ◌<◌, T, List, [], ◌∷◌, ◌++◌, map, drop, filter, codes, append-nil, append_assoc, negsuc, Some, None, Less, refl, sym, ap, subst, ◌∙◌}
use Rattle.std.specs.List.{AllByRecursion}
use Rattle.std.specs.List.Sorted.{IsPermutation}
use Rattle.std.specs.Ordering.{nat_cmp}
use Rattle.std.specs.FinMap.{entries, entries_sorted, is_sorted}
use Rattle.std.proofs.lemmas.List.Sorted.{IsPermutation-map, IsPermutation-sym}
use Rattle.sqlite_tied.specs.Compute.{everything}
use Rattle.sqlite_value.specs.declared.value.Value.TheVariants.{Int, Text}
use Rattle.sqlite_value.specs.declared.keys.Key.{Key}
use Rattle.sqlite_value.specs.Order.{Row, column}
use Rattle.sqlite_value.specs.Keys.{first_key}
use Rattle.sqlite_trees.specs.Tree.{IsAscending}
use Rattle.sqlite_trees.proofs.ListLemmas.{map-map, all_weaker, all-append, ascending-map}
use Rattle.sqlite_sql.specs.Query.{Query, Output, output, output_cmp}
use Rattle.sqlite_sql.specs.Term.{Term, lit, col}
use Rattle.sqlite_rules.proofs.ListLemmas.{all_has}
use Rattle.sqlite_rules.proofs.ProbeLemmas.{has_mapped}
use Rattle.sqlite.specs.Effect.{Database}
use Rattle.sqlite.specs.Listing.{understood}
use Rattle.account_rules.specs.declared.account.Grant.{Grant}
use Rattle.account_state.specs.Grants.{grant_of}
use Rattle.account_state.specs.Rooms.{RoomValue}
use Rattle.account_state.specs.RoomRules.{IsGrant}
use Rattle.account_state.proofs.FiniteMaps.{all_along, all_above, entries_here, T_first, T_second}
use Rattle.rows_tables.specs.Places.{grants_tree, grant_column, cell}
use Rattle.rows_tables.specs.Tables.{room_schema}
use Rattle.rows_tables.specs.Keyed.{HasSchema}
use Rattle.rows_tables.specs.Queries.{Means, TakesParams, of_table, passes, IsShownBy}
use Rattle.rows_tables.specs.Cells.{number, grant_cells}
use Rattle.rows_tables.specs.Accounts.{HoldsRoom, IsSound}
use Rattle.rows_statements.specs.GrantLists.{month_cells, tells_no_grant, AreByMonth, IsInRange, ListsGrant}
use Rattle.rows_statements.specs.Walks.{GathersAll, GathersShown, RefusesShown}
use Rattle.rows_statements.specs.SoundRows.{grant_rows, AreRowsOf}
use Rattle.rows_statements.specs.Totals.{granted_cells, TellsGrant}
use Rattle.rows_tables.proofs.Queries.{env, answer_in_order, answer_is, permuted_has}
use Rattle.rows_tables.proofs.ReadBackLemmas.{number_back}
use Rattle.rows_statements.proofs.AccountRows.{no_grants, rows_of_grants}
use Rattle.rows_statements.proofs.GrantWalk.{granted_tests, granted_shows, granted_names, grants_shown}
use Rattle.rows_statements.proofs.QueueSorts.{number_less}
use Rattle.rows_statements.proofs.QueueTexts.{rising}
use Rattle.rows_statements.proofs.RowTotals.{of_their_cells}
use Rattle.rows_statements.proofs.WalkLemmas.{refused_there}

abbrev pub by_month_text : List ℕ
by_month_text = codes "SELECT month, pages FROM grants WHERE account = ?1 ORDER BY month"

abbrev pub by_month : List (Term × Key)
by_month = (col 1 grant_column.month, rising) ∷ []

abbrev pub by_month_query : Query
by_month_query = of_table grants_tree granted_tests granted_shows by_month

pub by_month_is : Means room_schema by_month_text by_month_query granted_names 1
unfolding understood everything
by_month_is = record { is = refl; lists_nothing = refl; is_plain = (refl, refl); takes = refl; is_whole = refl }

pub by_month_takes : (name : List ℕ) → TakesParams room_schema by_month_query (Text name ∷ []) 1
by_month_takes name = record { given = refl; typed = refl }

-- ---- what is shown, with what it is sorted by

abbrev sorted_cells : Row → Output
sorted_cells cells = (cell grant_column.month cells ∷ [], granted_cells cells)

abbrev sorted_entry : ℕ × ℕ → Output
sorted_entry entry = (number entry.0 ∷ [], month_cells entry)

module _ (name : List ℕ) where
  outputs_granted : (r : Row) → output by_month_query (env (Text name ∷ []) r) ≡ sorted_cells (drop 1 r)
  outputs_granted [] = refl
  outputs_granted (v ∷ r) = refl

  sorted_rows : (db : Database) → map (λ r. output by_month_query (env (Text name ∷ []) r)) (filter (passes granted_tests (Text name ∷ [])) (db.trees grants_tree)) ≡ map sorted_cells (grant_rows db name)
  unfolding first_key
  sorted_rows db = of_their_cells (λ r. output by_month_query (env (Text name ∷ []) r)) sorted_cells outputs_granted _

  months_rise : (es : List (ℕ × ℕ)) → T (is_sorted nat_cmp es) → IsAscending (λ a b. output_cmp by_month_query (sorted_entry a) (sorted_entry b) ≡ Less) es
  months_rise [] sorted = tt
  months_rise (e ∷ es) sorted = (
    all_weaker (λ later. e.0 < later.0) _ (λ (later : ℕ × ℕ) h. number_less e.0 later.0 h) es (all_above e.0 es (T_first _ _ sorted)),
    months_rise es (T_second _ _ sorted),
  )

  module _ (db : Database) (has : HasSchema db) where
    entries_shown : (room : RoomValue) → HoldsRoom db name room → (rows : List Row) → IsShownBy by_month_query db.trees (Text name ∷ []) rows → rows ≡ map month_cells (entries room.grants)
    entries_shown room held rows answer =
        let es = entries room.grants in
        let cells = λ (e : ℕ × ℕ). grant_cells name e.0 e.1 in
        let told : IsPermutation (map sorted_cells (grant_rows db name)) (map sorted_entry es) =
        subst (IsPermutation (map sorted_cells (grant_rows db name))) (map-map sorted_cells cells es) (IsPermutation-map sorted_cells (grant_rows db name) (map cells es) (rows_of_grants db has name room held)) in
        answer_in_order grants_tree granted_tests granted_shows by_month (lit (Int (negsuc 0))) db.trees (Text name ∷ []) rows answer (map sorted_entry es) (subst (λ l. IsPermutation l (map sorted_entry es)) (sym (sorted_rows db)) told)
        (ascending-map (λ a b. output_cmp by_month_query a b ≡ Less) sorted_entry es (months_rise es (entries_sorted room.grants)))
        ∙ map-map (λ (o : Output). o.1) sorted_entry es

    pub shown_by_month : (rows : List Row) → IsShownBy by_month_query db.trees (Text name ∷ []) rows → AreByMonth db name rows
    shown_by_month rows answer = record {
      of_room = λ room held. entries_shown room held rows answer;
      are_shown = subst (λ l. IsPermutation l rows) (grants_shown name db) (answer_is grants_tree granted_tests granted_shows by_month db.trees (Text name ∷ []) rows answer);
    }

-- ---- what is gathered of the rows

told_once : (entry : ℕ × ℕ) (grant : Grant) → TellsGrant (month_cells entry) grant.month grant.pages → grant ≡ grant_of entry
told_once entry grant told =
    let month = number_back grant.month entry.0 (sym told.month) in
    let pages = number_back grant.pages entry.1 (sym told.pages) in
    let whole : ◌≡◌ {A = Grant} (record { month = grant.month; pages = grant.pages }) (record { month = entry.0; pages = entry.1 }) = rw (month, pages) refl in
    whole

gathered_so : (es : List (ℕ × ℕ)) (first last : List Grant) → GathersAll ListsGrant first (map month_cells es) last → last ≡ first ++ map grant_of es
gathered_so [] first last same = sym same ∙ sym (append-nil first)
gathered_so (e ∷ es) first last (next, step, more) =
    gathered_so es next last more
    ∙ ap (λ (l : List Grant). l ++ map grant_of es) (step.added ∙ ap (λ (told : Grant). first ++ told ∷ []) (told_once e step.grant step.told))
    ∙ append_assoc first (grant_of e ∷ []) (map grant_of es)

-- each grant that is gathered is in its range
pub all_in_range : (first last : List Grant) (rows : List Row) → GathersAll ListsGrant first rows last → AllByRecursion IsInRange first → AllByRecursion IsInRange last
all_in_range first last [] same sound = subst (AllByRecursion IsInRange) same sound
all_in_range first last (row ∷ rows) (next, step, more) sound =
    all_in_range next last rows more (subst (AllByRecursion IsInRange) (sym step.added) (all-append IsInRange first (step.grant ∷ []) sound (step.in_range, tt)))

-- each row of the account is that of a grant in its range
abbrev AreOfGrants : Database → List ℕ → Type 0
AreOfGrants db name = AreRowsOf (λ (grant : ℕ × ℕ). grant_cells name grant.0 grant.1) (λ grant. IsGrant grant.0 grant.1) (grant_rows db name)

module _ (db : Database) (name : List ℕ) (first : List Grant) where
  pub grants_listed : (room : RoomValue) → HoldsRoom db name room → (last : List Grant) → first ≡ [] → GathersShown ListsGrant (λ _ row. tells_no_grant row) (AreByMonth db name) first last → last ≡ map grant_of (entries room.grants)
  grants_listed room held last none (given, shown, gathered) =
      gathered_so (entries room.grants) first last (subst (λ rows. GathersAll ListsGrant first rows last) (shown.of_room room held) gathered)
      ∙ ap (λ (l : List Grant). l ++ map grant_of (entries room.grants)) none

  pub list_unsound : RefusesShown ListsGrant (λ _ row. tells_no_grant row) (AreByMonth db name) first → AreOfGrants db name → ⊥
  list_unsound it readable =
      let there = permuted_has (map granted_cells (grant_rows db name)) ((it.given ++ it.row ∷ []) ++ it.more) it.row it.are_shown.are_shown (refused_there it.given it.row it.more) in
      let one = has_mapped granted_cells (grant_rows db name) it.row there in
      let told = readable one.0 one.1 in
      let is : it.row ≡ month_cells told.0 = one.2 ∙ ap granted_cells told.2 in
      it.refused told.0.0 told.0.1 told.1 (record { month = ap (λ r. column r 0) is; pages = ap (λ r. column r 1) is })

-- sound rows can be read
pub grants_read : (db : Database) → HasSchema db → (name : List ℕ) → IsSound db name → AreOfGrants db name
grants_read db has name (None, held) row h = absurd (permuted_has [] (grant_rows db name) row (IsPermutation-sym _ _ (no_grants db has name held)) h)
grants_read db has name (Some room, held) row h =
    let cells = λ (e : ℕ × ℕ). grant_cells name e.0 e.1 in
    let es = entries room.grants in
    let it = has_mapped cells es row (permuted_has (map cells es) (grant_rows db name) row (IsPermutation-sym _ _ (rows_of_grants db has name room held)) h) in
    (it.0, all_has (λ (e : ℕ × ℕ). IsGrant e.0 e.1) es it.0 (all_along (λ (e : ℕ × ℕ) is. held.is_room.grants e.0 e.1 is) es (entries_here room.grants)) it.1, it.2)
