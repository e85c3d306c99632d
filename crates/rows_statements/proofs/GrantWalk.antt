-- The walk over the grants of an account: what its text means, and what it comes to.
use Rattle.std.proofs.Common.{◌≡◌, ℕ, ◌+◌, ◌<◌, ◌≤◌, List, [], ◌∷◌, map, drop, codes, Some, None, IsPermutation, refl, sym, ap, subst, ◌∙◌, arith}
use Rattle.std.specs.List.{sum_by}
use Rattle.std.specs.FinMap.{entries}
use Rattle.std.proofs.lemmas.List.Sums.{sum_by-cons}
use Rattle.std.proofs.lemmas.List.Sorted.{IsPermutation-map, IsPermutation-sym, sum_by-IsPermutation}
use Rattle.sqlite_tied.specs.Compute.{everything}
use Rattle.sqlite_value.specs.declared.value.Value.TheVariants.{Text}
use Rattle.sqlite_value.specs.Order.{Row, column}
use Rattle.sqlite_value.specs.Keys.{first_key}
use Rattle.sqlite_trees.proofs.ListLemmas.{map-map}
use Rattle.sqlite_sql.specs.Term.{Term, col}
use Rattle.sqlite_rules.proofs.ProbeLemmas.{has_mapped}
use Rattle.sqlite.specs.Effect.{Database}
use Rattle.sqlite.specs.Listing.{understood}
use Rattle.account_rules.specs.Limits.{most_units}
use Rattle.account_state.specs.Sums.{pages_by}
use Rattle.account_state.proofs.Bounds.{granted_bound}
use Rattle.rows_tables.specs.Places.{grants_tree, grant_column, account_places}
use Rattle.rows_tables.specs.Tables.{room_schema, grants}
use Rattle.rows_tables.specs.Keyed.{HasSchema, rows_under}
use Rattle.rows_tables.specs.Queries.{Means, TakesParams, of_table, is_given, shown_of}
use Rattle.rows_tables.specs.Cells.{grant_cells}
use Rattle.rows_tables.specs.Accounts.{IsSound}
use Rattle.rows_statements.specs.Totals.{granted_cells, TellsGrant, gathers_grant, refuses_grant}
use Rattle.rows_statements.specs.SoundRows.{grant_rows, CanBeAdded}
use Rattle.rows_statements.specs.Walks.{GathersAll, WalksAll, RefusesOne}
use Rattle.rows_statements.specs.declared.grants.Granted.{Granted}
use Rattle.rows_statements.proofs.AccountRows.{rows_of_grants, no_grants}
use Rattle.rows_tables.proofs.Queries.{permuted_has}
use Rattle.rows_tables.proofs.ReadBackLemmas.{integer_in, natural_in}
use Rattle.rows_statements.proofs.RowTotals.{of_their_cells, sum_mapped, refused_there, refused_within}

abbrev pub granted_text : List ℕ
granted_text = codes "SELECT month, pages FROM grants WHERE account = ?1"

abbrev pub granted_tests : List Term
granted_tests = is_given grant_column.account 1 ∷ []

abbrev pub granted_shows : List Term
granted_shows = col 1 grant_column.month ∷ col 1 grant_column.pages ∷ []

abbrev pub granted_names : List (List ℕ)
granted_names = codes "month" ∷ codes "pages" ∷ []

pub granted_is : Means room_schema granted_text (of_table grants_tree granted_tests granted_shows []) granted_names 1
unfolding understood everything
granted_is = record { is = refl; lists_nothing = refl; is_plain = (refl, refl); takes = refl; is_whole = refl }

pub granted_takes : (name : List ℕ) → TakesParams room_schema (of_table grants_tree granted_tests granted_shows []) (Text name ∷ []) 1
granted_takes name = record { given = refl; typed = refl }

cells_granted : (r : Row) → column r grant_column.month ∷ column r grant_column.pages ∷ [] ≡ granted_cells (drop 1 r)
cells_granted [] = refl
cells_granted (v ∷ r) = refl

-- the rows that pass the test of the text are those of the account
pub grants_shown : (name : List ℕ) (db : Database) → shown_of grants_tree granted_tests granted_shows (Text name ∷ []) db.trees ≡ map granted_cells (rows_under grants account_places (Text name ∷ []) db)
unfolding first_key
grants_shown name db = of_their_cells (λ r. column r grant_column.month ∷ column r grant_column.pages ∷ []) granted_cells cells_granted _

-- ---- what the rows tell

abbrev pages_on : ℕ → Row → ℕ
pages_on now row = pages_by now (natural_in (integer_in (column row 0)), natural_in (integer_in (column row 1)))

pages_told : (now : ℕ) (row : Row) (month pages : ℕ) → TellsGrant row month pages → pages_on now row ≡ pages_by now (month, pages)
pages_told now row month pages told = λ i. pages_by now (natural_in (integer_in (told.month i)), natural_in (integer_in (told.pages i)))

abbrev pub refuses_it : Granted → Row → Type 0
refuses_it first row = refuses_grant first.month first.pages row

record Adds (first : Granted) (rows : List Row) (last : Granted) : Type 0 where
  month : last.month ≡ first.month
  pages : last.pages ≡ first.pages + sum_by (pages_on first.month) rows

adds_up : (first last : Granted) (rows : List Row) → GathersAll gathers_grant first rows last → Adds first rows last
adds_up first last [] same = record { month = ap (λ (g : Granted). g.month) (sym same); pages = omega (arith, ap (λ (g : Granted). g.pages) same) }
adds_up first last (r ∷ rows) (next, step, more) =
    let rest = adds_up next last rows more in
    let added = step.1 in
    let one = pages_told first.month r added.month added.pages added.told in
    let others : sum_by (pages_on next.month) rows ≡ sum_by (pages_on first.month) rows = ap (λ now. sum_by (pages_on now) rows) step.0 in
    record { month = rest.month ∙ step.0; pages = omega (arith, rest.pages, others, added.added, one, sum_by-cons (pages_on first.month) r rows) }

-- whatever the rows, the sum stays within its bound
pub pages_within : (first last : Granted) (rows : List Row) → GathersAll gathers_grant first rows last → first.pages ≤ most_units → last.pages ≤ most_units
pages_within first last [] same within = subst (λ (g : Granted). g.pages ≤ most_units) same within
pages_within first last (r ∷ rows) (next, step, more) within = pages_within next last rows more (step.1.within within)

-- ---- the rows of a room

abbrev told_of : List ℕ → ℕ × ℕ → Row
told_of name grant = granted_cells (grant_cells name grant.0 grant.1)

module _ (db : Database) (has : HasSchema db) (name : List ℕ) (month : ℕ) where
  abbrev shown : List Row
  shown = map granted_cells (grant_rows db name)

  abbrev first : Granted
  first = record { month = month; pages = 0 }

  -- where they are those of some grants
  module _ (granted : List (ℕ × ℕ)) (theirs : IsPermutation (grant_rows db name) (map (λ grant. grant_cells name grant.0 grant.1) granted)) where
    shown_told : IsPermutation shown (map (told_of name) granted)
    shown_told = subst (IsPermutation shown) (map-map granted_cells (λ (grant : ℕ × ℕ). grant_cells name grant.0 grant.1) granted)
        (IsPermutation-map granted_cells (grant_rows db name) (map (λ (grant : ℕ × ℕ). grant_cells name grant.0 grant.1) granted) theirs)

    sum_told : sum_by (pages_on month) shown ≡ sum_by (pages_by month) granted
    sum_told = sym (sum_by-IsPermutation (pages_on month) shown (map (told_of name) granted) shown_told) ∙ sum_mapped (told_of name) (pages_on month) granted

    pub pages_granted : (last : Granted) → WalksAll gathers_grant refuses_it shown first last → last.pages ≡ sum_by (pages_by month) granted
    pages_granted last (given, same, gathered) = omega (arith, (adds_up first last given gathered).pages, sum_by-IsPermutation (pages_on month) shown given same, sum_told)

    -- a grant of them is never refused where they come to no more than grants can
    none_refused : sum_by (pages_by month) granted ≤ most_units → RefusesOne gathers_grant refuses_it shown first → ⊥
    none_refused bounds it =
        let there = permuted_has (map (told_of name) granted) shown it.row (IsPermutation-sym _ _ shown_told) (refused_there gathers_grant refuses_it shown first it) in
        let here = has_mapped (told_of name) granted it.row there in
        let told : TellsGrant it.row here.0.0 here.0.1 = record { month = ap (λ r. column r 0) here.2; pages = ap (λ r. column r 1) here.2 } in
        let adds = adds_up first it.so_far it.given it.gathered in
        let one = pages_told month it.row here.0.0 here.0.1 told in
        let over : most_units < it.so_far.pages + pages_by month (here.0.0, here.0.1) =
        subst (λ now. most_units < it.so_far.pages + pages_by now (here.0.0, here.0.1)) adds.month (it.refused here.0.0 here.0.1 told) in
        omega (arith, over, one, adds.pages, refused_within gathers_grant refuses_it shown first it (pages_on month), sum_told, bounds)

  pub grants_unsound : RefusesOne gathers_grant refuses_it shown first → CanBeAdded name month (grant_rows db name) → ⊥
  grants_unsound it can = none_refused can.granted can.are_theirs can.in_bounds it

  pub grants_added : IsSound db name → CanBeAdded name month (grant_rows db name)
  grants_added (None, held) = record { granted = []; are_theirs = no_grants db has name held; in_bounds = omega arith }
  grants_added (Some room, held) = record { granted = entries room.grants; are_theirs = rows_of_grants db has name room held; in_bounds = granted_bound room month held.is_room }
