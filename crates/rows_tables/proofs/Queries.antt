-- What a query on one table answers.
use Rattle.std.proofs.Common.{◌≡◌, ◌≢◌, ℕ, Bool, true, IsSorted, Option, IsSome, cond, List, [], ◌∷◌, map, filter, length, append-nil, subst₂, nat_le, ◌^◌, negsuc, Less, None, Some, Ok, Err, refl, sym, ap, subst, ◌∙◌, inl, inr}
use Rattle.std.specs.List.{flat_map}
use Rattle.std.specs.List.Sorted.{IsPermutation}
use Rattle.std.proofs.lemmas.Bool.{cases_Bool, leb-true, true≢false}
use Rattle.std.proofs.lemmas.List.Sorted.{IsPermutation-map, IsPermutation-sym, IsPermutation-trans, length_permutation}
use Rattle.std.proofs.lemmas.List.{nil_from_length}
use Rattle.sqlite_value.specs.declared.keys.Key.{Key}
use Rattle.sqlite_value.specs.declared.keys.Collation.{Collation}
use Rattle.sqlite_value.specs.declared.value.Value.TheVariants.{Null, Int}
use Rattle.sqlite_value.specs.Order.{Row}
use Rattle.sqlite_trees.specs.Tree.{Trees, rowid, IsAscending}
use Rattle.sqlite_trees.specs.declared.error.StoreError.{StoreError}
use Rattle.sqlite_trees.specs.declared.error.StoreError.TheVariants.{OutOfMemory, Io, Corrupt, Full, Broken, Unstorable}
use Rattle.sqlite_trees.proofs.ListLemmas.{all-permutation}
use Rattle.sqlite_sql.specs.Term.{Term, Env, lit}
use Rattle.sqlite_sql.specs.Query.{Query, Output, output, output_cmp, page}
use Rattle.sqlite_sql.specs.Program.{overlay}
use Rattle.sqlite_sql.proofs.QueryLemmas.{no_fold_overflows, output_cmp_total}
use Rattle.sqlite_schema.specs.declared.command.Returning.{Returning}
use Rattle.sqlite_schema.specs.declared.schema.Schema.{Schema}
use Rattle.sqlite_schema.specs.declared.command.Command.TheVariants.{Select}
use Rattle.sqlite_keyed.proofs.SortLemmas.{sorted_unique}
use Rattle.sqlite_typing.specs.Types.{accepts_program}
use Rattle.sqlite_rules.specs.Lists.{Has}
use Rattle.sqlite_rules.proofs.ListLemmas.{all_has, all_from, has_filtered, has_kept}
use Rattle.sqlite_rules.proofs.ProbeLemmas.{has_mapped, mapped_has}
use Rattle.sqlite.specs.declared.error.Error.{Error}
use Rattle.sqlite.specs.declared.error.Error.TheVariants.{QueryReturnedNoRows}
use Rattle.sqlite.specs.Effect.{RefusesToRead}
use Rattle.sqlite.specs.Listing.{understood, reads_listing, IsSourceOf}
use Rattle.sqlite.specs.State.{State, HasCleanDisk, Survives, CommitsShowing, Shown, QueriesRow, IsUnchanged, IsNoStatement, IsNotRun, FailsToQuery, FailsToShow, store_error}
use Rattle.sqlite.proofs.Callers.{IsPlain, reads_as, first_as}
use Rattle.rows_tables.specs.Queries.{first_of_table, of_table, query_in, tail_of, parameters_of, HasNoSums, Means, TakesParams, IsShownBy, passes, shows_of, shown_of, FailsToRead, FindsRow}
use Rattle.rows_tables.specs.Calls.{LeavesNoMore}
use Rattle.rows_tables.proofs.Edits.{AreFound}

-- ---- the answer is the passing rows, in some order

maps_twice : {X Y Z : Type 0} (g : Y → Z) (f : X → Y) (xs : List X) → map g (map f xs) ≡ map (λ x. g (f x)) xs
maps_twice g f [] = refl
maps_twice g f (x ∷ xs) = ap (λ more. g (f x) ∷ more) (maps_twice g f xs)

each_or_none : {X Y : Type 0} (p : X → Bool) (f : X → Y) (xs : List X) → flat_map (λ x. cond (p x) (f x ∷ []) []) xs ≡ map f (filter p xs)
each_or_none p f [] = refl
each_or_none p f (x ∷ xs) = elim (cases_Bool (p x)) [
  | inl is ↦ rw (is, each_or_none p f xs) refl
  | inr isnt ↦ rw (isnt, each_or_none p f xs) refl
]

nothing_laid_over : (trees : Trees) (tree : ℕ) → overlay trees [] tree ≡ trees tree
nothing_laid_over trees tree = elim (cases_Bool (nat_le (2 ^ 31) tree)) [ inl is ↦ rw is refl | inr isnt ↦ rw isnt refl ]

pub permuted_has : {X : Type 0} (xs ys : List X) (x : X) → IsPermutation xs ys → Has ys x → Has xs x
permuted_has xs ys x same = all_has (Has xs) ys x (all-permutation (Has xs) xs ys same (all_from (Has xs) xs (λ e h. h)))

abbrev pub env : Row → Row → Env
env params row = params ∷ row ∷ []

module _ (tree : ℕ) (tests shows : List Term) (order : List (Term × Key)) where
  abbrev passing : Row → Trees → List Row
  passing params trees = filter (passes tests params) (trees tree)

  -- whatever the collations, which a query goes by where it shows each row once
  abbrev first_collated : List Collation → Term → Query
  first_collated collations limit = record (first_of_table tree tests shows order limit) { collations = collations }

  abbrev pub collated : List Collation → Query
  collated collations = first_collated collations (lit (Int (negsuc 0)))

  -- each row that passes, with what it is sorted by
  kept_is : (collations : List Collation) (limit : Term) (trees : Trees) (params : Row) (rows : List Row) (answer : IsShownBy (first_collated collations limit) trees params rows)
      → answer.kept ≡ map (λ row. output (first_collated collations limit) (env params row)) (passing params trees)
  kept_is collations limit trees params rows answer =
      let query = first_collated collations limit in
      let staged : answer.staged ≡ map (env params) (passing params trees) =
      answer.grouped ∙ each_or_none (passes tests params) (env params) (overlay trees [] tree) ∙ ap (λ all. map (env params) (filter (passes tests params) all)) (nothing_laid_over trees tree) in
      answer.distinct ∙ ap (map (output query)) staged ∙ maps_twice (output query) (env params) (passing params trees)

  pub answer_collated : (collations : List Collation) (trees : Trees) (params : Row) (rows : List Row) → IsShownBy (collated collations) trees params rows → IsPermutation (shown_of tree tests shows params trees) rows
  answer_collated collations trees params rows answer =
      let query = collated collations in
      let kept = kept_is collations (lit (Int (negsuc 0))) trees params rows answer in
      let shown : map (λ (o : Output). o.1) answer.kept ≡ map (shows_of shows params) (passing params trees) = ap (map (λ (o : Output). o.1)) kept ∙ maps_twice (λ (o : Output). o.1) (λ row. output query (env params row)) (passing params trees) in
      subst₂ (λ a b. IsPermutation a b) shown (sym answer.shown) (IsPermutation-map (λ (o : Output). o.1) answer.kept answer.ordered answer.same)

  pub answer_is : (trees : Trees) (params : Row) (rows : List Row) → IsShownBy (of_table tree tests shows order) trees params rows → IsPermutation (shown_of tree tests shows params trees) rows
  answer_is = answer_collated []

  -- they are put in an order that the query allows, and the first so many are shown
  pub answer_ordered : (limit : Term) (trees : Trees) (params : Row) (rows : List Row) → IsShownBy (first_of_table tree tests shows order limit) trees params rows
      → (all : List Output) × IsPermutation (map (λ row. output (first_of_table tree tests shows order limit) (env params row)) (passing params trees)) all × IsSorted (output_cmp (first_of_table tree tests shows order limit)) all
      × (rows ≡ page (first_of_table tree tests shows order limit) params (map (λ (o : Output). o.1) all))
  answer_ordered limit trees params rows answer = (answer.ordered, subst (λ l. IsPermutation l answer.ordered) (kept_is [] limit trees params rows answer) answer.same, answer.sorted, answer.shown)

  -- where one order of them has no ties, it is the one
  pub answer_in_order : (limit : Term) (trees : Trees) (params : Row) (rows : List Row) → IsShownBy (first_of_table tree tests shows order limit) trees params rows
      → (all : List Output) → IsPermutation (map (λ row. output (first_of_table tree tests shows order limit) (env params row)) (passing params trees)) all
      → IsAscending (λ a b. output_cmp (first_of_table tree tests shows order limit) a b ≡ Less) all
      → rows ≡ page (first_of_table tree tests shows order limit) params (map (λ (o : Output). o.1) all)
  answer_in_order limit trees params rows answer all same up =
      let query = first_of_table tree tests shows order limit in
      let kept = kept_is [] limit trees params rows answer in
      let permuted : IsPermutation all answer.ordered = IsPermutation-trans _ _ _ (IsPermutation-sym _ _ same) (subst (λ l. IsPermutation l answer.ordered) kept answer.same) in
      answer.shown ∙ ap (λ (l : List Output). page query params (map (λ (o : Output). o.1) l)) (sorted_unique (output_cmp query) (output_cmp_total query) all answer.ordered up permuted answer.sorted)

-- each row that is found is shown of one that passes
pub finds_shown : (passes : Row → Bool) (shows : Row → Row) (rows found : List Row) → IsPermutation (map shows (filter passes rows)) found
    → (x : Row) → Has found x → (r : Row) × Has rows r × (passes r ≡ true) × (x ≡ shows r)
finds_shown passes shows rows found same x h =
    let r = has_mapped shows (filter passes rows) x (permuted_has (map shows (filter passes rows)) found x same h) in
    let there = has_filtered passes rows r.0 r.1 in
    (r.0, there.0, there.1, r.2)

-- where each shows its row number first, the rows that pass are found by it
pub finds_numbers : (passes : Row → Bool) (shows : Row → Row) (rows found : List Row) → ((r : Row) → rowid (shows r) ≡ rowid r) → IsPermutation (map shows (filter passes rows)) found → AreFound passes rows found
finds_numbers passes shows rows found first same = record {
  sound = λ x h. let r = finds_shown passes shows rows found same x h in (r.0, r.1, r.2, ap rowid r.3 ∙ first r.0);
  complete = λ r h is. (shows r, permuted_has found (map shows (filter passes rows)) (shows r) (IsPermutation-sym _ _ same) (mapped_has shows (filter passes rows) r (has_kept passes rows r h is)), first r);
}

-- ---- what a text shows on a connection

pub no_cause : (cause : StoreError) → QueryReturnedNoRows ≡ store_error cause → ⊥
no_cause OutOfMemory h = let e = h in cc
no_cause Io h = let e = h in cc
no_cause Corrupt h = let e = h in cc
no_cause Full h = let e = h in cc
no_cause Broken h = let e = h in cc
no_cause Unstorable h = let e = h in cc

-- that there is no row is no failure
never_none : (old new : State) → FailsToRead old new QueryReturnedNoRows → ⊥
never_none old new (inl fails) = no_cause fails.0 fails.1
never_none old new (inr stopped) = let e = stopped.0 in cc

empty_map : {X Y : Type 0} (f : X → Y) (xs : List X) → IsPermutation (map f xs) [] → map f xs ≡ []
empty_map f xs same = nil_from_length _ (sym (length_permutation _ _ same))

-- of whatever query the text is
module _ (old new : State) (schema : Schema) (has : old.now.schema ≡ schema) (text : List ℕ) (query : Query) (names : List (List ℕ)) (parameters : ℕ)
    (means : Means schema text query names parameters) (params : Row) where
  pub answered : (rows : List Row) → Shown text params old new rows → IsShownBy query old.now.trees params rows
  answered rows h = (reads_as text params old new schema has _ means.is means.is_plain means.lists_nothing rows h).answer Null

  runs : (error : Error) → length params ≡ parameters → IsNoStatement old text params error → ⊥
  runs error given (inl fault) = let e = ap query_in (sym fault.1 ∙ ap (λ s. understood s text) has) ∙ means.is in cc
  runs error given (inr h) =
      let known = sym h.1 ∙ ap (λ s. understood s text) has in
      let bare = subst IsPlain (sym known) means.is_plain in
      elim h.2 [
        | inl more ↦ more.0 (leb-true _ _ (subst (λ r. nat_le (length text) (tail_of r) ≡ true) (sym known) means.is_whole))
        | inr (inl wrong) ↦ wrong.0 (given ∙ sym (subst (λ r. parameters_of r ≡ parameters) (sym known) means.takes))
        | inr (inr timed) ↦ timed.0 bare.1
      ]

  pub fails : HasNoSums query → TakesParams schema query params parameters → (error : Error) → FailsToQuery text params old new error → FailsToRead old new error
  unfolding FailsToQuery IsNotRun
  fails no_sums takes error (inl (inl refused)) = absurd (runs error takes.given refused.0)
  fails no_sums takes error (inl (inr failed)) = inl failed
  fails no_sums takes error (inr h) =
      let known = sym h.1.is ∙ ap (λ s. understood s text) has in
      let bare = subst IsPlain (sym known) means.is_plain in
      let told : FailsToShow old new text h.0 params error None = rw (bare.0, bare.1, append-nil params) at h.2 in
      let source : told.0 ≡ old.now = subst (λ b. IsSourceOf b old.now told.0) (ap (λ s. reads_listing s text) has ∙ means.lists_nothing) told.1 in
      let why : RefusesToRead old.step_limit (Select (record { lets = []; body = query }) names) old.now params error =
      subst₂ (λ command db. RefusesToRead old.step_limit command db params error) (ap query_in known ∙ means.is) source told.2 in
      elim why [
        | inl untyped ↦ absurd (true≢false (sym (ap (λ s. accepts_program s [] query params) has ∙ takes.typed) ∙ untyped.1))
        | inr (inl (error_is, inl none)) ↦ absurd (rw no_sums.ungrouped at none)
        | inr (inl (error_is, inr folds)) ↦ absurd (no_fold_overflows (overlay old.now.trees []) query.from (params ∷ []) no_sums.unfolded folds)
        | inr (inr stopped) ↦ inr (stopped.0, stopped.1, told.3)
      ]

  -- it writes nothing that a crash could leave
  commits_nothing : (found : Trees) → CommitsShowing text params old found → ⊥
  unfolding CommitsShowing
  commits_nothing found (compiled, is, returns, rest) =
      let known = sym is.is ∙ ap (λ s. understood s text) has in
      let bare = subst IsPlain (sym known) means.is_plain in
      let some = subst (λ (o : Option Returning). IsSome o) bare.0 returns in
      let no : ⊥ = cc in absurd no

  pub leaves_no_more : Survives old new (CommitsShowing text params old) → HasCleanDisk new → LeavesNoMore old new
  leaves_no_more survives clean found may = elim (survives.crash clean found may) [ inl before ↦ before | inr commits ↦ absurd (commits_nothing found commits) ]

module _ (old new : State) (schema : Schema) (has : old.now.schema ≡ schema) (text : List ℕ) (tree : ℕ) (tests shows : List Term) (names : List (List ℕ)) (parameters : ℕ)
    (means : Means schema text (of_table tree tests shows []) names parameters) (params : Row) (crash : LeavesNoMore old new) where
  abbrev query : Query
  query = of_table tree tests shows []

  shown_all : (rows : List Row) → Shown text params old new rows → IsPermutation (shown_of tree tests shows params old.now.trees) rows
  shown_all rows h = answer_is tree tests shows [] old.now.trees params rows (answered old new schema has text query names parameters means params rows h)

  unchanged : (rows : List Row) → Shown text params old new rows → IsUnchanged old new
  unfolding Shown
  unchanged rows h =
      let known = sym h.1.is ∙ ap (λ s. understood s text) has in
      let bare = subst IsPlain (sym known) means.is_plain in
      (rw bare.0 at h.2).3

  pub finds_some : (row : Row) → QueriesRow text params old new (Ok row) → FindsRow old new tree tests shows params (Ok (Some row))
  unfolding QueriesRow
  finds_some row h =
      let start = (first_as text params old new schema has _ means.is means.is_plain means.lists_nothing row h).1 in
      record {
        found = (start.0, answer_is tree tests shows [] old.now.trees params (row ∷ start.0) (start.1 Null));
        same = elim h [ inl begun ↦ begun.1 | inr all ↦ unchanged all.0 all.1 ];
        failed = tt;
        crash = crash;
      }

  pub finds_no_row : TakesParams schema (of_table tree tests shows []) params parameters → QueriesRow text params old new (Err QueryReturnedNoRows) → FindsRow old new tree tests shows params (Ok None)
  unfolding QueriesRow
  finds_no_row takes (inl h) = absurd (never_none old new (fails old new schema has text query names parameters means params (record { ungrouped = refl; unfolded = refl }) takes QueryReturnedNoRows h))
  finds_no_row takes (inr h) = record { found = empty_map _ _ (shown_all [] h.1); same = unchanged [] h.1; failed = tt; crash = crash }

  pub fails_to_find : TakesParams schema (of_table tree tests shows []) params parameters → (error : Error) → error ≢ QueryReturnedNoRows → QueriesRow text params old new (Err error)
      → FindsRow old new tree tests shows params (Err error)
  unfolding QueriesRow
  fails_to_find takes error other (inl h) = record { found = tt; same = tt; failed = fails old new schema has text query names parameters means params (record { ungrouped = refl; unfolded = refl }) takes error h; crash = crash }
  fails_to_find takes error other (inr h) = absurd (other h.0)
