-- What the statements leave that make the table `rates` beside the others, and give each device its rate.
use Rattle.std.proofs.Common.{◌≡◌, ◌≢◌, arith, ℕ, true, List, [], ◌∷◌, map, filter, drop, find, codes, Option, Some, None, option_map, Ok, refl, sym, ap, subst, ◌∙◌, inl, inr, IsPermutation}
use Rattle.std.specs.List.{AllByRecursion}
use Rattle.std.proofs.lemmas.Bool.{cases_Bool, and_parts}
use Rattle.std.proofs.lemmas.List.Sorted.{IsPermutation-sym}
use Rattle.sqlite_value.specs.declared.value.Value.TheVariants.{Null, Text}
use Rattle.sqlite_value.specs.Order.{Row, column}
use Rattle.sqlite_value.specs.Keys.{first_key}
use Rattle.sqlite_trees.specs.Tree.{Trees, rowid, put_row}
use Rattle.sqlite_trees.specs.View.{IsShaped}
use Rattle.sqlite_trees.specs.declared.store.Shape.TheVariants as shape
use Rattle.sqlite_sql.specs.Ops.{is_null}
use Rattle.sqlite_schema.specs.declared.schema.Constraint.TheVariants.{NotNull, Datatype}
use Rattle.sqlite_schema.specs.declared.schema.Kind.TheVariants as kind
use Rattle.sqlite_schema.specs.declared.command.Command.TheVariants.{Insert}
use Rattle.sqlite_schema.specs.declared.command.Source.TheVariants.{Query}
use Rattle.sqlite_schema.specs.Rules.{Fits}
use Rattle.sqlite_rules.specs.Cast.{cast_row}
use Rattle.sqlite_rules.specs.Lists.{Has}
use Rattle.sqlite_rules.specs.Edit.{edit_of, numbered, with_rowid}
use Rattle.sqlite_rules.specs.declared.error.Rowids.TheVariants.{Chosen}
use Rattle.sqlite_rules.proofs.ListLemmas.{has_found, all_has}
use Rattle.sqlite_rules.proofs.ProbeLemmas.{has_mapped, mapped_has}
use Rattle.sqlite_rules.proofs.RuleLemmas.{keeps_at}
use Rattle.sqlite.specs.Effect.{Database}
use Rattle.sqlite.specs.Does.{Does, Tally}
use Rattle.sqlite.specs.Rows.{Written}
use Rattle.sqlite.specs.Listing.{understood}
use Rattle.sqlite.specs.State.{State, Executes, mode_of}
use Rattle.sqlite.proofs.Callers.{statement_of, runs_as}
use Rattle.rows_tables.specs.Places.{device_tree, rates_tree}
use Rattle.rows_tables.specs.Tables.{first_schema, unindexed_schema, room_schema, column_of, device, rates}
use Rattle.rows_tables.specs.Keyed.{has_key}
use Rattle.rows_tables.specs.Queries.{passes, shows_of}
use Rattle.rows_tables.specs.Cells.{units_cells}
use Rattle.rows_tables.specs.Migrating.{AddsRates, RatesDevices}
use Rattle.rows_tables.proofs.MakingTexts.{rates_text, makes_rates, rated_schema_is}
use Rattle.rows_tables.proofs.Created.{adds}
use Rattle.rows_tables.proofs.Columns.{cells_are, no_null, text_is, text_there}
use Rattle.rows_tables.proofs.Edits.{AreNumbered, edit_from, edit_adds, edit_wrote}
use Rattle.rows_tables.proofs.Statements.{only_changes}
use Rattle.rows_tables.proofs.Finds.{finds_none, lacks}
use Rattle.rows_tables.proofs.Queries.{answer_collated, finds_shown, permuted_has}
use Rattle.rows_tables.proofs.Reading.{without_number}
use Rattle.rows_tables.proofs.StatementParts.{went, same_value}
use Rattle.rows_tables.proofs.RatingText.{rate_text, rate_shows, by_bytes, of_devices, rate_is, rate_plain, remade}

-- ---- the table is made

pub adds_rates : (old new : State) (count : ℕ) → Executes rates_text [] old new (Ok count) → old.now.schema ≡ first_schema → AddsRates unindexed_schema old.now new.now
adds_rates old new count h was =
    let it = adds first_schema rates_text rates makes_rates old new count h was in
    record { schema_is = it.schema_is ∙ rated_schema_is; kept = it.kept; no_rate = it.no_row }

-- ---- a row that is put in has the cells that it was given

keeps_cells : (rows : List Row) (r : Row) → drop 1 (with_rowid Chosen rows r) ≡ drop 1 r
keeps_cells rows r = elim (cases_Bool (is_null (rowid r))) [ inl is ↦ rw is refl | inr not ↦ rw not refl ]

numbered_from : (rows given : List Row) (y : Row) → Has (numbered Chosen rows given) y → (r : Row) × Has given r × (drop 1 y ≡ drop 1 r)
numbered_from rows [] y h = absurd h
numbered_from rows (r ∷ given) y (inl same) = (r, inl refl, ap (drop 1) same ∙ keeps_cells rows r)
numbered_from rows (r ∷ given) y (inr later) = let it = numbered_from (put_row (with_rowid Chosen rows r) rows) given y later in (it.0, inr it.1, it.2)

numbered_has : (rows given : List Row) (r : Row) → Has given r → (y : Row) × Has (numbered Chosen rows given) y × (drop 1 y ≡ drop 1 r)
numbered_has rows [] r h = absurd h
numbered_has rows (q ∷ given) r (inl same) = (with_rowid Chosen rows q, inl refl, keeps_cells rows q ∙ ap (drop 1) (sym same))
numbered_has rows (q ∷ given) r (inr later) = let it = numbered_has (put_row (with_rowid Chosen rows q) rows) given r later in (it.0, inr it.1, it.2)

-- ---- each row of the table `device` has a name

listed : Has room_schema.tables device
listed = inr (inr (inr (inr (inr (inl refl)))))

name_in : (trees : Trees) → Fits room_schema trees → (x : Row) → Has (trees device_tree) x → (t : List ℕ) × (column x 1 ≡ Text t)
name_in trees fits x h =
    let present = keeps_at NotNull room_schema trees device x (fits.rules NotNull (λ e. absurd cc)) listed h in
    let typed = (and_parts _ _ (keeps_at Datatype room_schema trees device x (fits.rules Datatype (λ e. absurd cc)) listed h)).0 in
    let whole = cells_are device.columns 0 x (drop 1 x) (refl, (refl, tt)) refl typed present in
    text_there (column x 1) (and_parts _ _ (rw whole at typed)).0 (λ none. no_null 0 (column_of kind.Text (codes "name")) (column x 1) refl none (and_parts _ _ present).0)

-- ---- rates that are one for each device

abbrev rate_of : Row → Row → Type 0
rate_of x y = (t : List ℕ) × (column x 1 ≡ Text t) × (drop 1 y ≡ units_cells t 1)

-- each row of rates is that of a device, and each device has one
pub record AreRates (devices rows : List Row) : Type 0 where
  pub from : (y : Row) → Has rows y → (x : Row) × Has devices x × rate_of x y
  pub each : (x : Row) → Has devices x → (y : Row) × Has rows y × rate_of x y

rate_key : (y : Row) (t : List ℕ) → drop 1 y ≡ units_cells t 1 → column y 1 ≡ Text t
rate_key y t cells = sym (without_number y 0) ∙ ap (λ l. column l 0) cells

same_key : (x y : Row) (t name : List ℕ) → column x 1 ≡ Text t → column y 1 ≡ Text t → has_key rates (Text name ∷ []) y ≡ has_key device (Text name ∷ []) x
unfolding first_key
same_key x y t name p q = rw (p, q) refl

key_is : (y : Row) (t name : List ℕ) → column y 1 ≡ Text t → has_key rates (Text name ∷ []) y ≡ true → t ≡ name
unfolding first_key
key_is y t name e has = let same = text_is (Text t) name refl (and_parts _ _ (rw e at has)).0 in cc

module _ (devices rows : List Row) (are : AreRates devices rows) (name : List ℕ) where
  rates_none : find (has_key device (Text name ∷ [])) devices ≡ None → find (has_key rates (Text name ∷ [])) rows ≡ None
  rates_none none = finds_none (has_key rates (Text name ∷ [])) rows (λ y h.
      let it = are.from y h in
      same_key it.0 y it.2.0 name it.2.1 (rate_key y it.2.0 it.2.2) ∙ lacks (has_key device (Text name ∷ [])) devices it.0 it.1 none)

  rates_some : (x : Row) → Has devices x → has_key device (Text name ∷ []) x ≡ true → (o : Option Row) → find (has_key rates (Text name ∷ [])) rows ≡ o → option_map (drop 1) o ≡ Some (units_cells name 1)
  rates_some x h is None none =
      let it = are.each x h in
      absurd (let has = same_key x it.0 it.2.0 name it.2.1 (rate_key it.0 it.2.0 it.2.2) ∙ is in let lacking = lacks (has_key rates (Text name ∷ [])) rows it.0 it.1 none in cc)
  rates_some x h is (Some y) some =
      let found = has_found (has_key rates (Text name ∷ [])) rows y some in
      let it = are.from y found.0 in
      ap Some (it.2.2 ∙ ap (λ t. units_cells t 1) (key_is y it.2.0 name (rate_key y it.2.0 it.2.2) found.1))

  by_device : (o : Option Row) → find (has_key device (Text name ∷ [])) devices ≡ o
      → option_map (drop 1) (find (has_key rates (Text name ∷ [])) rows) ≡ option_map (λ row. units_cells name 1) (option_map (drop 1) o)
  by_device None none = ap (option_map (drop 1)) (rates_none none)
  by_device (Some x) some =
      let found = has_found (has_key device (Text name ∷ [])) devices x some in
      rates_some x found.0 found.1 (find (has_key rates (Text name ∷ [])) rows) refl

  pub rated_at : option_map (drop 1) (find (has_key rates (Text name ∷ [])) rows) ≡ option_map (λ row. units_cells name 1) (option_map (drop 1) (find (has_key device (Text name ∷ [])) devices))
  rated_at = by_device (find (has_key device (Text name ∷ [])) devices) refl

-- ---- the statement

apart : device.tree ≢ rates.tree
apart e = omega (arith, e)

pub rates_devices : (old new : State) (count : ℕ) → Executes rate_text [] old new (Ok count) → old.now.schema ≡ room_schema → old.now.trees rates_tree ≡ [] → RatesDevices old.now new.now
rates_devices old new count h was none =
    let db = old.now.trees in
    let command = Insert 6 (Query of_devices) in
    let ran = runs_as rate_text [] old new room_schema was command rate_is rate_plain count h in
    let statement = statement_of rate_text (understood room_schema rate_text) in
    let does = went (subst (λ s. Does old.step_limit (mode_of old) [] (record old.now { schema = s }) statement None command (Ok (ran.tally, new.now))) was ran.changed) in
    let now : new.now ≡ record { schema = room_schema; trees = does.0.trees } = ap (λ (p : Tally × Database). p.1) (same_value (went (went does.2).2).2) in
    let sourced = went does.1 in
    let written = went (went sourced.2).2 in
    let counted = went written.2 in
    let trees : new.now.trees ≡ written.0 = ap (λ (d : Database). d.trees) now ∙ ap (λ (it : Written). it.trees) (same_value counted.2) ∙ same_value counted.1 in
    let empty : AreNumbered (db rates_tree) = subst AreNumbered (sym none) (tt, tt) in
    let news = (edit_of db rates [] Chosen 0 sourced.0).news in
    let wrote = edit_wrote rates db written.0 [] news empty written.1 in
    let shown = answer_collated device_tree [] rate_shows [] by_bytes db [] sourced.0 (sourced.1.answer Null) in
    let schema_is : new.now.schema ≡ room_schema = ap (λ (d : Database). d.schema) now in
    let fits : Fits room_schema written.0 = wrote.fits in
    let devices : written.0 9 ≡ db 9 = all_has (λ t. t.tree ≢ 11 → written.0 t.tree ≡ db t.tree) room_schema.tables device wrote.others listed apart in
    let are : AreRates (written.0 9) (written.0 11) = record {
      from = λ y k. elim (edit_from rates db written.0 [] news empty written.1 y k) [
        | inl fresh ↦
            let r = numbered_from (db rates_tree) (map (λ s. cast_row rates s) sourced.0) y fresh in
            let s = has_mapped (λ s. cast_row rates s) sourced.0 r.0 r.1 in
            let x = finds_shown (passes [] []) (shows_of rate_shows []) (db device_tree) sourced.0 shown s.0 s.1 in
            let there = subst (λ l. Has l x.0) (sym devices) x.1 in
            let t = name_in written.0 fits x.0 there in
            (x.0, there, (t.0, t.1, r.2 ∙ ap (drop 1) s.2 ∙ ap (λ q. drop 1 (cast_row rates q)) x.3 ∙ remade x.0 t.0 t.1))
        | inr left ↦ absurd (subst (λ l. Has l y) none left)
      ];
      each = λ x k.
          let t = name_in written.0 fits x k in
          let given : Has sourced.0 (shows_of rate_shows [] x) = given_from db sourced.0 shown x (subst (λ l. Has l x) devices k) in
          let y = numbered_has (db rates_tree) (map (λ s. cast_row rates s) sourced.0) (cast_row rates (shows_of rate_shows [] x)) (mapped_has (λ s. cast_row rates s) sourced.0 (shows_of rate_shows [] x) given) in
          (y.0, edit_adds rates db written.0 [] news empty written.1 y.0 y.1, (t.0, t.1, y.2 ∙ remade x t.0 t.1));
    } in
    record {
      schema_is = schema_is;
      kept = only_changes rates old.now new.now (subst (λ (f : Trees). AllByRecursion (λ t. t.tree ≢ 11 → f t.tree ≡ db t.tree) room_schema.tables) (sym trees) wrote.others);
      rated = λ name. ap (λ (f : Trees). option_map (drop 1) (find (has_key rates (Text name ∷ [])) (f 11))) trees ∙ rated_at (written.0 9) (written.0 11) are name
          ∙ ap (λ (f : Trees). option_map (λ row. units_cells name 1) (option_map (drop 1) (find (has_key device (Text name ∷ [])) (f 9)))) (sym trees);
      numbered = subst (λ (f : Trees). IsShaped shape.Table (f 11)) (sym trees) wrote.numbered;
    }
  where
    all_filtered : (rows : List Row) (x : Row) → Has rows x → Has (filter (passes [] []) rows) x
    all_filtered [] x h = h
    all_filtered (r ∷ rows) x (inl same) = inl same
    all_filtered (r ∷ rows) x (inr later) = inr (all_filtered rows x later)

    given_from : (db : Trees) (found : List Row) → IsPermutation (map (shows_of rate_shows []) (filter (passes [] []) (db device_tree))) found → (x : Row) → Has (db device_tree) x → Has found (shows_of rate_shows [] x)
    given_from db found same x h =
        permuted_has found (map (shows_of rate_shows []) (filter (passes [] []) (db device_tree))) (shows_of rate_shows [] x) (IsPermutation-sym _ _ same)
        (mapped_has (shows_of rate_shows []) (filter (passes [] []) (db device_tree)) x (all_filtered (db device_tree) x h))
