-- The walk over the table `device`: what its text means, and what it comes to.
use Rattle.std.proofs.Common.{◌≡◌, ℕ, Bool, true, false, ◌||◌, List, [], ◌∷◌, ◌++◌, map, filter, drop, codes, Option, Some, None, option_map, IsPermutation, refl, sym, ap, ◌∙◌, ◌⊎◌, inl, inr, IsTrue, ◌↔◌}
use Rattle.std.specs.Prelude.{⊤}
use Rattle.std.proofs.lemmas.Bool.{cases_Bool, true≢false}
use Rattle.std.proofs.lemmas.List.Sorted.{IsPermutation-sym}
use Rattle.std.specs.FinMap.{get}
use Rattle.sqlite_tied.specs.Compute.{everything}
use Rattle.sqlite_value.specs.declared.value.Value.TheVariants.{Text}
use Rattle.sqlite_value.specs.Order.{Row, column}
use Rattle.sqlite_sql.specs.Term.{Term, col}
use Rattle.sqlite_rules.specs.Lists.{Has}
use Rattle.sqlite_rules.proofs.ProbeLemmas.{has_mapped, mapped_has}
use Rattle.sqlite.specs.Effect.{Database}
use Rattle.sqlite.specs.Listing.{understood}
use Rattle.account_rules.specs.declared.device.Device.{Device}
use Rattle.rows_tables.specs.Places.{device_tree, device_column, cell}
use Rattle.rows_tables.specs.Tables.{room_schema}
use Rattle.rows_tables.specs.Keyed.{HasSchema}
use Rattle.rows_tables.specs.Queries.{Means, TakesParams, of_table, passes, shows_of}
use Rattle.rows_tables.specs.Cells.{flag, on_cells, device_cells}
use Rattle.rows_tables.specs.Devices.{device_at, AreSoundDevices}
use Rattle.rows_statements.specs.Totals.{GathersOn, refuses_flag}
use Rattle.rows_statements.specs.SoundRows.{AreRowsOf, device_rows}
use Rattle.rows_statements.specs.Walks.{GathersAll, WalksAll, RefusesOne}
use Rattle.rows_tables.proofs.KeyedRows.{same_row, text_at}
use Rattle.rows_tables.proofs.Queries.{permuted_has}
use Rattle.rows_tables.proofs.ReadBackLemmas.{flag_back}
use Rattle.rows_tables.proofs.Reading.{without_number}
use Rattle.rows_statements.proofs.WalkLemmas.{refused_there}
use Rattle.rows_tables.proofs.KeyedTables.{device_in, device_key}
use Rattle.rows_tables.proofs.RowsUnder.{row_under, under_row}
use Rattle.rows_statements.proofs.NamedValues.{value_found}

abbrev pub walk_text : List ℕ
walk_text = codes "SELECT accepting FROM device"

abbrev pub walk_shows : List Term
walk_shows = col 1 device_column.accepting ∷ []

abbrev pub walk_names : List (List ℕ)
walk_names = codes "accepting" ∷ []

pub walk_is : Means room_schema walk_text (of_table device_tree [] walk_shows []) walk_names 0
unfolding understood everything
walk_is = record { is = refl; lists_nothing = refl; is_plain = (refl, refl); takes = refl; is_whole = refl }

pub walk_takes : TakesParams room_schema (of_table device_tree [] walk_shows []) [] 0
walk_takes = record { given = refl; typed = refl }

abbrev pub second : Row → Row
second row = column row 2 ∷ []

pub all_shown : (rows : List Row) → map (shows_of walk_shows []) (filter (passes [] []) rows) ≡ map second rows
all_shown [] = refl
all_shown (r ∷ rows) = ap (λ more. second r ∷ more) (all_shown rows)

-- ---- flags, one after another

module _ {G : Type 0} (on : G → Bool) where
  abbrev step : G → Row → G → Type 0
  step first row last = GathersOn (on first) row (on last)

  stays_on : (first last : G) (rows : List Row) → GathersAll step first rows last → on first ≡ true → on last ≡ true
  stays_on first last [] same is = ap on (sym same) ∙ is
  stays_on first last (r ∷ rows) (next, told, more) is = stays_on next last rows more (told.added ∙ rw is refl)

  came_on : (first last : G) (rows : List Row) → GathersAll step first rows last → on last ≡ true → (on first ≡ true) ⊎ ((row : Row) × Has rows row × (column row 0 ≡ flag true))
  came_on first last [] same is = inl (ap on same ∙ is)
  came_on first last (r ∷ rows) (next, told, more) is = elim (came_on next last rows more is) [
    | inl before ↦ elim (cases_Bool told.accepting) [
      | inl accepts ↦ inr (r, inl refl, told.told ∙ ap flag accepts)
      | inr not ↦ elim (cases_Bool (on first)) [
        | inl here ↦ inl here
        | inr off ↦ absurd (true≢false (sym before ∙ told.added ∙ rw (off, not) refl))
      ]
    ]
    | inr later ↦ inr (later.0, inr later.1, later.2)
  ]

  none_on : (first last : G) (rows : List Row) → GathersAll step first rows last → on last ≡ false → (row : Row) → Has rows row → column row 0 ≡ flag true → ⊥
  none_on first last [] same off row there is = there
  none_on first last (r ∷ rows) (next, told, more) off row (inl same) is =
      let accepts : told.accepting ≡ true = flag_back told.accepting true (sym told.told ∙ ap (λ x. column x 0) (sym same) ∙ is) in
      let here : on next ≡ true = told.added ∙ ap (λ b. on first || b) accepts ∙ or_true (on first) in
      true≢false (sym (stays_on next last rows more here) ∙ off)
    where
      or_true : (b : Bool) → (b || true) ≡ true
      or_true true = refl
      or_true false = refl
  none_on first last (r ∷ rows) (next, told, more) off row (inr later) is = none_on next last rows more off row later is

-- ---- the rows of the table

module _ (db : Database) (has : HasSchema db) where
  -- each row is that of a name
  device_row : (r : Row) → Has (db.trees device_tree) r → (name : List ℕ) × (device_at db name ≡ Some (drop 1 r))
  device_row r k = row_under [] Text device_in device_key tt (λ t. refl) db has (λ r there. text_at device_in db has r there 0 (codes "name") refl) r k refl

  module _ {G : Type 0} (on : G → Bool) (first last : G) (off : on first ≡ false) (walked : WalksAll (λ a row b. GathersOn (on a) row (on b)) (λ a row. refuses_flag row) (map second (db.trees device_tree)) first last) where
    is_on : on last ≡ true → (name : List ℕ) × (device_at db name ≡ Some (on_cells name true))
    is_on is = elim (came_on on first last walked.0 walked.2 is) [
      | inl before ↦ absurd (true≢false (sym before ∙ off))
      | inr some ↦
          let r = has_mapped second (db.trees device_tree) some.0 (permuted_has (map second (db.trees device_tree)) walked.0 some.0 walked.1 some.1) in
          let it = device_row r.0 r.1 in
          let told : column r.0 2 ≡ flag true = ap (λ x. column x 0) (sym r.2) ∙ some.2 in
          (it.0, value_found device_in db has it.0 (column (drop 1 r.0) 1 ∷ []) (sym (ap (option_map (λ cells. cell device_column.accepting cells ∷ [])) it.1)) (flag true) (without_number r.0 1 ∙ told))
    ]

    has_on : (name : List ℕ) × (device_at db name ≡ Some (on_cells name true)) → on last ≡ true
    has_on (name, at) = elim (cases_Bool (on last)) [
      | inl is ↦ is
      | inr not ↦
          let r = under_row [] Text device_in device_key tt (λ t. refl) db has name (on_cells name true) at in
          let told : column r.row 2 ≡ flag true = sym (without_number r.row 1) ∙ ap (λ l. column l 1) r.are_cells in
          let there = permuted_from walked.0 (map second (db.trees device_tree)) (second r.row) walked.1 (mapped_has second (db.trees device_tree) r.row r.there) in
          absurd (none_on on first last walked.0 walked.2 not (second r.row) there told)
    ]
      where
        permuted_from : (ys xs : List Row) (x : Row) → IsPermutation xs ys → Has xs x → Has ys x
        permuted_from ys xs x same h = permuted_has ys xs x (IsPermutation-sym _ _ same) h

    pub on_exactly : IsTrue (on last) ↔ ((name : List ℕ) × (device_at db name ≡ Some (on_cells name true)))
    on_exactly = (is_on, has_on)

  pub flags_unsound : {G : Type 0} (step : G → Row → G → Type 0) (first : G) → RefusesOne step (λ a row. refuses_flag row) (map second (db.trees device_tree)) first → AreRowsOf (λ (it : List ℕ × Bool). on_cells it.0 it.1) (λ _. ⊤) (device_rows db) → ⊥
  flags_unsound step first it rows =
      let there = permuted_has (map second (db.trees device_tree)) ((it.given ++ it.row ∷ []) ++ it.more) it.row it.are_shown (refused_there it.given it.row it.more) in
      let r = has_mapped second (db.trees device_tree) it.row there in
      let told = rows (drop 1 r.0) (mapped_has (drop 1) (db.trees device_tree) r.0 r.1) in
      it.refused told.0.1 (ap (λ x. column x 0) r.2 ∙ sym (without_number r.0 1) ∙ ap (λ l. column l 1) told.2)

  pub devices_read : AreSoundDevices db → AreRowsOf (λ (it : List ℕ × Bool). on_cells it.0 it.1) (λ _. ⊤) (device_rows db)
  devices_read (devices, held) x h =
      let r = has_mapped (drop 1) (db.trees device_tree) x h in
      let named = device_row r.0 r.1 in
      of_device (get devices named.0) (ap Some r.2 ∙ sym named.1 ∙ held.device_rows named.0)
    where
      of_device : (o : Option Device) → Some x ≡ option_map device_cells o → (it : List ℕ × Bool) × ⊤ × (x ≡ on_cells it.0 it.1)
      of_device None e = absurd (let no = e in cc)
      of_device (Some d) e = ((d.name, d.on), tt, same_row e)
