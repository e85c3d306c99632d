-- The walk over the documents of a job: what its text means, and what it comes to.
use Rattle.std.proofs.Common.{◌≡◌, ℕ, zero, suc, ◌+◌, ◌-◌, ◌≤◌, ℤ, pos, negsuc, true, ◌&&◌, nat_le, is_some, List, [], ◌∷◌, ◌++◌, length, drop, filter, codes, get_or, slice_set, Option, Some, None, option_map, option_to_list, flat_map, refl, sym, ap, subst, ◌∙◌, ◌⊎◌, inl, inr, arith}
use Rattle.std.specs.FinMap.{get}
use Rattle.std.proofs.lemmas.Bool.{cases_eq, and_parts, true≢false}
use Rattle.std.proofs.lemmas.Bool.Decides.{nat_tests}
use Rattle.std.proofs.lemmas.List.{get_or-set_same, get_or-set_other, length-set}
use Rattle.std.proofs.lemmas.List.Sorted.{IsPermutation-sym}
use Rattle.sqlite_tied.specs.Compute.{everything}
use Rattle.sqlite_value.specs.declared.value.Value.TheVariants.{Int, Text}
use Rattle.sqlite_value.specs.Order.{Row, column}
use Rattle.sqlite_value.specs.Keys.{first_key}
use Rattle.sqlite_sql.specs.Term.{Term, col}
use Rattle.sqlite_rules.specs.Lists.{Has}
use Rattle.sqlite_rules.proofs.ListLemmas.{has_filtered, has_kept, has_left, has_right}
use Rattle.sqlite_rules.proofs.ProbeLemmas.{has_mapped, mapped_has}
use Rattle.sqlite.specs.Effect.{Database}
use Rattle.sqlite.specs.Listing.{understood}
use Rattle.account_rules.specs.JobStates.{is_unfinished}
use Rattle.account_rules.specs.declared.job.Document.{Document}
use Rattle.account_rules.specs.declared.job.Job.{Job}
use Rattle.account_state.specs.Documents.{documents_of}
use Rattle.account_state.specs.Rooms.{RoomValue}
use Rattle.account_state.specs.RoomRules.{has_document}
use Rattle.rows_tables.specs.Places.{document_tree, document_column}
use Rattle.rows_tables.specs.Tables.{room_schema}
use Rattle.rows_tables.specs.Keyed.{HasSchema}
use Rattle.rows_tables.specs.Queries.{Means, TakesParams, of_table, is_given, shown_of}
use Rattle.rows_tables.specs.Cells.{number, document_cells}
use Rattle.rows_tables.specs.Accounts.{document_at, under_pair, HoldsRoom, IsSound}
use Rattle.rows_statements.specs.Documents.{is_of_job, shown_documents, ShowsDocument, IsDocumentOf, GathersDocument, refuses_document}
use Rattle.rows_statements.specs.SoundRows.{AreRowsOf, document_rows}
use Rattle.rows_statements.specs.Walks.{GathersAll, WalksAll, RefusesOne}
use Rattle.rows_tables.proofs.KeyedRows.{same_row, integer_at}
use Rattle.rows_tables.proofs.Queries.{permuted_has}
use Rattle.rows_tables.proofs.ReadBackLemmas.{number_back, format_back, blob_back}
use Rattle.rows_tables.proofs.Reading.{without_number}
use Rattle.rows_tables.proofs.KeyedTables.{document_in, document_key}
use Rattle.rows_tables.proofs.RowsUnder.{row_under, under_row}

abbrev pub walk_text : List ℕ
walk_text = codes "SELECT number, format, bytes FROM document WHERE account = ?1 AND job = ?2"

abbrev pub walk_tests : List Term
walk_tests = is_given document_column.account 1 ∷ is_given document_column.job 2 ∷ []

abbrev pub walk_shows : List Term
walk_shows = col 1 document_column.number ∷ col 1 document_column.format ∷ col 1 document_column.bytes ∷ []

abbrev pub walk_names : List (List ℕ)
walk_names = codes "number" ∷ codes "format" ∷ codes "bytes" ∷ []

pub walk_is : Means room_schema walk_text (of_table document_tree walk_tests walk_shows []) walk_names 2
unfolding understood everything
walk_is = record { is = refl; lists_nothing = refl; is_plain = (refl, refl); takes = refl; is_whole = refl }

pub walk_takes : (name : List ℕ) (job : ℕ) → TakesParams room_schema (of_table document_tree walk_tests walk_shows []) (Text name ∷ number job ∷ []) 2
walk_takes name job = record { given = refl; typed = refl }

pub all_shown : (db : Database) (name : List ℕ) (job : ℕ) → shown_of document_tree walk_tests walk_shows (Text name ∷ number job ∷ []) db.trees ≡ shown_documents db name job
unfolding first_key
all_shown db name job = refl

-- ---- the rows of the table

abbrev behind : Row → Row
behind row = column row document_column.number ∷ column row document_column.format ∷ column row document_column.bytes ∷ []

same_document : (row : Row) (a b : Document) → a.job ≡ b.job → ShowsDocument row a → ShowsDocument row b → a ≡ b
same_document row a b job p q =
    let number = number_back a.number b.number (sym p.number ∙ q.number) in
    let format = format_back a.format b.format (sym p.format ∙ q.format) in
    let bytes = blob_back a.bytes b.bytes (sym p.bytes ∙ q.bytes) in
    let whole : ◌≡◌ {A = Document} (record { job = a.job; number = a.number; format = a.format; bytes = a.bytes }) (record { job = b.job; number = b.number; format = b.format; bytes = b.bytes }) =
    rw (job, number, format, bytes) refl in
    whole

module _ (db : Database) (has : HasSchema db) (name : List ℕ) (job : ℕ) where
  record IsPlaced (row : Row) : Type 0 where
    number : ℤ
    at_place : document_at db name (pos job) number ≡ Some (drop 1 row)

  number_there : (r : Row) → Has (db.trees document_tree) r → (n : ℤ) × (column r document_column.number ≡ Int n)
  number_there r there = integer_at document_in db has r there 2 (codes "number") refl

  -- a row of the job that is shown
  record IsShownOf (x : Row) : Type 0 where
    row : Row
    placed : IsPlaced row
    shown : x ≡ behind row

  placed_row : (r : Row) → Has (filter (is_of_job name job) (db.trees document_tree)) r → IsPlaced r
  placed_row r h =
      let there = has_filtered (is_of_job name job) (db.trees document_tree) r h in
      let placed = row_under (Text name ∷ number job ∷ []) Int document_in (document_key name (pos job)) (refl, (refl, tt)) (λ n. refl) db has number_there r there.0 there.1 in
      record { number = placed.0; at_place = placed.1 }

  shown_row : (x : Row) → Has (shown_documents db name job) x → IsShownOf x
  shown_row x h = let r = has_mapped behind _ x h in record { row = r.0; placed = placed_row r.0 r.1; shown = r.2 }

  tells_it : (r x : Row) (it : Document) → x ≡ behind r → drop 1 r ≡ document_cells name it → ShowsDocument x it
  tells_it r x it shown cells =
      let at = λ (n : ℕ). sym (without_number r n) ∙ ap (λ l. column l n) cells in
      record { number = ap (λ l. column l 0) shown ∙ at 2; format = ap (λ l. column l 1) shown ∙ at 3; bytes = ap (λ l. column l 2) shown ∙ at 4 }

  -- ---- they are those of the room

  module _ (room : RoomValue) (held : HoldsRoom db name room) where
    record IsInRoom (r x : Row) : Type 0 where
      document : Document
      there : get room.documents (job, document.number) ≡ Some document
      cells : drop 1 r ≡ document_cells name document
      tells : ShowsDocument x document
      in_range : IsDocumentOf job document

    number_in_range : (n : ℕ) → has_document (get room.jobs job) n ≡ true → (1 ≤ n) × (n ≤ 8)
    number_in_range n is = by_job (get room.jobs job) refl is
      where
        by_job : (o : Option Job) → get room.jobs job ≡ o → has_document o n ≡ true → (1 ≤ n) × (n ≤ 8)
        by_job None e is = absurd (true≢false (sym is))
        by_job (Some it) e is =
            let parts = and_parts (is_unfinished it.standing.state && nat_le 1 n) (nat_le n it.standing.documents) is in
            let from_one = (and_parts (is_unfinished it.standing.state) (nat_le 1 n) parts.0).1 in
            let to_its = parts.1 in
            let most = (held.is_room.jobs job it e).standing.ranges.documents_at_most in
            grind (arith, nat_tests)

    in_place : (r x : Row) (n : ℕ) → x ≡ behind r → (o : Option Document) → get room.documents (job, n) ≡ o → Some (drop 1 r) ≡ option_map (document_cells name) o → IsInRoom r x
    in_place r x n shown None e is = absurd (let no = is in cc)
    in_place r x n shown (Some it) e is =
        let at = held.is_room.documents (job, n) it e in
        let range = number_in_range n (sym (held.is_room.all_documents job n) ∙ ap is_some e) in
        record {
          document = it;
          there = ap (λ m. get room.documents (job, m)) at.numbered ∙ e;
          cells = same_row is;
          tells = tells_it r x it shown (same_row is);
          in_range = record { of_job = at.of_job; from_one = rw at.numbered range.0; to_last = rw at.numbered range.1; fits = at.fits };
        }

    in_room : (x : Row) (it : IsShownOf x) → IsInRoom it.row x
    in_room x it = by_number it.placed.number (sym it.placed.at_place ∙ held.rows.document_rows (pos job) it.placed.number)
      where
        by_number : (n : ℤ) → Some (drop 1 it.row) ≡ option_map (document_cells name) (under_pair room.documents (pos job) n) → IsInRoom it.row x
        by_number (pos n) is = in_place it.row x n it.shown (get room.documents (job, n)) refl is
        by_number (negsuc n) is = absurd (let no = is in cc)

    -- each document of the job is shown
    record IsShown (it : Document) : Type 0 where
      row : Row
      there : Has (shown_documents db name job) row
      tells : ShowsDocument row it

    row_there : (n : ℕ) (it : Document) → get room.documents (job, n) ≡ Some it → IsShown it
    row_there n it is =
        let r = under_row (Text name ∷ number job ∷ []) Int document_in (document_key name (pos job)) (refl, (refl, tt)) (λ n. refl) db has (pos n) (document_cells name it)
        (held.rows.document_rows (pos job) (pos n) ∙ ap (option_map (document_cells name)) is) in
        record {
          row = behind r.row;
          there = mapped_has behind _ r.row (has_kept (is_of_job name job) (db.trees document_tree) r.row r.there r.begins);
          tells = tells_it r.row (behind r.row) it refl r.are_cells;
        }

-- ---- places, after some rows

same_some : {X : Type 0} {a b : X} → ◌≡◌ {A = Option X} (Some a) (Some b) → a ≡ b
same_some e = cc

eight : (ps : List (Option Document)) → length ps ≡ 8
    → ps ≡ get_or ps 0 None ∷ get_or ps 1 None ∷ get_or ps 2 None ∷ get_or ps 3 None ∷ get_or ps 4 None ∷ get_or ps 5 None ∷ get_or ps 6 None ∷ get_or ps 7 None ∷ []
eight [] is = absurd (omega (arith, is))
eight (a ∷ []) is = absurd (omega (arith, is))
eight (a ∷ b ∷ []) is = absurd (omega (arith, is))
eight (a ∷ b ∷ c ∷ []) is = absurd (omega (arith, is))
eight (a ∷ b ∷ c ∷ d ∷ []) is = absurd (omega (arith, is))
eight (a ∷ b ∷ c ∷ d ∷ e ∷ []) is = absurd (omega (arith, is))
eight (a ∷ b ∷ c ∷ d ∷ e ∷ f ∷ []) is = absurd (omega (arith, is))
eight (a ∷ b ∷ c ∷ d ∷ e ∷ f ∷ g ∷ []) is = absurd (omega (arith, is))
eight (a ∷ b ∷ c ∷ d ∷ e ∷ f ∷ g ∷ h ∷ []) is = refl
eight (a ∷ b ∷ c ∷ d ∷ e ∷ f ∷ g ∷ h ∷ i ∷ ps) is = absurd (omega (arith, is))

abbrev nones : ℕ → List (Option Document)
nones zero = []
nones (suc n) = None ∷ nones n

pub none_at : (k n : ℕ) → get_or (nones k) n None ≡ None
none_at zero n = refl
none_at (suc k) zero = refl
none_at (suc k) (suc n) = none_at k n

-- one place has the document, and each other what it had
put_at : (ps : List (Option Document)) (it : Document) (job n : ℕ) → length ps ≡ 8 → IsDocumentOf job it
    → ((n ≡ it.number - 1) × (get_or (slice_set ps (it.number - 1) (Some it)) n None ≡ Some it)) ⊎ (get_or (slice_set ps (it.number - 1) (Some it)) n None ≡ get_or ps n None)
put_at ps it job n long range = elim (cases_eq n (it.number - 1)) [
  | inl here ↦ inl (here, ap (λ m. get_or (slice_set ps (it.number - 1) (Some it)) m None) here ∙ get_or-set_same ps (it.number - 1) (Some it) None (omega (arith, long, range.from_one, range.to_last)))
  | inr other ↦ inr (get_or-set_other ps (it.number - 1) n (Some it) None other)
]

module _ {G : Type 0} (job_in : G → ℕ) (places : G → List (Option Document)) (job : ℕ) where
  abbrev step : G → Row → G → Type 0
  step first row last = (job_in last ≡ job_in first) × GathersDocument (job_in first) (places first) row (places last)

  abbrev at : G → ℕ → Option Document
  at g n = get_or (places g) n None

  kept_job : (first last : G) (rows : List Row) → GathersAll step first rows last → job_in last ≡ job_in first
  kept_job first last [] same = ap job_in (sym same)
  kept_job first last (r ∷ rows) (next, told, more) = kept_job next last rows more ∙ told.0

  next_long : (first next : G) (r : Row) → length (places first) ≡ 8 → step first r next → length (places next) ≡ 8
  next_long first next r long told = ap length told.1.put ∙ length-set (places first) (told.1.document.number - 1) (Some told.1.document) ∙ long

  kept_long : (first last : G) (rows : List Row) → length (places first) ≡ 8 → GathersAll step first rows last → length (places last) ≡ 8
  kept_long first last [] long same = ap (λ g. length (places g)) (sym same) ∙ long
  kept_long first last (r ∷ rows) long (next, told, more) = kept_long next last rows (next_long first next r long told) more

  next_at : (first next : G) (r : Row) (n : ℕ) → length (places first) ≡ 8 → (told : step first r next) → ((n ≡ told.1.document.number - 1) × (at next n ≡ Some told.1.document)) ⊎ (at next n ≡ at first n)
  next_at first next r n long told =
      let now = ap (λ ps. get_or ps n None) told.1.put in
      elim (put_at (places first) told.1.document (job_in first) n long told.1.in_range) [
        | inl here ↦ inl (here.0, now ∙ here.1)
        | inr other ↦ inr (now ∙ other)
      ]

  -- what is in a place came in a row
  record CameIn (rows : List Row) (n : ℕ) (it : Document) : Type 0 where
    row : Row
    there : Has rows row
    tells : ShowsDocument row it
    of_job : it.job ≡ job
    in_place : it.number ≡ n + 1

  came_in : (first last : G) (rows : List Row) (n : ℕ) (it : Document) → length (places first) ≡ 8 → job_in first ≡ job → GathersAll step first rows last → at last n ≡ Some it → (at first n ≡ Some it) ⊎ CameIn rows n it
  came_in first last [] n it long is_job same is = inl (ap (λ g. at g n) same ∙ is)
  came_in first last (r ∷ rows) n it long is_job (next, told, more) is = elim (came_in next last rows n it (next_long first next r long told) (told.0 ∙ is_job) more is) [
    | inl before ↦ elim (next_at first next r n long told) [
      | inl here ↦
          let same : told.1.document ≡ it = same_some (sym here.1 ∙ before) in
          let range = told.1.in_range in
          let placed : told.1.document.number ≡ n + 1 = omega (arith, here.0, range.from_one) in
          inr (record {
            row = r;
            there = inl refl;
            tells = subst (λ d. ShowsDocument r d) same told.1.told;
            of_job = ap (λ (d : Document). d.job) (sym same) ∙ range.of_job ∙ is_job;
            in_place = ap (λ (d : Document). d.number) (sym same) ∙ placed;
          })
      | inr other ↦ inl (sym other ∙ before)
    ]
    | inr later ↦ inr (record { row = later.row; there = inr later.there; tells = later.tells; of_job = later.of_job; in_place = later.in_place })
  ]

  stays_there : (first last : G) (rows : List Row) (n : ℕ) → length (places first) ≡ 8 → GathersAll step first rows last → is_some (at first n) ≡ true → is_some (at last n) ≡ true
  stays_there first last [] n long same is = ap (λ g. is_some (at g n)) (sym same) ∙ is
  stays_there first last (r ∷ rows) n long (next, told, more) is =
      let there : is_some (at next n) ≡ true = elim (next_at first next r n long told) [ inl here ↦ ap is_some here.1 | inr other ↦ ap is_some other ∙ is ] in
      stays_there next last rows n (next_long first next r long told) more there

  -- each row filled a place
  filled : (first last : G) (rows : List Row) (row : Row) (it : Document) → length (places first) ≡ 8 → GathersAll step first rows last → Has rows row → ShowsDocument row it → is_some (at last (it.number - 1)) ≡ true
  filled first last [] row it long same there tells = absurd there
  filled first last (r ∷ rows) row it long (next, told, more) (inl same) tells =
      let d = told.1.document in
      let number : d.number ≡ it.number = number_back d.number it.number (sym told.1.told.number ∙ ap (λ l. column l 0) (sym same) ∙ tells.number) in
      let range = told.1.in_range in
      let here : at next (it.number - 1) ≡ Some d =
      ap (λ ps. get_or ps (it.number - 1) None) told.1.put ∙ ap (λ n. get_or (slice_set (places first) (d.number - 1) (Some d)) (n - 1) None) (sym number)
      ∙ get_or-set_same (places first) (d.number - 1) (Some d) None (omega (arith, long, range.from_one, range.to_last)) in
      stays_there next last rows (it.number - 1) (next_long first next r long told) more (ap is_some here)
  filled first last (r ∷ rows) row it long (next, told, more) (inr later) tells = filled next last rows row it (next_long first next r long told) more later tells

  -- ---- the places are those of the room

  module _ (db : Database) (has : HasSchema db) (name : List ℕ) (first : G) (is_job : job_in first ≡ job) where
    module _ (room : RoomValue) (held : HoldsRoom db name room) (last : G) (long : length (places first) ≡ 8) (none : (n : ℕ) → at first n ≡ None) (walked : WalksAll step (λ g row. refuses_document (job_in g) row) (shown_documents db name job) first last) where
      place_is : (n : ℕ) → at last n ≡ get room.documents (job, n + 1)
      place_is n = by_case (at last n) (get room.documents (job, n + 1)) refl refl
        where
          by_case : (o p : Option Document) → at last n ≡ o → get room.documents (job, n + 1) ≡ p → at last n ≡ get room.documents (job, n + 1)
          by_case None None e f = e ∙ sym f
          by_case None (Some it) e f =
              let shown = row_there db has name job room held (n + 1) it f in
              let numbered = (held.is_room.documents (job, n + 1) it f).numbered in
              let there = permuted_has walked.0 (shown_documents db name job) shown.row (IsPermutation-sym _ _ walked.1) shown.there in
              let some = filled first last walked.0 shown.row it long walked.2 there shown.tells in
              let place : it.number - 1 ≡ n = omega (arith, numbered) in
              absurd (true≢false (sym some ∙ ap (λ m. is_some (at last m)) place ∙ ap is_some e))
          by_case (Some it) p e f = elim (came_in first last walked.0 n it long is_job walked.2 e) [
            | inl before ↦ absurd (let no = sym (none n) ∙ before in cc)
            | inr came ↦
                let shown = shown_row db has name job came.row (permuted_has (shown_documents db name job) walked.0 came.row walked.1 came.there) in
                let found = in_room db has name job room held came.row shown in
                let same = same_document came.row found.document it (found.in_range.of_job ∙ sym came.of_job) found.tells came.tells in
                e ∙ sym (ap (λ m. get room.documents (job, m)) (sym came.in_place ∙ ap (λ (d : Document). d.number) (sym same)) ∙ found.there ∙ ap Some same)
          ]

      pub lists_documents : flat_map option_to_list (places last) ≡ documents_of room job
      lists_documents =
          ap (flat_map option_to_list) (eight (places last) (kept_long first last walked.0 long walked.2))
          ∙ rw (place_is 0, place_is 1, place_is 2, place_is 3, place_is 4, place_is 5, place_is 6, place_is 7) refl

    pub documents_unsound : RefusesOne step (λ g row. refuses_document (job_in g) row) (shown_documents db name job) first → AreRowsOf (document_cells name) (IsDocumentOf job) (document_rows db name job) → ⊥
    documents_unsound it rows =
        let there = permuted_has (shown_documents db name job) ((it.given ++ it.row ∷ []) ++ it.more) it.row it.are_shown (has_left (it.given ++ it.row ∷ []) it.more it.row (has_right it.given (it.row ∷ []) it.row (inl refl))) in
        let r = has_mapped behind _ it.row there in
        let told = rows (drop 1 r.0) (mapped_has (drop 1) _ r.0 r.1) in
        let kept = kept_job first it.so_far it.given it.gathered ∙ is_job in
        it.refused told.0 (subst (λ j. IsDocumentOf j told.0) (sym kept) told.1) (tells_it db has name job r.0 it.row told.0 r.2 told.2)

-- ---- sound rows can be read

pub documents_read : (db : Database) → HasSchema db → (name : List ℕ) (job : ℕ) → IsSound db name → AreRowsOf (document_cells name) (IsDocumentOf job) (document_rows db name job)
documents_read db has name job sound row h =
    let r = has_mapped (drop 1) _ row h in
    by_room sound r.0 (placed_row db has name job r.0 r.1) r.2
  where
    by_room : IsSound db name → (r : Row) → IsPlaced db has name job r → row ≡ drop 1 r → (x : Document) × IsDocumentOf job x × (row ≡ document_cells name x)
    by_room (None, held) r placed is = absurd (let none = held.no_document (pos job) placed.number in let some = placed.at_place in let e = sym none ∙ some in cc)
    by_room (Some room, held) r placed is =
        let found = in_room db has name job room held (behind r) (record { row = r; placed = placed; shown = refl }) in
        (found.document, found.in_range, is ∙ found.cells)
