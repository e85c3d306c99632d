-- The read of one document by its key: what its text means, and what is read of the row.
use Rattle.std.proofs.Common.{◌≡◌, Result, ℕ, pos, Bool, true, false, List, [], ◌∷◌, drop, codes, Option, Some, None, IsSome, is_some, option_map, refl, sym, ap, subst, ◌∙◌}
use Rattle.std.specs.FinMap.{get}
use Rattle.std.proofs.lemmas.Bool.{true≢false}
use Rattle.sqlite_tied.specs.Compute.{everything}
use Rattle.sqlite_value.specs.Order.{Row, column}
use Rattle.sqlite_value.specs.Keys.{first_key}
use Rattle.sqlite_value.specs.declared.value.Value.TheVariants.{Text, Blob}
use Rattle.sqlite_sql.specs.Term.{Term, col}
use Rattle.sqlite.specs.Effect.{Database}
use Rattle.sqlite.specs.Listing.{understood}
use Rattle.sqlite.specs.State.{State}
use Rattle.sqlite.specs.declared.error.Error.{Error}
use Rattle.account_rules.specs.Formats.{media_type}
use Rattle.account_rules.specs.Names.{IsNameOrNone}
use Rattle.account_rules.specs.declared.job.Document.{Document}
use Rattle.account_rules.specs.declared.job.Job.{Job}
use Rattle.account_state.specs.RoomRules.{has_document, IsDocumentAt}
use Rattle.rows_tables.specs.Places.{document_tree, document_column, cell}
use Rattle.rows_tables.specs.Tables.{room_schema, document}
use Rattle.rows_tables.specs.Keyed.{HasSchema}
use Rattle.rows_tables.specs.Queries.{Means, TakesParams, of_table, is_given, FindsRow}
use Rattle.rows_tables.specs.Accounts.{document_at, job_at, IsSound}
use Rattle.rows_tables.specs.Calls.{Gets}
use Rattle.rows_tables.specs.Cells.{number, document_cells, job_cells}
use Rattle.rows_tables.proofs.Columns.{EachIs}
use Rattle.rows_tables.proofs.KeyedTables.{document_in, document_key}
use Rattle.rows_tables.proofs.KeyedRows.{same_row, row_found}
use Rattle.rows_tables.proofs.ReadBackLemmas.{rows_are_read_back}
use Rattle.rows_tables.proofs.Reading.{gets}
use Rattle.rows_checks.specs.Checks.{DocumentIsInOrder, HasDocument, ShowsContent}
use Rattle.rows_statements.specs.SoundRows.{IsRowOf}

abbrev pub one_text : List ℕ
one_text = codes "SELECT format, bytes FROM document WHERE account = ?1 AND job = ?2 AND number = ?3"

abbrev pub one_tests : List Term
one_tests = is_given document_column.account 1 ∷ is_given document_column.job 2 ∷ is_given document_column.number 3 ∷ []

abbrev pub one_shows : List Term
one_shows = col 1 document_column.format ∷ col 1 document_column.bytes ∷ []

abbrev pub one_names : List (List ℕ)
one_names = codes "format" ∷ codes "bytes" ∷ []

pub one_is : Means room_schema one_text (of_table document_tree one_tests one_shows []) one_names 3
unfolding understood everything
one_is = record { is = refl; lists_nothing = refl; is_plain = (refl, refl); takes = refl; is_whole = refl }

pub one_takes : (name : List ℕ) (job n : ℕ) → TakesParams room_schema (of_table document_tree one_tests one_shows []) (Text name ∷ number job ∷ number n ∷ []) 3
one_takes name job n = record { given = refl; typed = refl }

abbrev content : Row → Row
content cells = cell document_column.format cells ∷ cell document_column.bytes cells ∷ []

behind_place : (r : Row) → column r document_column.format ∷ column r document_column.bytes ∷ [] ≡ content (drop 1 r)
behind_place [] = refl
behind_place (v ∷ r) = refl

pub gets_document : (old new : State) (name : List ℕ) (job n : ℕ) → HasSchema old.now → (result : Result (Option Row) Error) → FindsRow old new document_tree one_tests one_shows (Text name ∷ number job ∷ number n ∷ []) result
    → Gets old new (document_at old.now name (pos job) (pos n)) (λ cells. cell document_column.format cells ∷ cell document_column.bytes cells ∷ []) result
unfolding first_key
gets_document old new name job n has result found =
    gets document document_in.listed document_in.guarded (Text name ∷ number job ∷ number n ∷ []) one_tests one_shows (Text name ∷ number job ∷ number n ∷ []) content (λ r. refl) behind_place old new has result found

module _ (db : Database) (has : HasSchema db) (name : List ℕ) (job n : ℕ) (row : Row) (shown : Some row ≡ option_map (λ (cells : Row). cell document_column.format cells ∷ cell document_column.bytes cells ∷ []) (document_at db name (pos job) (pos n))) where
  pub one_found : (it : Document) → IsDocumentAt (job, n) it → ShowsContent row it → document_at db name (pos job) (pos n) ≡ Some (document_cells name it)
  one_found it at tells =
      let are : EachIs 0 (Text (media_type it.format) ∷ Blob it.bytes ∷ []) row = (tells.format, (tells.bytes, tt)) in
      let found : document_at db name (pos job) (pos n) ≡ Some (Text name ∷ number job ∷ number n ∷ Text (media_type it.format) ∷ Blob it.bytes ∷ []) =
      row_found (Text name ∷ number job ∷ number n ∷ []) document_in (document_key name (pos job) (pos n)) db has (Text (media_type it.format) ∷ Blob it.bytes ∷ []) refl row shown are in
      found ∙ ap (λ m. Some (Text name ∷ number m ∷ number n ∷ Text (media_type it.format) ∷ Blob it.bytes ∷ [])) (sym at.of_job)
      ∙ ap (λ m. Some (Text name ∷ number it.job ∷ number m ∷ Text (media_type it.format) ∷ Blob it.bytes ∷ [])) (sym at.numbered)

  shows_content : (it : Document) → row ≡ content (document_cells name it) → ShowsContent row it
  shows_content it same = record { format = ap (λ r. column r 0) same; bytes = ap (λ r. column r 1) same }

  pub one_unsound : ((it : Document) → IsDocumentAt (job, n) it → ShowsContent row it → ⊥) → IsRowOf (document_cells name) (IsDocumentAt (job, n)) (document_at db name (pos job) (pos n)) → ⊥
  one_unsound damaged (None, range, is) = absurd (let e = rw is at shown in cc)
  one_unsound damaged (Some it, range, is) = damaged it range (shows_content it (same_row (shown ∙ ap (option_map content) is)))

-- sound rows have it, or have none
pub one_read : (db : Database) (name : List ℕ) (job n : ℕ) → IsSound db name → IsRowOf (document_cells name) (IsDocumentAt (job, n)) (document_at db name (pos job) (pos n))
one_read db name job n (None, held) = (None, tt, held.no_document (pos job) (pos n))
one_read db name job n (Some room, held) = of_room (get room.documents (job, n)) refl
  where
    of_room : (o : Option Document) → get room.documents (job, n) ≡ o → IsRowOf (document_cells name) (IsDocumentAt (job, n)) (document_at db name (pos job) (pos n))
    of_room None e = (None, tt, held.rows.document_rows (pos job) (pos n) ∙ ap (option_map (document_cells name)) e)
    of_room (Some it) e = (Some it, held.is_room.documents (job, n) it e, held.rows.document_rows (pos job) (pos n) ∙ ap (option_map (document_cells name)) e)

-- a document that is there is one that its job has
pub not_sound : (db : Database) (name : List ℕ) (job n : ℕ) (it : Document) → HasDocument db name job n false → document_at db name (pos job) (pos n) ≡ Some (document_cells name it) → IsSound db name → ⊥
not_sound db name job n it has_not is (None, held) = let no : None ≡ Some (document_cells name it) = sym (held.no_document (pos job) (pos n)) ∙ is in absurd cc
not_sound db name job n it has_not is (Some room, held) = of_job (get room.jobs job) refl (sym (held.is_room.all_documents job n) ∙ there (get room.documents (job, n)) (sym (held.rows.document_rows (pos job) (pos n)) ∙ is))
  where
    there : (o : Option Document) → option_map (document_cells name) o ≡ Some (document_cells name it) → is_some o ≡ true
    there None e = absurd (let no : None ≡ Some (document_cells name it) = e in cc)
    there (Some other) e = refl

    of_job : (o : Option Job) → get room.jobs job ≡ o → has_document (get room.jobs job) n ≡ true → ⊥
    of_job None e h = true≢false (sym (subst (λ o. has_document o n ≡ true) e h))
    of_job (Some job_it) e h =
        let kept = held.is_room.jobs job job_it e in
        let row = held.rows.job_rows (pos job) ∙ ap (option_map (job_cells name)) e in
        true≢false (sym (subst (λ o. has_document o n ≡ true) e h) ∙ has_not.is_not refl job_it kept.standing.named_device row)

pub not_sound_if : (db : Database) (name : List ℕ) (job n : ℕ) (found : Option Document) → HasDocument db name job n false → document_at db name (pos job) (pos n) ≡ option_map (document_cells name) found → (found ≡ None → ⊥) → IsSound db name → ⊥
not_sound_if db name job n None has_not is some sound = some refl
not_sound_if db name job n (Some it) has_not is some sound = not_sound db name job n it has_not is sound

-- ---- whether a job has a document

module _ (db : Database) (name : List ℕ) (job n : ℕ) where
  pub has_by : (it : Job) → IsNameOrNone it.standing.device → job_at db name (pos job) ≡ Some (job_cells name it) → (b : Bool) → b ≡ has_document (Some it) n → HasDocument db name job n b
  has_by it named is b told = record {
    there = λ yes. (it, (named, sym told ∙ yes), is);
    is_not = λ no other known at. subst (λ (x : Job). has_document (Some x) n ≡ false) (rows_are_read_back.jobs name name it other named known (same_row (sym is ∙ at))).1 (sym told ∙ no);
  }

  pub has_none : job_at db name (pos job) ≡ None → HasDocument db name job n false
  has_none is = record {
    there = λ yes. absurd (true≢false (sym yes));
    is_not = λ no other known at. absurd (let e : None ≡ Some (job_cells name other) = sym is ∙ at in cc);
  }

  -- a document that is not there is of no job, and so in order
  pub none_in_order : document_at db name (pos job) (pos n) ≡ None → DocumentIsInOrder db name job n
  none_in_order is some = absurd (let e : false ≡ true = subst (λ (o : Option Row). IsSome o) is some in cc)
