-- The read of a job: what its text means, and what is read of the row.
use Rattle.std.proofs.Common.{◌≡◌, Result, ℕ, pos, List, [], ◌∷◌, drop, codes, Option, Some, None, option_map, refl, sym, ap, ◌∙◌}
use Rattle.std.specs.FinMap.{get}
use Rattle.sqlite_tied.specs.Compute.{everything}
use Rattle.sqlite_value.specs.Order.{Row, column}
use Rattle.sqlite_value.specs.Keys.{first_key}
use Rattle.sqlite_sql.specs.Term.{Term, col}
use Rattle.sqlite.specs.Effect.{Database}
use Rattle.sqlite.specs.Listing.{understood}
use Rattle.sqlite.specs.State.{State}
use Rattle.sqlite.specs.declared.error.Error.{Error}
use Rattle.account_rules.specs.declared.job.Job.{Job}
use Rattle.rows_tables.specs.Places.{job_tree, job_column}
use Rattle.rows_tables.specs.Tables.{room_schema, job}
use Rattle.rows_tables.specs.Keyed.{HasSchema}
use Rattle.rows_tables.specs.Queries.{Means, TakesParams, of_table, is_given, FindsRow}
use Rattle.rows_tables.specs.Accounts.{job_at, IsSound}
use Rattle.rows_tables.specs.Calls.{Gets}
use Rattle.rows_statements.specs.Shown.{behind_key, ShowsJob, IsJob}
use Rattle.rows_statements.specs.SoundRows.{IsRowOf}
use Rattle.rows_tables.proofs.Reading.{gets}
use Rattle.sqlite_value.specs.declared.value.Value.TheVariants.{Text, Blob}
use Rattle.rows_tables.specs.Cells.{number, standing_cells, job_cells}
use Rattle.rows_tables.proofs.Columns.{EachIs}
use Rattle.rows_tables.proofs.KeyedTables.{job_in, job_key}
use Rattle.rows_tables.proofs.KeyedRows.{same_row, row_found}

abbrev pub find_text : List ℕ
find_text = codes "SELECT name, password, state, open, stopping, copies, impressions, reserved, charged, documents, rate, device, created, started, ended FROM job WHERE account = ?1 AND job = ?2"

abbrev pub tests : List Term
tests = is_given job_column.account 1 ∷ is_given job_column.job 2 ∷ []

abbrev pub shows : List Term
shows = col 1 job_column.name ∷ col 1 job_column.password ∷ col 1 job_column.state ∷ col 1 job_column.is_open ∷ col 1 job_column.stopping ∷ col 1 job_column.copies ∷ col 1 job_column.impressions ∷ col 1 job_column.reserved ∷ col 1 job_column.charged ∷ col 1 job_column.documents ∷ col 1 job_column.rate ∷ col 1 job_column.device ∷ col 1 job_column.created ∷ col 1 job_column.started ∷ col 1 job_column.ended ∷ []

abbrev pub names : List (List ℕ)
names = codes "name" ∷ codes "password" ∷ codes "state" ∷ codes "open" ∷ codes "stopping" ∷ codes "copies" ∷ codes "impressions" ∷ codes "reserved" ∷ codes "charged" ∷ codes "documents" ∷ codes "rate" ∷ codes "device" ∷ codes "created" ∷ codes "started" ∷ codes "ended" ∷ []

pub find_is : Means room_schema find_text (of_table job_tree tests shows []) names 2
unfolding understood everything
find_is = record { is = refl; lists_nothing = refl; is_plain = (refl, refl); takes = refl; is_whole = refl }

pub find_takes : (name : List ℕ) (n : ℕ) → TakesParams room_schema (of_table job_tree tests shows []) (Text name ∷ number n ∷ []) 2
find_takes name n = record { given = refl; typed = refl }

behind_number : (r : Row) → column r job_column.name ∷ column r job_column.password ∷ column r job_column.state ∷ column r job_column.is_open ∷ column r job_column.stopping ∷ column r job_column.copies ∷ column r job_column.impressions ∷ column r job_column.reserved ∷ column r job_column.charged ∷ column r job_column.documents ∷ column r job_column.rate ∷ column r job_column.device ∷ column r job_column.created ∷ column r job_column.started ∷ column r job_column.ended ∷ [] ≡ behind_key (drop 1 r)
behind_number [] = refl
behind_number (v ∷ r) = refl

-- ---- what is read of the row

pub gets_job : (old new : State) (name : List ℕ) (n : ℕ) → HasSchema old.now → (result : Result (Option Row) Error) → FindsRow old new job_tree tests shows (Text name ∷ number n ∷ []) result
    → Gets old new (job_at old.now name (pos n)) behind_key result
unfolding first_key
gets_job old new name n has result found =
    gets job job_in.listed job_in.guarded (Text name ∷ number n ∷ []) tests shows (Text name ∷ number n ∷ []) behind_key (λ r. refl) behind_number old new has result found

module _ (db : Database) (has : HasSchema db) (name : List ℕ) (n : ℕ) (row : Row) (shown : Some row ≡ option_map behind_key (job_at db name (pos n))) where
  pub job_found : (it : Job) → it.job ≡ n → ShowsJob row it → job_at db name (pos n) ≡ Some (job_cells name it)
  job_found it numbered tells =
      let s = tells.standing in
      let are : EachIs 0 (Blob it.name ∷ Blob it.password ∷ standing_cells it.standing) row = (tells.name, (tells.password, (s.state, (s.is_open, (s.stopping, (s.copies, (s.impressions, (s.reserved, (s.charged, (s.documents, (s.rate, (s.device, (s.created, (s.started, (s.ended, tt))))))))))))))) in
      let found : job_at db name (pos n) ≡ Some (Text name ∷ number n ∷ Blob it.name ∷ Blob it.password ∷ standing_cells it.standing) =
      row_found (Text name ∷ number n ∷ []) job_in (job_key name (pos n)) db has (Blob it.name ∷ Blob it.password ∷ standing_cells it.standing) refl row shown are in
      found ∙ ap (λ m. Some (Text name ∷ number m ∷ Blob it.name ∷ Blob it.password ∷ standing_cells it.standing)) (sym numbered)

  shows_it : (it : Job) → row ≡ behind_key (job_cells name it) → ShowsJob row it
  shows_it it same =
      let at = λ (place : ℕ). ap (λ r. column r place) same in
      record { name = at 0; password = at 1; standing = record { state = at 2; is_open = at 3; stopping = at 4; copies = at 5; impressions = at 6; reserved = at 7; charged = at 8; documents = at 9; rate = at 10; device = at 11; created = at 12; started = at 13; ended = at 14 } }

  pub job_unsound : ((it : Job) → IsJob it → ShowsJob row it → ⊥) → IsRowOf (job_cells name) (λ it. (it.job ≡ n) × IsJob it) (job_at db name (pos n)) → ⊥
  job_unsound damaged (None, range, is) = absurd (let e = rw is at shown in cc)
  job_unsound damaged (Some it, range, is) = damaged it range.1 (shows_it it (same_row (shown ∙ ap (option_map behind_key) is)))

pub job_read : (db : Database) (name : List ℕ) (n : ℕ) → IsSound db name → IsRowOf (job_cells name) (λ it. (it.job ≡ n) × IsJob it) (job_at db name (pos n))
job_read db name n (None, held) = (None, tt, held.no_job (pos n))
job_read db name n (Some room, held) = of_room (get room.jobs n) refl
  where
    of_room : (o : Option Job) → get room.jobs n ≡ o → IsRowOf (job_cells name) (λ it. (it.job ≡ n) × IsJob it) (job_at db name (pos n))
    of_room None e = (None, tt, held.rows.job_rows (pos n) ∙ ap (option_map (job_cells name)) e)
    of_room (Some it) e =
        let kept = held.is_room.jobs n it e in
        (Some it, (kept.numbered, record { name_fits = kept.name_fits; password_fits = kept.password_fits; standing = kept.standing }), held.rows.job_rows (pos n) ∙ ap (option_map (job_cells name)) e)
