-- A job that was found, and its documents.
use Rattle.std.proofs.Common.{◌≡◌, ℕ, ◌+◌, ◌≤◌, pos, Bool, true, false, ◌&&◌, nat_le, List, Option, Some, None, is_some, option_map, IfSome, refl, sym, ap, subst, ◌∙◌, arith}
use Rattle.std.specs.FinMap.{get}
use Rattle.std.proofs.lemmas.Bool.Decides.{nat_tests}
use Rattle.std.proofs.lemmas.Bool.{true≢false}
use Rattle.sqlite.specs.Effect.{Database}
use Rattle.account_rules.specs.declared.job.Document.{Document}
use Rattle.account_rules.specs.declared.job.Job.{Job}
use Rattle.account_state.specs.Rooms.{RoomValue}
use Rattle.account_state.specs.RoomRules.{has_document, IsJobAt}
use Rattle.rows_tables.specs.Accounts.{HoldsRoom}
use Rattle.rows_tables.specs.Cells.{document_cells, job_cells}
use Rattle.rows_tables.proofs.KeyedRows.{same_row}
use Rattle.rows_tables.proofs.ReadBackLemmas.{rows_are_read_back}
use Rattle.rows_checks.specs.Checks.{AreDocumentsThere, IsDocumentThere, JobHasDocuments}

in_reach : (n documents : ℕ) → 1 ≤ n → n ≤ documents → (nat_le 1 n && nat_le n documents) ≡ true
in_reach n documents from to = grind (arith, nat_tests)

pub reached : (n documents : ℕ) → (nat_le 1 n && nat_le n documents) ≡ true → (1 ≤ n) × (n ≤ documents)
reached n documents is = (first n documents is, last n documents is)
  where
    first : (n documents : ℕ) → (nat_le 1 n && nat_le n documents) ≡ true → 1 ≤ n
    first n documents is = grind (arith, nat_tests)

    last : (n documents : ℕ) → (nat_le 1 n && nat_le n documents) ≡ true → n ≤ documents
    last n documents is = grind (arith, nat_tests)

-- of the rows of a room each document of the job is there
module _ (db : Database) (name : List ℕ) (next job documents : ℕ) (it : JobHasDocuments db name next job documents) (room : RoomValue) (held : HoldsRoom db name room) where
  found_is : (found there : Option Job) → option_map (job_cells name) found ≡ option_map (job_cells name) there → IfSome found (IsJobAt next job) → get room.jobs job ≡ there → (n : ℕ) → has_document found n ≡ true → has_document there n ≡ true
  found_is None there same range is n h = absurd (true≢false (sym h))
  found_is (Some a) None same range is n h = absurd (let no : Some (job_cells name a) ≡ None = same in cc)
  found_is (Some a) (Some b) same range is n h =
      let one = (rows_are_read_back.jobs name name a b range.standing.named_device (held.is_room.jobs job b is).standing.named_device (same_row same)).1 in
      subst (λ (x : Job). has_document (Some x) n ≡ true) one h

  pub documents_there : AreDocumentsThere db name job documents
  documents_there n from to =
      let has = found_is it.found (get room.jobs job) (sym it.read ∙ held.rows.job_rows (pos job)) it.in_range refl n (it.has n ∙ in_reach n documents from to) in
      of (get room.documents (job, n)) refl (held.is_room.all_documents job n ∙ has)
    where
      of : (o : Option Document) → get room.documents (job, n) ≡ o → is_some (get room.documents (job, n)) ≡ true → IsDocumentThere db name job n
      of None e some = absurd (true≢false (sym some ∙ ap is_some e))
      of (Some document) e some = (document, held.is_room.documents (job, n) document e, held.rows.document_rows (pos job) (pos n) ∙ ap (option_map (document_cells name)) e)

-- one more is there
pub more_there : (db : Database) (name : List ℕ) (job before : ℕ) → AreDocumentsThere db name job before → IsDocumentThere db name job (before + 1) → AreDocumentsThere db name job (before + 1)
more_there db name job before those this n from to = by (nat_le n before) refl
  where
    below : (m before : ℕ) → nat_le m before ≡ true → m ≤ before
    below m before is = grind (arith, nat_tests)

    last : (m before : ℕ) → nat_le m before ≡ false → m ≤ before + 1 → m ≡ before + 1
    last m before is to = grind (arith, nat_tests)

    by : (b : Bool) → nat_le n before ≡ b → IsDocumentThere db name job n
    by true is = those n from (below n before is)
    by false is = subst (IsDocumentThere db name job) (sym (last n before is to)) this
