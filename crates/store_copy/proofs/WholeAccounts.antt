-- An account with its own row alone, and one of which all is there.
use Rattle.std.proofs.Common.{◌≡◌, ℕ, ℤ, pos, negsuc, true, cond, Bool, is_some, List, [], ◌∷◌, drop, Option, Some, None, option_map, refl, sym, ap, ◌∙◌, inl}
use Rattle.std.specs.Ordering.{nat_cmp}
use Rattle.std.specs.Cmp.{nat_cmp_total}
use Rattle.std.specs.FinMap.{get, empty, get-empty, nat_cmp-IsAntisymmetric}
use Rattle.std.proofs.lemmas.Bool.{true≢false}
use Rattle.sqlite_value.specs.declared.value.Value.TheVariants.{Int, Text}
use Rattle.sqlite_value.specs.Order.{Row}
use Rattle.sqlite.specs.Effect.{Database}
use Rattle.account_rules.specs.declared.account.Account.{Account}
use Rattle.account_rules.specs.declared.job.Job.{Job}
use Rattle.account_state.specs.Rooms.{RoomValue, place_cmp, empty_room}
use Rattle.account_state.specs.RoomRules.{has_document}
use Rattle.account_state.proofs.DocumentMaps.{place_cmp_total, exact_places}
use Rattle.rows_tables.specs.Tables.{account as account_table, job as job_table, document as document_table, grants as grants_table}
use Rattle.rows_tables.specs.Keyed.{SetsRow}
use Rattle.rows_tables.specs.Cells.{account_cells, job_cells, document_cells, grant_cells}
use Rattle.rows_tables.specs.Accounts.{account_of_room, under, under_pair, whole, HoldsNothing, HoldsRoom, HoldsRows}
use Rattle.rows_statements.proofs.KeyTests.{is_at_text, text_here}
use Rattle.rows_statements.proofs.LeftAlone.{row_kept}
use Rattle.store_copy.specs.ProofParts.{IsPartOf, HasAll}
use Rattle.store_copy.proofs.PartLemmas.{is_whole}

-- ---- an account that was not there, with its own row alone

abbrev pub bare : Account → RoomValue
bare it = record (empty_room it.opened) { next = it.next_job }

none_under : {X : Type 0} (n : ℤ) → under {X = X} empty n ≡ None
none_under (pos n) = get-empty nat_cmp n
none_under (negsuc n) = refl

none_placed : {X : Type 0} (m n : ℤ) → under_pair {X = X} empty m n ≡ None
none_placed (pos m) (pos n) = get-empty place_cmp (m, n)
none_placed (pos m) (negsuc n) = refl
none_placed (negsuc m) (pos n) = refl
none_placed (negsuc m) (negsuc n) = refl

nothing_so : {X : Type 0} (cells : X → Row) (o : Option X) → o ≡ None → ◌≡◌ {A = Option Row} None (option_map cells o)
nothing_so cells o none = sym (ap (option_map cells) none)

is_set : (test : Bool) (cells : Row) (was new : Option Row) → new ≡ cond test (Some cells) was → test ≡ true → new ≡ Some cells
is_set test cells was new is met = is ∙ ap (λ b. cond b (Some cells) was) met

pub bare_held : (name : List ℕ) (a b : Database) (it : Account) → HoldsNothing a name → SetsRow account_table (account_cells name it) a b → HoldsRows b name (bare it)
bare_held name a b it none sets = record {
  account_row = is_set (is_at_text name (drop 1 (account_cells name it)) name) _ _ _ (sets.rows (Text name ∷ [])) (text_here name (drop 1 (account_cells name it)));
  job_rows = λ n. row_kept job_table a b (sets.rest.job (λ e. let no : ⊥ = cc in no)) (Text name ∷ Int n ∷ []) ∙ none.no_job n ∙ nothing_so (job_cells name) _ (none_under n);
  document_rows = λ m n. row_kept document_table a b (sets.rest.document (λ e. let no : ⊥ = cc in no)) (Text name ∷ Int m ∷ Int n ∷ []) ∙ none.no_document m n ∙ nothing_so (document_cells name) _ (none_placed m n);
  grant_rows = λ n. row_kept grants_table a b (sets.rest.grants (λ e. let no : ⊥ = cc in no)) (Text name ∷ Int n ∷ []) ∙ none.no_grant n ∙ nothing_so (grant_cells name (whole n)) _ (none_under n);
}

pub bare_part : (room : RoomValue) → IsPartOf room (bare (account_of_room room))
bare_part room = record {
  opened = refl;
  next = refl;
  jobs = λ q. inl (get-empty nat_cmp q);
  documents = λ q. inl (get-empty place_cmp q);
  grants = λ q. inl (get-empty nat_cmp q);
}

-- ---- a part that has all is the room

job_of : (o : Option Job) (n : ℕ) → has_document o n ≡ true → (it : Job) × (o ≡ Some it)
job_of None n is = absurd (true≢false (sym is))
job_of (Some it) n is = (it, refl)

module _ (name : List ℕ) (source : Database) (room part : RoomValue) (held : HoldsRoom source name room) (is : IsPartOf room part) (has : HasAll room.next room part) where
  all_jobs : part.jobs ≡ room.jobs
  all_jobs = is_whole nat_cmp_total room.jobs part.jobs nat_cmp-IsAntisymmetric is.jobs (λ n it e.
      let at = held.is_room.jobs n it e in
      (has.jobs n at.from_one at.below_next).job)

  all_documents : part.documents ≡ room.documents
  all_documents = is_whole place_cmp_total room.documents part.documents exact_places is.documents (λ place it e.
      let some : has_document (get room.jobs place.0) place.1 ≡ true = sym (held.is_room.all_documents place.0 place.1) ∙ ap is_some e in
      let of = job_of (get room.jobs place.0) place.1 some in
      let at = held.is_room.jobs place.0 of.0 of.1 in
      (has.jobs place.0 at.from_one at.below_next).documents place.1)

  all_grants : part.grants ≡ room.grants
  all_grants = is_whole nat_cmp_total room.grants part.grants nat_cmp-IsAntisymmetric is.grants (λ month pages e. has.grants month)

  pub is_room : part ≡ room
  is_room = λ i. record { opened = is.opened i; next = is.next i; jobs = all_jobs i; documents = all_documents i; grants = all_grants i }
