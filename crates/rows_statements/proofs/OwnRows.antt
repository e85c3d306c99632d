-- What the write of a row makes of the rows of its account.
use Rattle.std.proofs.Common.{◌≡◌, ℕ, ℤ, pos, negsuc, Bool, true, cond, List, [], ◌∷◌, drop, Option, Some, None, option_map, refl, sym, ap, subst, ◌∙◌}
use Rattle.std.specs.Ordering.{nat_cmp}
use Rattle.std.specs.FinMap.{insert, empty, get-empty}
use Rattle.sqlite_value.specs.declared.value.Value.TheVariants.{Int, Text}
use Rattle.sqlite_value.specs.Order.{Row}
use Rattle.sqlite.specs.Effect.{Database}
use Rattle.account_rules.specs.declared.account.Account.{Account}
use Rattle.account_rules.specs.declared.job.Document.{Document}
use Rattle.account_rules.specs.declared.job.Job.{Job}
use Rattle.account_state.specs.Rooms.{RoomValue, empty_room, place_cmp}
use Rattle.account_state.specs.Changes.{without_documents, with_document}
use Rattle.rows_tables.specs.Places.{job_places}
use Rattle.rows_tables.specs.Tables.{account, job, document, grants}
use Rattle.rows_tables.specs.Keyed.{SetsRow, RemovesRows}
use Rattle.rows_tables.specs.Cells.{number, account_cells, job_cells, document_cells, grant_cells}
use Rattle.rows_tables.specs.Accounts.{account_at, HoldsRows, HoldsNothing, under, under_pair, whole}
use Rattle.rows_statements.specs.Rows.{AddsDocument}
use Rattle.rows_statements.proofs.KeyTests.{is_at_text, is_at_number, is_at_place, begins_so, text_here, number_met, number_here, place_met, place_here, start_met, start_here}
use Rattle.rows_statements.proofs.LeftAlone.{row_kept}
use Rattle.rows_statements.proofs.MapsSet.{set_under, set_at_place, removed_under}

is_set : (test : Bool) (cells : Row) (was new : Option Row) → new ≡ cond test (Some cells) was → test ≡ true → new ≡ Some cells
is_set test cells was new is met = is ∙ ap (λ b. cond b (Some cells) was) met

pub account_is_set : (name : List ℕ) (old new : Database) (it : Account) → SetsRow account (account_cells name it) old new → account_at new name ≡ Some (account_cells name it)
account_is_set name old new it h = is_set (is_at_text name (drop 1 (account_cells name it)) name) _ _ _ (h.rows (Text name ∷ [])) (text_here name (drop 1 (account_cells name it)))

module _ (name : List ℕ) (old new : Database) (room : RoomValue) (held : HoldsRows old name room) where
  pub account_held : (it : Account) → SetsRow account (account_cells name it) old new → HoldsRows new name (record room { opened = it.opened; next = it.next_job })
  account_held it h = record {
    account_row = account_is_set name old new it h;
    job_rows = λ n. row_kept job old new (h.rest.job (λ e. let no : ⊥ = cc in no)) (Text name ∷ Int n ∷ []) ∙ held.job_rows n;
    document_rows = λ m n. row_kept document old new (h.rest.document (λ e. let no : ⊥ = cc in no)) (Text name ∷ Int m ∷ Int n ∷ []) ∙ held.document_rows m n;
    grant_rows = λ n. row_kept grants old new (h.rest.grants (λ e. let no : ⊥ = cc in no)) (Text name ∷ Int n ∷ []) ∙ held.grant_rows n;
  }

  pub job_held : (it : Job) → SetsRow job (job_cells name it) old new → HoldsRows new name (record room { jobs = insert room.jobs it.job it })
  job_held it h = record {
    account_row = row_kept account old new (h.rest.account (λ e. let no : ⊥ = cc in no)) (Text name ∷ []) ∙ held.account_row;
    job_rows = λ n. set_under (λ _ (job : Job). job_cells name job) room.jobs it.job it n (is_at_number name (pos it.job) (drop 2 (job_cells name it)) name n) _ _ (λ is. (number_met name (pos it.job) (drop 2 (job_cells name it)) name n is).1)
        (λ e. subst (λ z. is_at_number name (pos it.job) (drop 2 (job_cells name it)) name z ≡ true) e (number_here name (pos it.job) (drop 2 (job_cells name it)))) (held.job_rows n) (h.rows (Text name ∷ Int n ∷ []));
    document_rows = λ m n. row_kept document old new (h.rest.document (λ e. let no : ⊥ = cc in no)) (Text name ∷ Int m ∷ Int n ∷ []) ∙ held.document_rows m n;
    grant_rows = λ n. row_kept grants old new (h.rest.grants (λ e. let no : ⊥ = cc in no)) (Text name ∷ Int n ∷ []) ∙ held.grant_rows n;
  }

  pub document_held : (it : Document) → SetsRow document (document_cells name it) old new → HoldsRows new name (record room { documents = insert room.documents (it.job, it.number) it })
  document_held it h = record {
    account_row = row_kept account old new (h.rest.account (λ e. let no : ⊥ = cc in no)) (Text name ∷ []) ∙ held.account_row;
    job_rows = λ n. row_kept job old new (h.rest.job (λ e. let no : ⊥ = cc in no)) (Text name ∷ Int n ∷ []) ∙ held.job_rows n;
    document_rows = λ m n. set_at_place (document_cells name) room.documents it.job it.number it m n (is_at_place name (pos it.job) (pos it.number) (drop 3 (document_cells name it)) name m n) _ _
        (λ is. let at = place_met name (pos it.job) (pos it.number) (drop 3 (document_cells name it)) name m n is in (at.1, at.2))
        (λ e f. subst (λ z. is_at_place name (pos it.job) (pos it.number) (drop 3 (document_cells name it)) name m z ≡ true) f (subst (λ y. is_at_place name (pos it.job) (pos it.number) (drop 3 (document_cells name it)) name y (pos it.number) ≡ true) e (place_here name (pos it.job) (pos it.number) (drop 3 (document_cells name it)))))
        (held.document_rows m n) (h.rows (Text name ∷ Int m ∷ Int n ∷ []));
    grant_rows = λ n. row_kept grants old new (h.rest.grants (λ e. let no : ⊥ = cc in no)) (Text name ∷ Int n ∷ []) ∙ held.grant_rows n;
  }

  pub grant_held : (month pages : ℕ) → SetsRow grants (grant_cells name month pages) old new → HoldsRows new name (record room { grants = insert room.grants month pages })
  grant_held month pages h = record {
    account_row = row_kept account old new (h.rest.account (λ e. let no : ⊥ = cc in no)) (Text name ∷ []) ∙ held.account_row;
    job_rows = λ n. row_kept job old new (h.rest.job (λ e. let no : ⊥ = cc in no)) (Text name ∷ Int n ∷ []) ∙ held.job_rows n;
    document_rows = λ m n. row_kept document old new (h.rest.document (λ e. let no : ⊥ = cc in no)) (Text name ∷ Int m ∷ Int n ∷ []) ∙ held.document_rows m n;
    grant_rows = λ n. set_under (grant_cells name) room.grants month pages n (is_at_number name (pos month) (number pages ∷ []) name n) _ _ (λ is. (number_met name (pos month) (number pages ∷ []) name n is).1)
        (λ e. subst (λ z. is_at_number name (pos month) (number pages ∷ []) name z ≡ true) e (number_here name (pos month) (number pages ∷ []))) (held.grant_rows n) (h.rows (Text name ∷ Int n ∷ []));
  }

  pub documents_removed : (j : ℕ) → RemovesRows document (Text name ∷ number j ∷ []) job_places old new → HoldsRows new name (record room { documents = without_documents room.documents j })
  documents_removed j h = record {
    account_row = row_kept account old new (h.rest.account (λ e. let no : ⊥ = cc in no)) (Text name ∷ []) ∙ held.account_row;
    job_rows = λ n. row_kept job old new (h.rest.job (λ e. let no : ⊥ = cc in no)) (Text name ∷ Int n ∷ []) ∙ held.job_rows n;
    document_rows = λ m n. removed_under (document_cells name) room.documents j m n (begins_so name m (Int n ∷ []) name (pos j)) _ _ (λ is. sym (start_met name m (Int n ∷ []) name (pos j) is).1)
        (λ e. subst (λ z. begins_so name z (Int n ∷ []) name (pos j) ≡ true) e (start_here name (pos j) (Int n ∷ []))) (held.document_rows m n) (h.rows (Text name ∷ Int m ∷ Int n ∷ []));
    grant_rows = λ n. row_kept grants old new (h.rest.grants (λ e. let no : ⊥ = cc in no)) (Text name ∷ Int n ∷ []) ∙ held.grant_rows n;
  }

pub added_document_held : (name : List ℕ) (first : Option Document) (old new : Database) (room : RoomValue) → HoldsRows old name room → AddsDocument name first old new
    → HoldsRows new name (record room { documents = with_document room.documents first })
added_document_held name None old new room held same = subst (λ (db : Database). HoldsRows db name room) (sym same) held
added_document_held name (Some it) old new room held sets = document_held name old new room held it sets

-- ---- an account that was not there

none_under : {X : Type 0} (n : ℤ) → under {X = X} empty n ≡ None
none_under (pos n) = get-empty nat_cmp n
none_under (negsuc n) = refl

none_placed : {X : Type 0} (m n : ℤ) → under_pair {X = X} empty m n ≡ None
none_placed (pos m) (pos n) = get-empty place_cmp (m, n)
none_placed (pos m) (negsuc n) = refl
none_placed (negsuc m) (pos n) = refl
none_placed (negsuc m) (negsuc n) = refl

nothing_so : {X : Type 0} (cells : X → Row) (o : Option X) → o ≡ None → ◌≡◌ {A = Option Row} None (option_map cells o)
nothing_so cells o none = sym (ap (option_map cells) none)

pub opened_held : (name : List ℕ) (old new : Database) (now : ℕ) → HoldsNothing old name → SetsRow account (account_cells name (record { opened = now; next_job = 1 })) old new → HoldsRows new name (empty_room now)
opened_held name old new now held h = record {
  account_row = is_set (is_at_text name (number now ∷ number 1 ∷ []) name) _ _ _ (h.rows (Text name ∷ [])) (text_here name (number now ∷ number 1 ∷ []));
  job_rows = λ n. row_kept job old new (h.rest.job (λ e. let no : ⊥ = cc in no)) (Text name ∷ Int n ∷ []) ∙ held.no_job n ∙ nothing_so (job_cells name) _ (none_under n);
  document_rows = λ m n. row_kept document old new (h.rest.document (λ e. let no : ⊥ = cc in no)) (Text name ∷ Int m ∷ Int n ∷ []) ∙ held.no_document m n ∙ nothing_so (document_cells name) _ (none_placed m n);
  grant_rows = λ n. row_kept grants old new (h.rest.grants (λ e. let no : ⊥ = cc in no)) (Text name ∷ Int n ∷ []) ∙ held.no_grant n ∙ nothing_so (grant_cells name (whole n)) _ (none_under n);
}
