-- The rules on documents are kept as a job takes one or ends.
use Rattle.std.proofs.Common.{◌≡◌, ℕ, ◌+◌, Bool, true, false, cond, ◌&&◌, ◌||◌, ◌==◌, not, nat_le, Option, Some, None, is_some, refl, sym, ap, subst, ◌∙◌, arith}
use Rattle.std.specs.Ordering.{nat_cmp}
use Rattle.std.specs.FinMap.{FinMap, get, insert, get-insert, get-retain_keys}
use Rattle.std.proofs.lemmas.Bool.{eqb-true}
use Rattle.std.proofs.lemmas.Bool.Decides.{nat_tests}
use Rattle.account_rules.specs.JobStates.{is_unfinished}
use Rattle.account_rules.specs.declared.job.Job.{Job}
use Rattle.account_rules.specs.declared.job.Document.{Document}
use Rattle.account_state.specs.Rooms.{place_cmp}
use Rattle.account_state.specs.RoomRules.{IsDocumentAt, has_document}
use Rattle.account_state.specs.Changes.{with_document, without_documents}
use Rattle.account_state.specs.Conditions.{GoesOn}
use Rattle.account_state.proofs.DocumentMaps.{place_cmp_total, exact_places, pair_tie}
use Rattle.account_state.proofs.KeptJobs.{job_inserted}

-- ---- one document more
document_inserted : (documents : FinMap place_cmp Document) (document : Document) (j n : ℕ) →
    get (insert documents (document.job, document.number) document) (j, n) ≡ cond ((document.job == j) && (document.number == n)) (Some document) (get documents (j, n))
document_inserted documents document j n =
    get-insert place_cmp_total documents (document.job, document.number) document (j, n) ∙ ap (λ b. cond b (Some document) (get documents (j, n))) (pair_tie j n document.job document.number)

pair_parts : (a b j n : ℕ) → ((a == j) && (b == n)) ≡ true → (a ≡ j) × (b ≡ n)
pair_parts a b j n h = grind (arith, nat_tests)

inserted_rules : (documents : FinMap place_cmp Document) (job number : ℕ) (document : Document) → ((place : ℕ × ℕ) (other : Document) → get documents place ≡ Some other → IsDocumentAt place other) → IsDocumentAt (job, number) document →
    (place : ℕ × ℕ) (other : Document) → get (insert documents (document.job, document.number) document) place ≡ Some other → IsDocumentAt place other
inserted_rules documents job number document rules at place other here =
    (elim ((document.job == place.0) && (document.number == place.1)) as (λ b. ((document.job == place.0) && (document.number == place.1)) ≡ b → cond b (Some document) (get documents place) ≡ Some other → IsDocumentAt place other) [
      | true ↦ λ same is.
          let parts = pair_parts document.job document.number place.0 place.1 same in
          let this : document ≡ other = cc in
          subst (λ (d : Document). IsDocumentAt place d) this (record { of_job = parts.0; numbered = parts.1; fits = at.fits })
      | false ↦ λ _ is. rules place other is
    ]) refl (sym (document_inserted documents document place.0 place.1) ∙ here)

pub documents_with : (documents : FinMap place_cmp Document) (job before after : ℕ) (document : Option Document) → GoesOn job before after document →
    ((place : ℕ × ℕ) (other : Document) → get documents place ≡ Some other → IsDocumentAt place other) →
    (place : ℕ × ℕ) (other : Document) → get (with_document documents document) place ≡ Some other → IsDocumentAt place other
documents_with documents job before after None goes rules = rules
documents_with documents job before after (Some document) goes rules = inserted_rules documents job (before + 1) document rules goes.1

-- ---- a job's documents are those from 1 on, as many as it was given
one_more_here : (before n : ℕ) → (((before + 1) == n) || (nat_le 1 n && nat_le n before)) ≡ (nat_le 1 n && nat_le n (before + 1))
one_more_here before n = grind (arith, nat_tests)

is_some_either : {A : Type 0} (b : Bool) (x : A) (o : Option A) → is_some (cond b (Some x) o) ≡ (b || is_some o)
is_some_either true x o = refl
is_some_either false x o = refl

elsewhere : (a j number b n : ℕ) (o : Bool) → a ≡ number → (j == number) ≡ false → (((a == j) && (b == n)) || o) ≡ o
elsewhere a j number b n o same other = grind (arith, nat_tests)

here_too : (a j number b n : ℕ) (o : Bool) → a ≡ number → (j == number) ≡ true → (((a == j) && (b == n)) || o) ≡ ((b == n) || o)
here_too a j number b n o same this = grind (arith, nat_tests)

module _ (documents : FinMap place_cmp Document) (jobs : FinMap nat_cmp Job) (number before : ℕ) (job : Job)
    (all : (j n : ℕ) → is_some (get documents (j, n)) ≡ has_document (get jobs j) n)
    (had : (n : ℕ) → has_document (get jobs number) n ≡ (nat_le 1 n && nat_le n before))
    (unfinished : is_unfinished job.standing.state ≡ true) where
  has_more : (n : ℕ) → has_document (Some job) n ≡ (nat_le 1 n && nat_le n job.standing.documents)
  has_more n = ap (λ b. b && nat_le 1 n && nat_le n job.standing.documents) unfinished

  none_came : job.standing.documents ≡ before → (j n : ℕ) → is_some (get documents (j, n)) ≡ has_document (get (insert jobs number job) j) n
  none_came same j n =
      all j n
      ∙ (elim (j == number) as (λ b. (j == number) ≡ b → has_document (get jobs j) n ≡ has_document (cond b (Some job) (get jobs j)) n) [
        | true ↦ λ this. ap (λ q. has_document (get jobs q) n) (eqb-true j number this) ∙ had n ∙ ap (λ most. nat_le 1 n && nat_le n most) (sym same) ∙ sym (has_more n)
        | false ↦ λ _. refl
      ]) refl
      ∙ ap (λ o. has_document o n) (sym (job_inserted jobs number job j))

  one_came : (document : Document) → job.standing.documents ≡ before + 1 → IsDocumentAt (number, before + 1) document →
      (j n : ℕ) → is_some (get (insert documents (document.job, document.number) document) (j, n)) ≡ has_document (get (insert jobs number job) j) n
  one_came document more at j n =
      ap is_some (document_inserted documents document j n) ∙ is_some_either _ document (get documents (j, n))
      ∙ ap (λ o. ((document.job == j) && (document.number == n)) || o) (all j n)
      ∙ (elim (j == number) as (λ b. (j == number) ≡ b → (((document.job == j) && (document.number == n)) || has_document (get jobs j) n) ≡ has_document (cond b (Some job) (get jobs j)) n) [
        | true ↦ λ this.
            here_too document.job j number document.number n (has_document (get jobs j) n) at.of_job this
            ∙ ap (λ q. (document.number == n) || has_document (get jobs q) n) (eqb-true j number this)
            ∙ ap (λ o. (document.number == n) || o) (had n)
            ∙ ap (λ k. (k == n) || (nat_le 1 n && nat_le n before)) at.numbered
            ∙ one_more_here before n ∙ ap (λ most. nat_le 1 n && nat_le n most) (sym more) ∙ sym (has_more n)
        | false ↦ λ other. elsewhere document.job j number document.number n (has_document (get jobs j) n) at.of_job other
      ]) refl
      ∙ ap (λ o. has_document o n) (sym (job_inserted jobs number job j))

  pub all_documents_with : (document : Option Document) → GoesOn number before job.standing.documents document →
      (j n : ℕ) → is_some (get (with_document documents document) (j, n)) ≡ has_document (get (insert jobs number job) j) n
  all_documents_with None goes = none_came goes
  all_documents_with (Some document) goes = one_came document goes.0 goes.1

-- ---- a job that ends has no documents any more
pub left_document : (documents : FinMap place_cmp Document) (number : ℕ) (place : ℕ × ℕ) → get (without_documents documents number) place ≡ cond (not (place.0 == number)) (get documents place) None
left_document documents number place =
    get-retain_keys documents (λ (q : ℕ × ℕ). not (q.0 == number)) place (λ q tie. ap (λ (q : ℕ × ℕ). not (q.0 == number)) (sym (exact_places place q tie)))

pub documents_left : (documents : FinMap place_cmp Document) (number : ℕ) → ((place : ℕ × ℕ) (other : Document) → get documents place ≡ Some other → IsDocumentAt place other) →
    (place : ℕ × ℕ) (other : Document) → get (without_documents documents number) place ≡ Some other → IsDocumentAt place other
documents_left documents number rules place other here =
    (elim (place.0 == number) as (λ b. cond (not b) (get documents place) None ≡ Some other → IsDocumentAt place other) [
      | true ↦ λ is. absurd (let no : ⊥ = cc in no)
      | false ↦ λ is. rules place other is
    ]) (sym (left_document documents number place) ∙ here)

pub all_documents_left : (documents : FinMap place_cmp Document) (jobs : FinMap nat_cmp Job) (number : ℕ) (job : Job) →
    ((j n : ℕ) → is_some (get documents (j, n)) ≡ has_document (get jobs j) n) → is_unfinished job.standing.state ≡ false →
    (j n : ℕ) → is_some (get (without_documents documents number) (j, n)) ≡ has_document (get (insert jobs number job) j) n
all_documents_left documents jobs number job all ended j n =
    ap is_some (left_document documents number (j, n))
    ∙ (elim (j == number) as (λ b. is_some (cond (not b) (get documents (j, n)) None) ≡ has_document (cond b (Some job) (get jobs j)) n) [
      | true ↦ sym (ap (λ b. b && nat_le 1 n && nat_le n job.standing.documents) ended)
      | false ↦ all j n
    ])
    ∙ ap (λ o. has_document o n) (sym (job_inserted jobs number job j))
