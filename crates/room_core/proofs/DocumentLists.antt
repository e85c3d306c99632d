-- The list of the documents of a room, and the map that it stands for.
use Rattle.std.proofs.Common.{◌≡◌, ℕ, Bool, true, false, cond, ◌==◌, ◌&&◌, not, List, [], ◌∷◌, ◌++◌, filter, Option, Some, None, refl, sym, ap, ◌∙◌, arith, ◌≢◌, ◌+◌, append-nil}
use Rattle.std.specs.List.{find as first, AllByRecursion}
use Rattle.std.specs.Ordering.{eq_by_cmp}
use Rattle.std.specs.declared.cmp.Ordering.TheVariants.{Equal}
use Rattle.std.specs.FinMap.{get, insert, get-retain_keys, same_map}
use Rattle.std.proofs.lemmas.Bool.Decides.{nat_tests}
use Rattle.account_rules.specs.declared.job.Document.{Document}
use Rattle.account_state.specs.Rooms.{place_cmp}
use Rattle.room_core.specs.ProofRoomLists.{document_map, PlacesOnce}
use Rattle.account_state.specs.Changes.{without_documents, with_document}
use Rattle.std.specs.Option.{option_to_list}
use Rattle.account_state.specs.Conditions.{GoesOn}
use Rattle.account_state.proofs.DocumentMaps.{place_cmp_total, exact_places, pair_tie}
use Rattle.room_core.proofs.KeyedMaps.{get_keyed, push_keyed, same_option}

place_tie : (place : ℕ × ℕ) (document : Document) → eq_by_cmp place_cmp place (document.job, document.number) ≡ ((document.job == place.0) && (document.number == place.1))
place_tie place document = pair_tie place.0 place.1 document.job document.number

abbrev at_place : ℕ × ℕ → Document → Bool
at_place place document = (document.job == place.0) && (document.number == place.1)

pub get_document : (documents : List Document) (job number : ℕ) → get (document_map documents) (job, number) ≡ first (λ document. (document.job == job) && (document.number == number)) documents
get_document documents job number =
    get_keyed place_cmp_total (λ (document : Document). (document.job, document.number)) (λ (document : Document). document) at_place place_tie documents (job, number) ∙ same_option _

document_map-push : (documents : List Document) (document : Document) → get (document_map documents) (document.job, document.number) ≡ None →
    document_map (documents ++ document ∷ []) ≡ insert (document_map documents) (document.job, document.number) document
document_map-push documents document none =
    push_keyed place_cmp_total (λ (document : Document). (document.job, document.number)) (λ (document : Document). document) at_place place_tie exact_places documents document none

-- ---- the documents of one job are dropped
hidden : {X : Type 0} (job a b x y : ℕ) (s r : Option X) → (x == job) ≡ true → cond (not (a == job)) r None ≡ cond (not (a == job)) (cond ((x == a) && (y == b)) s r) None
hidden job a b x y s r same = grind (arith, nat_tests)

shown : {X : Type 0} (job a b x y : ℕ) (s r : Option X) → (x == job) ≡ false → cond ((x == a) && (y == b)) s (cond (not (a == job)) r None) ≡ cond (not (a == job)) (cond ((x == a) && (y == b)) s r) None
shown job a b x y s r other = grind (arith, nat_tests)

no_more : (b : Bool) → ◌≡◌ {A = Option Document} None (cond b None None)
no_more true = refl
no_more false = refl

first_of_others : (documents : List Document) (job a b : ℕ) →
    first (at_place (a, b)) (filter (λ document. not (document.job == job)) documents) ≡ cond (not (a == job)) (first (at_place (a, b)) documents) None
first_of_others [] job a b = no_more (not (a == job))
first_of_others (d ∷ ds) job a b =
    let rest = first (at_place (a, b)) ds in
    let others = filter (λ (document : Document). not (document.job == job)) ds in
    (elim (d.job == job) as (λ v. (d.job == job) ≡ v → first (at_place (a, b)) (cond (not v) (d ∷ others) others) ≡ cond (not (a == job)) (cond (at_place (a, b) d) (Some d) rest) None) [
      | true ↦ λ same. first_of_others ds job a b ∙ hidden job a b d.job d.number (Some d) rest same
      | false ↦ λ other. ap (cond (at_place (a, b) d) (Some d)) (first_of_others ds job a b) ∙ shown job a b d.job d.number (Some d) rest other
    ]) refl

same_job : (place q : ℕ × ℕ) → place_cmp place q ≡ Equal → place ≡ q
same_job place q e = exact_places place q e

pub document_map-others : (documents : List Document) (job : ℕ) → document_map (filter (λ document. not (document.job == job)) documents) ≡ without_documents (document_map documents) job
document_map-others documents job = same_map place_cmp_total exact_places _ _ (λ place.
    get_document (filter (λ (document : Document). not (document.job == job)) documents) place.0 place.1
    ∙ first_of_others documents job place.0 place.1
    ∙ ap (λ o. cond (not (place.0 == job)) o None) (sym (get_document documents place.0 place.1))
    ∙ sym (get-retain_keys (document_map documents) (λ (q : ℕ × ℕ). not (q.0 == job)) place (λ q tie. ap (λ (q : ℕ × ℕ). not (q.0 == job)) (sym (same_job place q tie)))))

-- ---- the list of documents
differs : (document other : Document) → ((other.job == document.job) && (other.number == document.number)) ≡ false → document.job ≡ other.job → document.number ≢ other.number
differs document other h same = grind (arith, nat_tests)

apart_push : (d : Document) (documents : List Document) (document : Document) → AllByRecursion (λ other. other.job ≡ d.job → other.number ≢ d.number) documents → (document.job ≡ d.job → document.number ≢ d.number) →
    AllByRecursion (λ (other : Document). other.job ≡ d.job → other.number ≢ d.number) (documents ++ document ∷ [])
apart_push d [] document apart last = (last, tt)
apart_push d (x ∷ xs) document apart last = (apart.0, apart_push d xs document apart.1 last)

absent : {A : Type 0} (b : Bool) (x : A) (o : Option A) → cond b (Some x) o ≡ None → (b ≡ false) × (o ≡ None)
absent true x o none = absurd (let no : ⊥ = cc in no)
absent false x o none = (refl, none)

places_push : (documents : List Document) (document : Document) → PlacesOnce documents → first (λ d. (d.job == document.job) && (d.number == document.number)) documents ≡ None → PlacesOnce (documents ++ document ∷ [])
places_push [] document once none = (tt, tt)
places_push (d ∷ ds) document once none =
    let parts = absent ((d.job == document.job) && (d.number == document.number)) d (first (λ (d : Document). (d.job == document.job) && (d.number == document.number)) ds) none in
    (apart_push d ds document once.0 (λ same. differs document d parts.0 same), places_push ds document once.1 parts.1)

-- the next document has a place of its own
pub list_with : (documents : List Document) (job before after : ℕ) (document : Option Document) → GoesOn job before after document → get (document_map documents) (job, before + 1) ≡ None → PlacesOnce documents →
    PlacesOnce (documents ++ option_to_list document) × (document_map (documents ++ option_to_list document) ≡ with_document (document_map documents) document)
list_with documents job before after None goes none once = rw append-nil (once, refl)
list_with documents job before after (Some document) goes none once =
    let free : get (document_map documents) (document.job, document.number) ≡ None = ap (λ n. get (document_map documents) (n, document.number)) goes.1.of_job ∙ ap (λ n. get (document_map documents) (job, n)) goes.1.numbered ∙ none in
    (places_push documents document once (sym (get_document documents document.job document.number) ∙ free), document_map-push documents document free)

apart_filter : (d : Document) (documents : List Document) (job : ℕ) → AllByRecursion (λ other. other.job ≡ d.job → other.number ≢ d.number) documents →
    AllByRecursion (λ (other : Document). other.job ≡ d.job → other.number ≢ d.number) (filter (λ document. not (document.job == job)) documents)
apart_filter d [] job apart = tt
apart_filter d (x ∷ xs) job apart =
    (elim (x.job == job) as (λ b. AllByRecursion (λ (other : Document). other.job ≡ d.job → other.number ≢ d.number) (cond (not b) (x ∷ filter (λ (document : Document). not (document.job == job)) xs) (filter (λ (document : Document). not (document.job == job)) xs))) [
      | true ↦ apart_filter d xs job apart.1
      | false ↦ (apart.0, apart_filter d xs job apart.1)
    ])

pub places_left : (documents : List Document) (job : ℕ) → PlacesOnce documents → PlacesOnce (filter (λ document. not (document.job == job)) documents)
places_left [] job once = tt
places_left (d ∷ ds) job once =
    (elim (d.job == job) as (λ b. PlacesOnce (cond (not b) (d ∷ filter (λ (document : Document). not (document.job == job)) ds) (filter (λ (document : Document). not (document.job == job)) ds))) [
      | true ↦ places_left ds job once.1
      | false ↦ (apart_filter d ds job once.0, places_left ds job once.1)
    ])
