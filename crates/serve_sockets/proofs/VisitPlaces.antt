-- Each place of a journal is of one visit.
use Rattle.std.proofs.Common.{◌≡◌, ◌≤◌, ◌<◌, ◌==◌, ◌⊎◌, ◌+◌, ℕ, Bool, suc, if◌then◌else◌, List, [], ◌∷◌, ◌++◌, length, refl, sym, ap, subst, ◌∙◌, arith, inl, inr}
use Rattle.std.proofs.lemmas.Bool.{cases_eq, cases_lt, eq-eqb, ne_eqb}
use Rattle.std.proofs.lemmas.List.Elements.{Contains-append_cases, Contains-append_left, Contains-append_right}
use Rattle.std.specs.Bool.{⊤}
use Rattle.std.specs.List.{Contains}
use Rattle.slab.proofs.SlabLemmas.{Contains-cons, Contains-cons_cases}
use Rattle.serve_peers.specs.Journals.{Told}
use Rattle.serve_sockets.proofs.Answering.{none_there, places_behind, places_from}
use Rattle.serve_sockets.specs.Visits.{Before, Over, There, Visit}

-- each place before the end is of one visit
pub record IsShared (places : Visit → List ℕ) (end : ℕ) : Type 0 where
  pub asker : ℕ → Visit
  pub its : (visit : Visit) (place : ℕ) → Contains (places visit) place → (place < end) × (asker place ≡ visit)
  pub all : (place : ℕ) → place < end → Contains (places (asker place)) place

pub moves : (was now : Visit → List ℕ) (end : ℕ) (to : Visit → Visit) → ((visit : Visit) (place : ℕ) → Contains (was visit) place → Contains (now (to visit)) place)
    → ((visit : Visit) (place : ℕ) → Contains (now visit) place → (from : Visit) × Contains (was from) place × (to from ≡ visit)) → IsShared was end → IsShared now end
moves was now end to lands comes shared = record {
  asker = λ place. to (shared.asker place);
  its = λ visit place there.
      let back = comes visit place there in
      let it = shared.its back.0 place back.1 in
      (it.0, ap to it.1 ∙ back.2);
  all = λ place low. lands (shared.asker place) place (shared.all place low);
}

-- ---- new places

abbrev asker_by : {A B : Type 0} → A ⊎ B → (old new : Visit) → Visit
asker_by (inl a) old new = old
asker_by (inr b) old new = new

before_end : (place end : ℕ) (d : (place < end) ⊎ (end ≤ place)) (old new : Visit) → place < end → asker_by d old new ≡ old
before_end place end (inl low) old new low2 = refl
before_end place end (inr high) old new low2 = absurd (omega (arith, high, low2))

behind_end : (place end : ℕ) (d : (place < end) ⊎ (end ≤ place)) (old new : Visit) → end ≤ place → asker_by d old new ≡ new
behind_end place end (inl low) old new high = absurd (omega (arith, high, low))
behind_end place end (inr high) old new high2 = refl

pub grows : (was now : Visit → List ℕ) (end later : ℕ) (turner : Visit) → end ≤ later → ((visit : Visit) (place : ℕ) → Contains (was visit) place → Contains (now visit) place)
    → ((visit : Visit) (place : ℕ) → Contains (now visit) place → Contains (was visit) place ⊎ ((visit ≡ turner) × (end ≤ place) × (place < later))) → ((place : ℕ) → end ≤ place → place < later → Contains (now turner) place) → IsShared was end → IsShared now later
grows was now end later turner on keeps comes news shared =
    let asker : ℕ → Visit = λ place. asker_by (cases_lt place end) (shared.asker place) turner in
    let old_asker = λ (place : ℕ) (low : place < end). before_end place end (cases_lt place end) (shared.asker place) turner low in
    let new_asker = λ (place : ℕ) (high : end ≤ place). behind_end place end (cases_lt place end) (shared.asker place) turner high in
    record {
      asker = asker;
      its = λ visit place there. elim (comes visit place there) [
        | inl old ↦ let it = shared.its visit place old in let low : place < end = it.0 in ((omega (arith, low, on)), old_asker place low ∙ it.1)
        | inr (is, high, low) ↦ (low, new_asker place high ∙ sym is)
      ];
      all = λ place low. elim (cases_lt place end) [
        | inl first ↦ subst (λ (it : Visit). Contains (now it) place) (sym (old_asker place first)) (keeps (shared.asker place) place (shared.all place first))
        | inr high ↦ subst (λ (it : Visit). Contains (now it) place) (sym (new_asker place high)) (news place high low)
      ];
    }

-- one has all of these, and those from an end to a later one
pub record Grew (base : List ℕ) (end later : ℕ) (its : List ℕ) : Type 0 where
  pub keeps : (place : ℕ) → Contains base place → Contains its place
  pub comes : (place : ℕ) → Contains its place → Contains base place ⊎ ((end ≤ place) × (place < later))
  pub news : (place : ℕ) → end ≤ place → place < later → Contains its place

pub grew_not : (base : List ℕ) (end later : ℕ) → later ≤ end → Grew base end later base
grew_not base end later none = record { keeps = λ place there. there; comes = λ place there. inl there; news = λ place high low. absurd (omega (arith, none, high, low)) }

pub grew_then : (base : List ℕ) (end mid later : ℕ) (some its : List ℕ) → end ≤ mid → mid ≤ later → Grew base end mid some → Grew some mid later its → Grew base end later its
grew_then base end mid later some its low high first more = record {
  keeps = λ place there. more.keeps place (first.keeps place there);
  comes = λ place there. elim (more.comes place there) [
    | inl old ↦ elim (first.comes place old) [
      | inl older ↦ inl older
      | inr (behind, before) ↦ inr (behind, omega (arith, before, high))
    ]
    | inr (behind, before) ↦ inr ((omega (arith, behind, low)), before)
  ];
  news = λ place behind before. elim (cases_lt place mid) [
    | inl first_part ↦ more.keeps place (first.news place behind first_part)
    | inr second ↦ more.news place second before
  ];
}

places_before : (n : ℕ) (more : List Told) (place : ℕ) → Contains (places_from n more) place → place < n + length more
places_before n [] place there = absurd (none_there place there)
places_before n (told ∷ more) place there =
    elim (Contains-cons_cases n place (places_from (suc n) more) there) [
      | inl same ↦ omega (arith, same)
      | inr later ↦ let low : place < suc n + length more = places_before (suc n) more place later in omega (arith, low)
    ]

places_there : (n : ℕ) (more : List Told) (place : ℕ) → n ≤ place → place < n + length more → Contains (places_from n more) place
places_there n [] place high low = absurd (let much : place < n + 0 = low in omega (arith, high, much))
places_there n (told ∷ more) place high low =
    elim (cases_eq n place) [
      | inl same ↦ subst (λ (it : ℕ). Contains (n ∷ places_from (suc n) more) it) same (0, (omega arith), refl)
      | inr differs ↦
          let much : place < n + suc (length more) = low in
          let behind : suc n ≤ place = omega (arith, high, differs) in
          Contains-cons n place (places_from (suc n) more) (places_there (suc n) more place behind (omega (arith, much)))
    ]

pub grew_by : (base : List ℕ) (n later : ℕ) (more : List Told) → later ≡ n + length more → Grew base n later (base ++ places_from n more)
grew_by base n later more is = record {
  keeps = λ place there. Contains-append_left base (places_from n more) place there;
  comes = λ place there. elim (Contains-append_cases base (places_from n more) place there) [
    | inl old ↦ inl old
    | inr new ↦ let low : place < n + length more = places_before n more place new in inr (places_behind n more place new, omega (arith, low, is))
  ];
  news = λ place high low. Contains-append_right base (places_from n more) place (places_there n more place high (omega (arith, low, is)));
}

-- ---- where one's places go

-- they stay its, or go
abbrev pub Split : (had stays goes : List ℕ) → Type 0
Split had stays goes = ((stays ≡ had) × (goes ≡ [])) ⊎ ((stays ≡ []) × (goes ≡ had))

abbrev target : {A B : Type 0} → A ⊎ B → (stay go : Visit) → Visit
target (inl a) stay go = stay
target (inr b) stay go = go

in_none : (list : List ℕ) (place : ℕ) → list ≡ [] → Contains list place → ⊥
in_none list place none there = none_there place (subst (λ (at : List ℕ). Contains at place) none there)

as_same : (list other : List ℕ) (place : ℕ) → list ≡ other → Contains list place → Contains other place
as_same list other place same there = subst (λ (at : List ℕ). Contains at place) same there

from_stays : (had stays goes : List ℕ) (d : Split had stays goes) (stay go : Visit) (place : ℕ) → Contains stays place → Contains had place × (target d stay go ≡ stay)
from_stays had stays goes (inl is) stay go place there = (as_same stays had place is.0 there, refl)
from_stays had stays goes (inr is) stay go place there = absurd (in_none stays place is.0 there)

from_goes : (had stays goes : List ℕ) (d : Split had stays goes) (stay go : Visit) (place : ℕ) → Contains goes place → Contains had place × (target d stay go ≡ go)
from_goes had stays goes (inl is) stay go place there = absurd (in_none goes place is.1 there)
from_goes had stays goes (inr is) stay go place there = (as_same goes had place is.1 there, refl)

lands_by : (had stays goes : List ℕ) (d : Split had stays goes) (stay go : Visit) (now : Visit → List ℕ) (place : ℕ) → now stay ≡ stays → now go ≡ goes → Contains had place → Contains (now (target d stay go)) place
lands_by had stays goes (inl is) stay go now place at_stay at_go there = as_same had (now stay) place (sym is.0 ∙ sym at_stay) there
lands_by had stays goes (inr is) stay go now place at_stay at_go there = as_same had (now go) place (sym is.1 ∙ sym at_go) there

-- whoever is there keeps its places, or they go to the visit that is over
module _ (was now : Visit → List ℕ) (out : ℕ → Visit) (stays goes : ℕ → List ℕ) (split : (key : ℕ) → Split (was (There key)) (stays key) (goes key)) where
  goes_to : Visit → Visit
  goes_to (There key) = target (split key) (There key) (out key)
  goes_to (Over n key) = Over n key
  goes_to (Before n key) = Before n key

  abbrev IsNotThere : Visit → Type 0
  IsNotThere (There key) = ⊥
  IsNotThere (Over n key) = ⊤
  IsNotThere (Before n key) = ⊤

  pub parts : (end : ℕ) → ((key : ℕ) → now (There key) ≡ stays key) → ((key : ℕ) → now (out key) ≡ goes key) → ((visit : Visit) → IsNotThere visit → (place : ℕ) → Contains (was visit) place → Contains (now visit) place)
      → ((visit : Visit) → IsNotThere visit → (place : ℕ) → Contains (now visit) place → Contains (was visit) place ⊎ ((key : ℕ) × (visit ≡ out key))) → IsShared was end → IsShared now end
  unfolding goes_to
  parts end at_there at_out lands comes shared =
      let gone = λ (visit : Visit) (key : ℕ) (place : ℕ) (is : visit ≡ out key) (there : Contains (now visit) place).
      from_goes (was (There key)) (stays key) (goes key) (split key) (There key) (out key) place (as_same (now visit) (goes key) place (ap now is ∙ at_out key) there) in
      moves was now end goes_to
      (elim [
        | There key ↦ λ place there. lands_by (was (There key)) (stays key) (goes key) (split key) (There key) (out key) now place (at_there key) (at_out key) there
        | Over n key ↦ λ place there. lands (Over n key) tt place there
        | Before n key ↦ λ place there. lands (Before n key) tt place there
      ])
      (elim [
        | There key ↦ λ place there. let it = from_stays (was (There key)) (stays key) (goes key) (split key) (There key) (out key) place (as_same (now (There key)) (stays key) place (at_there key) there) in (There key, it.0, it.1)
        | Over n key ↦ λ place there. elim (comes (Over n key) tt place there) [
          | inl old ↦ (Over n key, old, refl)
          | inr (from, is) ↦ let it = gone (Over n key) from place is there in (There from, it.0, it.1 ∙ sym is)
        ]
        | Before n key ↦ λ place there. elim (comes (Before n key) tt place there) [
          | inl old ↦ (Before n key, old, refl)
          | inr (from, is) ↦ let it = gone (Before n key) from place is there in (There from, it.0, it.1 ∙ sym is)
        ]
      ])
      shared

-- ---- one step

-- what those of one step have, and what all others had
abbrev pub at_step : (n step : ℕ) (its was : List ℕ) → List ℕ
at_step n step its was = if n == step then its else was

pub at_it : (n step : ℕ) (its was : List ℕ) → n ≡ step → at_step n step its was ≡ its
at_it n step its was same = ap (λ (b : Bool). if b then its else was) (eq-eqb n step same)

pub at_others : (n step : ℕ) (its was : List ℕ) → (n ≡ step → ⊥) → at_step n step its was ≡ was
at_others n step its was differs = ap (λ (b : Bool). if b then its else was) (ne_eqb n step differs)

abbrev pub next_places : (step : ℕ) (was : Visit → List ℕ) (here over before : ℕ → List ℕ) → Visit → List ℕ
next_places step was here over before (There key) = here key
next_places step was here over before (Over n key) = at_step n step (over key) (was (Over n key))
next_places step was here over before (Before n key) = at_step n step (before key) (was (Before n key))

module _ (step end later turner : ℕ) (was : Visit → List ℕ) (base its here over before : ℕ → List ℕ) where
  abbrev turned_places : Visit → List ℕ
  turned_places = next_places step was base (λ key. []) before

  abbrev grown_places : Visit → List ℕ
  grown_places = next_places step was its (λ key. []) before

  abbrev left_places : Visit → List ℕ
  left_places = next_places step was here over before

  pub turned_shared : ((key : ℕ) → was (Over step key) ≡ []) → ((key : ℕ) → was (Before step key) ≡ []) → ((key : ℕ) → Split (was (There key)) (base key) (before key)) → IsShared was end → IsShared turned_places end
  turned_shared no_over no_before split shared =
      parts was turned_places (λ key. Before step key) base before split end (λ key. refl) (λ key. at_it step step (before key) (was (Before step key)) refl)
      (elim [
        | There key ↦ λ never. absurd never
        | Over n key ↦ λ is place there. elim (cases_eq n step) [
          | inl same ↦ absurd (in_none (was (Over n key)) place (subst (λ (it : ℕ). was (Over it key) ≡ []) (sym same) (no_over key)) there)
          | inr differs ↦ as_same (was (Over n key)) (turned_places (Over n key)) place (sym (at_others n step [] (was (Over n key)) differs)) there
        ]
        | Before n key ↦ λ is place there. elim (cases_eq n step) [
          | inl same ↦ absurd (in_none (was (Before n key)) place (subst (λ (it : ℕ). was (Before it key) ≡ []) (sym same) (no_before key)) there)
          | inr differs ↦ as_same (was (Before n key)) (turned_places (Before n key)) place (sym (at_others n step (before key) (was (Before n key)) differs)) there
        ]
      ])
      (elim [
        | There key ↦ λ never. absurd never
        | Over n key ↦ λ is place there. elim (cases_eq n step) [
          | inl same ↦ absurd (in_none (turned_places (Over n key)) place (at_it n step [] (was (Over n key)) same) there)
          | inr differs ↦ inl (as_same (turned_places (Over n key)) (was (Over n key)) place (at_others n step [] (was (Over n key)) differs) there)
        ]
        | Before n key ↦ λ is place there. elim (cases_eq n step) [
          | inl same ↦ inr (key, ap (λ (it : ℕ). Before it key) same)
          | inr differs ↦ inl (as_same (turned_places (Before n key)) (was (Before n key)) place (at_others n step (before key) (was (Before n key)) differs) there)
        ]
      ])
      shared

  pub grown_shared : end ≤ later → ((key : ℕ) (place : ℕ) → Contains (base key) place → Contains (its key) place) → ((key : ℕ) (place : ℕ) → Contains (its key) place → Contains (base key) place ⊎ ((key ≡ turner) × (end ≤ place) × (place < later)))
      → ((place : ℕ) → end ≤ place → place < later → Contains (its turner) place) → IsShared turned_places end → IsShared grown_places later
  grown_shared on keeps comes news shared =
      grows turned_places grown_places end later (There turner) on
      (elim [
        | There key ↦ λ place there. keeps key place there
        | Over n key ↦ λ place there. there
        | Before n key ↦ λ place there. there
      ])
      (elim [
        | There key ↦ λ place there. elim (comes key place there) [
          | inl old ↦ inl old
          | inr (same, high, low) ↦ inr (ap (λ (it : ℕ). There it) same, high, low)
        ]
        | Over n key ↦ λ place there. inl there
        | Before n key ↦ λ place there. inl there
      ])
      news shared

  pub left_shared : ((key : ℕ) → Split (its key) (here key) (over key)) → IsShared grown_places later → IsShared left_places later
  left_shared split shared =
      parts grown_places left_places (λ key. Over step key) here over split later (λ key. refl) (λ key. at_it step step (over key) (was (Over step key)) refl)
      (elim [
        | There key ↦ λ never. absurd never
        | Over n key ↦ λ is place there. elim (cases_eq n step) [
          | inl same ↦ absurd (in_none (grown_places (Over n key)) place (at_it n step [] (was (Over n key)) same) there)
          | inr differs ↦ as_same (grown_places (Over n key)) (left_places (Over n key)) place (at_others n step [] (was (Over n key)) differs ∙ sym (at_others n step (over key) (was (Over n key)) differs)) there
        ]
        | Before n key ↦ λ is place there. there
      ])
      (elim [
        | There key ↦ λ never. absurd never
        | Over n key ↦ λ is place there. elim (cases_eq n step) [
          | inl same ↦ inr (key, ap (λ (it : ℕ). Over it key) same)
          | inr differs ↦ inl (as_same (left_places (Over n key)) (grown_places (Over n key)) place (at_others n step (over key) (was (Over n key)) differs ∙ sym (at_others n step [] (was (Over n key)) differs)) there)
        ]
        | Before n key ↦ λ is place there. inl there
      ])
      shared
