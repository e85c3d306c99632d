-- The list of the grants of a room, and the map that it stands for.
use Rattle.std.proofs.Common.{◌≡◌, ◌≢◌, ℕ, ◌+◌, false, cond, ◌==◌, List, [], ◌∷◌, ◌++◌, Some, None, option_map, refl, sym, ap, ◌∙◌, arith, Bool, true, Option}
use Rattle.std.specs.List.{find as first, sum_by, AllByRecursion}
use Rattle.std.specs.Cmp.{nat_cmp_total}
use Rattle.std.specs.Ordering.{nat_cmp}
use Rattle.std.specs.FinMap.{get, insert, entries, nat_cmp-IsAntisymmetric, len-empty, len-entries}
use Rattle.std.proofs.lemmas.List.{nil_from_length}
use Rattle.std.proofs.lemmas.List.Sums.{sum_by-cons}
use Rattle.std.proofs.lemmas.Bool.Decides.{nat_tests}
use Rattle.account_rules.specs.declared.account.Grant.{Grant}
use Rattle.account_state.specs.Rooms.{RoomValue}
use Rattle.room_core.specs.ProofRoomLists.{grant_map, by_month, MonthsOnce}
use Rattle.account_state.specs.Sums.{granted_to, pages_by}
use Rattle.account_state.proofs.FiniteMaps.{number_tie, sum-insert_new}
use Rattle.room_core.proofs.KeyedMaps.{get_keyed, push_keyed}

pub get_pages : (grants : List Grant) (month : ℕ) → get (grant_map grants) month ≡ option_map (λ grant. grant.pages) (first (λ grant. grant.month == month) grants)
get_pages grants month =
    get_keyed nat_cmp_total (λ (grant : Grant). grant.month) (λ (grant : Grant). grant.pages) (λ month (grant : Grant). grant.month == month) (λ month (grant : Grant). number_tie month grant.month) grants month

pub grant_map-push : (grants : List Grant) (grant : Grant) → get (grant_map grants) grant.month ≡ None → grant_map (grants ++ grant ∷ []) ≡ insert (grant_map grants) grant.month grant.pages
grant_map-push grants grant none =
    push_keyed nat_cmp_total (λ (grant : Grant). grant.month) (λ (grant : Grant). grant.pages) (λ month (grant : Grant). grant.month == month) (λ month (grant : Grant). number_tie month grant.month) nat_cmp-IsAntisymmetric grants grant none

-- ---- a sum over the grants, each month once, is the sum over the map's entries
other_month : (a b : ℕ) → a ≢ b → (a == b) ≡ false
other_month a b h = grind (arith, nat_tests)

none_later : (month : ℕ) (grants : List Grant) → AllByRecursion (λ other. other.month ≢ month) grants → option_map (λ (grant : Grant). grant.pages) (first (λ grant. grant.month == month) grants) ≡ None
none_later month [] others = refl
none_later month (g ∷ gs) others =
    ap (λ b. option_map (λ (grant : Grant). grant.pages) (cond b (Some g) (first (λ grant. grant.month == month) gs))) (other_month g.month month others.0) ∙ none_later month gs others.1

no_entries : entries (grant_map []) ≡ []
no_entries = nil_from_length (entries (grant_map [])) (sym (len-entries (grant_map [])) ∙ len-empty nat_cmp ℕ)

pub sum-entries : (f : ℕ × ℕ → ℕ) (grants : List Grant) → MonthsOnce grants → sum_by f (entries (grant_map grants)) ≡ sum_by (λ grant. f (by_month grant)) grants
sum-entries f [] once = ap (sum_by f) no_entries
sum-entries f (g ∷ gs) once =
    sum-insert_new nat_cmp f nat_cmp_total (grant_map gs) g.month g.pages (get_pages gs g.month ∙ none_later g.month gs once.0)
    ∙ ap (λ n. f (by_month g) + n) (sum-entries f gs once.1)
    ∙ sym (sum_by-cons (λ (grant : Grant). f (by_month grant)) g gs)

-- what is summed over the list is what the room granted
pub granted_seen : (room view : RoomValue) (grants given : List Grant) (month : ℕ) → view ≡ room → view.grants ≡ grant_map grants → given ≡ grants → MonthsOnce grants →
    granted_to room month ≡ sum_by (λ grant. pages_by month (by_month grant)) given
granted_seen room view grants given month seen parts same once =
    ap (λ (r : RoomValue). granted_to r month) (sym seen) ∙ ap (λ m. sum_by (pages_by month) (entries m)) parts
    ∙ sum-entries (pages_by month) grants once ∙ ap (sum_by (λ (grant : Grant). pages_by month (by_month grant))) (sym same)

-- ---- one month more
months_apart : (a b : ℕ) → (a == b) ≡ false → b ≢ a
months_apart a b h = grind (arith, nat_tests)

apart_push : (month : ℕ) (grants : List Grant) (grant : Grant) → AllByRecursion (λ other. other.month ≢ month) grants → grant.month ≢ month → AllByRecursion (λ (other : Grant). other.month ≢ month) (grants ++ grant ∷ [])
apart_push month [] grant apart last = (last, tt)
apart_push month (g ∷ gs) grant apart last = (apart.0, apart_push month gs grant apart.1 last)

absent : (b : Bool) (g : Grant) (o : Option Grant) → option_map (λ (grant : Grant). grant.pages) (cond b (Some g) o) ≡ None → (b ≡ false) × (option_map (λ (grant : Grant). grant.pages) o ≡ None)
absent true g o none = absurd (let no : ⊥ = cc in no)
absent false g o none = (refl, none)

months_push : (grants : List Grant) (grant : Grant) → MonthsOnce grants → option_map (λ (grant : Grant). grant.pages) (first (λ g. g.month == grant.month) grants) ≡ None → MonthsOnce (grants ++ grant ∷ [])
months_push [] grant once none = (tt, tt)
months_push (g ∷ gs) grant once none =
    let parts = absent (g.month == grant.month) g (first (λ (g : Grant). g.month == grant.month) gs) none in
    (apart_push g.month gs grant once.0 (months_apart g.month grant.month parts.0), months_push gs grant once.1 parts.1)

pub list_with : (grants : List Grant) (grant : Grant) → get (grant_map grants) grant.month ≡ None → MonthsOnce grants → MonthsOnce (grants ++ grant ∷ [])
list_with grants grant none once = months_push grants grant once (sym (get_pages grants grant.month) ∙ none)
