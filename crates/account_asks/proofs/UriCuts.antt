-- A URI is cut into base, path and tail.
use Rattle.std.proofs.Common.{◌≡◌, ℕ, zero, suc, ◌+◌, ◌-◌, ◌<◌, Bool, true, false, cond, not, ◌||◌, nat_lt, List, [], ◌∷◌, ◌++◌, length, take, drop, append_assoc, append-nil, Option, Some, None, unwrap_or, refl, sym, ap, ◌∙◌, subst, arith, codes, nat_eq, length-append}
use Rattle.std.specs.List.{starts_with, list_any, position, prefix_len}
use Rattle.std.specs.Option.{option_map, option_and_then}
use Rattle.std.proofs.lemmas.Bool.Decides.{Decides-eqb, nat_tests}
use Rattle.std.proofs.lemmas.Bool.{eqb-true, or_parts}
use Rattle.std.proofs.lemmas.List.{take-append-drop, take_at, drop_at}
use Rattle.std.proofs.lemmas.Slice.Eq.{starts_is}
use Rattle.account_asks.specs.Requests.{up_to}
use Rattle.account_asks.specs.Uris.{UriParts, scheme_of, behind_scheme, is_slash, before_slash, from_slash, before_path, from_path, ends_path, before_query, parts_of}
use Rattle.account_asks.specs.UriLaws.{IsTail, IsMadeOf, UrisAreMadeOfParts}

-- ---- the base

mark_first : (bytes : List ℕ) → starts_with nat_eq bytes (codes "://") ≡ true → codes "://" ++ drop 3 bytes ≡ bytes
mark_first bytes is = sym ((starts_is Decides-eqb bytes (codes "://") true (sym is)).0 refl)

scheme_whole : (uri rest : List ℕ) → behind_scheme uri ≡ Some rest → scheme_of uri ++ (codes "://" ++ rest) ≡ uri
scheme_whole [] rest found = absurd (let never : ⊥ = cc in never)
scheme_whole (c ∷ uri) rest found =
    (elim (starts_with nat_eq (c ∷ uri) (codes "://")) as (λ b. starts_with nat_eq (c ∷ uri) (codes "://") ≡ b →
    cond b (Some (drop 3 (c ∷ uri))) (behind_scheme uri) ≡ Some rest → cond b [] (c ∷ scheme_of uri) ++ (codes "://" ++ rest) ≡ c ∷ uri) [
      | true ↦ λ mark here. let same : drop 3 (c ∷ uri) ≡ rest = cc in ap (λ (l : List ℕ). codes "://" ++ l) (sym same) ∙ mark_first (c ∷ uri) mark
      | false ↦ λ none later. ap (λ (l : List ℕ). c ∷ l) (scheme_whole uri rest later)
    ]) refl found

cut_whole : (bytes rest : List ℕ) (place : Option ℕ) → option_map (λ p. drop p bytes) place ≡ Some rest → up_to place bytes ++ rest ≡ bytes
cut_whole bytes rest None found = absurd (let never : ⊥ = cc in never)
cut_whole bytes rest (Some p) found = let same : drop p bytes ≡ rest = cc in ap (λ (l : List ℕ). take p bytes ++ l) (sym same) ∙ take-append-drop p bytes

authority_whole : (uri rest : List ℕ) (behind : Option (List ℕ)) → behind_scheme uri ≡ behind → option_and_then from_slash behind ≡ Some rest →
    (scheme_of uri ++ (codes "://" ++ before_slash (unwrap_or behind []))) ++ rest ≡ uri
authority_whole uri rest None is found = absurd (let never : ⊥ = cc in never)
authority_whole uri rest (Some behind) is found =
    append_assoc (scheme_of uri) (codes "://" ++ before_slash behind) rest
    ∙ ap (λ (l : List ℕ). scheme_of uri ++ l) (append_assoc (codes "://") (before_slash behind) rest)
    ∙ ap (λ (l : List ℕ). scheme_of uri ++ (codes "://" ++ l)) (cut_whole behind rest (position is_slash behind) found)
    ∙ scheme_whole uri behind is

-- what stands before the path, and from it on, are the URI
base_whole : (uri rest : List ℕ) → from_path uri ≡ Some rest → before_path uri ++ rest ≡ uri
base_whole uri rest found = authority_whole uri rest (behind_scheme uri) refl found

front_taken : (base rest uri : List ℕ) → base ++ rest ≡ uri → take (length uri - length rest) uri ≡ base
front_taken base rest uri whole =
    let long : length uri ≡ length base + length rest = sym (ap length whole) ∙ length-append base rest in
    let many : length uri - length rest ≡ length base = omega (arith, long) in
    ap (λ (n : ℕ). take n uri) many ∙ ap (take (length base)) (sym whole) ∙ take_at base rest (length base) refl

pub base_taken : (uri rest : List ℕ) → from_path uri ≡ Some rest → take (length uri - length rest) uri ≡ before_path uri
base_taken uri rest found = front_taken (before_path uri) rest uri (base_whole uri rest found)

-- ---- the path and the tail

first_below : (n : ℕ) → nat_lt 0 (suc n) ≡ true
first_below n = grind (arith, nat_tests)

same_test : (k n : ℕ) → nat_lt (1 + k) (suc n) ≡ nat_lt k n
same_test k n = grind (arith, nat_tests)

place_from : (here : Bool) (k n : ℕ) →
    cond (nat_lt (cond (not here) (1 + k) 0) (suc n)) (Some (cond (not here) (1 + k) 0)) None ≡ cond here (Some 0) (option_map (λ p. suc p) (cond (nat_lt k n) (Some k) None))
place_from true k n = ap (λ (b : Bool). cond b (Some 0) None) (first_below n)
place_from false k n =
    ap (λ (b : Bool). cond b (Some (1 + k)) None) (same_test k n)
    ∙ elim (nat_lt k n) as (λ b. cond b (Some (1 + k)) None ≡ option_map (λ p. suc p) (cond b (Some k) None)) [ true ↦ ap (λ (m : ℕ). Some m) (omega arith) | false ↦ refl ]

-- the first place, byte by byte
pub place_of : (test : ℕ → Bool) (c : ℕ) (bytes : List ℕ) → position test (c ∷ bytes) ≡ cond (test c) (Some 0) (option_map (λ p. suc p) (position test bytes))
place_of test c bytes = place_from (test c) (prefix_len (λ x. not (test x)) bytes) (length bytes)

-- the place one further on
one_on : (place : Option ℕ) (c : ℕ) (bytes : List ℕ) → up_to (option_map (λ p. suc p) place) (c ∷ bytes) ≡ c ∷ up_to place bytes
one_on None c bytes = refl
one_on (Some p) c bytes = refl

none_before : (test : ℕ → Bool) (bytes : List ℕ) → list_any test (up_to (position test bytes) bytes) ≡ false
none_before test [] = refl
none_before test (c ∷ bytes) =
    ap (λ (o : Option ℕ). list_any test (up_to o (c ∷ bytes))) (place_of test c bytes)
    ∙ (elim (test c) as (λ b. test c ≡ b → list_any test (up_to (cond b (Some 0) (option_map (λ p. suc p) (position test bytes))) (c ∷ bytes)) ≡ false) [
      | true ↦ λ _. refl
      | false ↦ λ isnt. ap (list_any test) (one_on (position test bytes) c bytes) ∙ ap (λ (b : Bool). b || list_any test (up_to (position test bytes) bytes)) isnt ∙ none_before test bytes
    ]) refl

-- from a place on, and nothing where there is none
abbrev from_place : Option ℕ → List ℕ → List ℕ
from_place None bytes = []
from_place (Some place) bytes = drop place bytes

place_whole : (place : Option ℕ) (bytes : List ℕ) → up_to place bytes ++ from_place place bytes ≡ bytes
place_whole None bytes = append-nil bytes
place_whole (Some p) bytes = take-append-drop p bytes

from_next : (place : Option ℕ) (c : ℕ) (bytes : List ℕ) → from_place (option_map (λ p. suc p) place) (c ∷ bytes) ≡ from_place place bytes
from_next None c bytes = refl
from_next (Some p) c bytes = refl

tail_told : (bytes : List ℕ) → IsTail (from_place (position ends_path bytes) bytes)
tail_told [] = tt
tail_told (c ∷ bytes) =
    subst (λ (o : Option ℕ). IsTail (from_place o (c ∷ bytes))) (sym (place_of ends_path c bytes))
    ((elim (ends_path c) as (λ b. ends_path c ≡ b → IsTail (from_place (cond b (Some 0) (option_map (λ p. suc p) (position ends_path bytes))) (c ∷ bytes))) [
      | true ↦ λ is. is
      | false ↦ λ _. subst IsTail (sym (from_next (position ends_path bytes) c bytes)) (tail_told bytes)
    ]) refl)

-- ---- the path begins with a slash

rest_next : (place : Option ℕ) (c : ℕ) (bytes : List ℕ) → option_map (λ p. drop p (c ∷ bytes)) (option_map (λ p. suc p) place) ≡ option_map (λ p. drop p bytes) place
rest_next None c bytes = refl
rest_next (Some p) c bytes = refl

slash_first : (bytes rest : List ℕ) → from_slash bytes ≡ Some rest → (more : List ℕ) × (rest ≡ 47 ∷ more)
slash_first [] rest found = absurd (let never : ⊥ = cc in never)
slash_first (c ∷ bytes) rest found =
    (elim (is_slash c) as (λ b. is_slash c ≡ b → option_map (λ p. drop p (c ∷ bytes)) (cond b (Some 0) (option_map (λ p. suc p) (position is_slash bytes))) ≡ Some rest → (more : List ℕ) × (rest ≡ 47 ∷ more)) [
      | true ↦ λ is here. let same : c ∷ bytes ≡ rest = cc in (bytes, sym same ∙ ap (λ (z : ℕ). z ∷ bytes) (eqb-true c 47 is))
      | false ↦ λ _ later. slash_first bytes rest (sym (rest_next (position is_slash bytes) c bytes) ∙ later)
    ]) refl (sym (ap (λ (o : Option ℕ). option_map (λ p. drop p (c ∷ bytes)) o) (place_of is_slash c bytes)) ∙ found)

path_first : (uri rest : List ℕ) (behind : Option (List ℕ)) → option_and_then from_slash behind ≡ Some rest → (more : List ℕ) × (rest ≡ 47 ∷ more)
path_first uri rest None found = absurd (let never : ⊥ = cc in never)
path_first uri rest (Some behind) found = slash_first behind rest found

path_begins : (more : List ℕ) → starts_with nat_eq (before_query (47 ∷ more)) (codes "/") ≡ true
path_begins more =
    ap (λ (o : Option ℕ). starts_with nat_eq (up_to o (47 ∷ more)) (codes "/")) (place_of ends_path 47 more)
    ∙ ap (λ (path : List ℕ). starts_with nat_eq path (codes "/")) (one_on (position ends_path more) 47 more)

-- no "://" begins within the scheme
scheme_on : (uri : List ℕ) (place : ℕ) → place < length (scheme_of uri) → starts_with nat_eq (drop place uri) (codes "://") ≡ false
scheme_on [] place below = absurd (omega (arith, below))
scheme_on (c ∷ uri) zero below =
    (elim (starts_with nat_eq (c ∷ uri) (codes "://")) as (λ b. starts_with nat_eq (c ∷ uri) (codes "://") ≡ b → 0 < length (cond b [] (c ∷ scheme_of uri)) → starts_with nat_eq (c ∷ uri) (codes "://") ≡ false) [
      | true ↦ λ _ never. absurd (omega (arith, never))
      | false ↦ λ isnt _. isnt
    ]) refl below
scheme_on (c ∷ uri) (suc place) below =
    (elim (starts_with nat_eq (c ∷ uri) (codes "://")) as (λ b. suc place < length (cond b [] (c ∷ scheme_of uri)) → starts_with nat_eq (drop place uri) (codes "://") ≡ false) [
      | true ↦ λ never. absurd (omega (arith, never))
      | false ↦ λ later. scheme_on uri place (omega (arith, later))
    ]) below

made_of : (uri rest : List ℕ) → from_path uri ≡ Some rest → IsMadeOf uri (before_path uri) (before_query rest)
made_of uri rest found =
    let first = path_first uri rest (behind_scheme uri) found in
    record {
      scheme = scheme_of uri;
      authority = before_slash (unwrap_or (behind_scheme uri) []);
      tail = from_place (position ends_path rest) rest;
      uri_is = sym (ap (λ (l : List ℕ). before_path uri ++ l) (place_whole (position ends_path rest) rest) ∙ base_whole uri rest found);
      base_is = refl;
      scheme_goes_on = scheme_on uri;
      authority_goes_on = none_before is_slash (unwrap_or (behind_scheme uri) []);
      path_begins = ap (λ (l : List ℕ). starts_with nat_eq (before_query l) (codes "/")) first.1 ∙ path_begins first.0;
      path_goes_on = none_before ends_path rest;
      tail_ends_path = tail_told rest;
    }

parts_made : (uri : List ℕ) (parts : UriParts) (rest : Option (List ℕ)) → from_path uri ≡ rest → option_map (λ r. record { base = before_path uri; path = before_query r }) rest ≡ Some parts → IsMadeOf uri parts.base parts.path
parts_made uri parts None found is = absurd (let never : ⊥ = cc in never)
parts_made uri parts (Some rest) found is =
    let same : record { base = before_path uri; path = before_query rest } ≡ parts = cc in
    subst (λ (p : UriParts). IsMadeOf uri p.base p.path) same (made_of uri rest found)

-- ---- what a URI is made of is what it is cut into

-- after what does not pass a test, the first place that passes
found_at : (test : ℕ → Bool) (front : List ℕ) (c : ℕ) (more : List ℕ) → list_any test front ≡ false → test c ≡ true → position test (front ++ c ∷ more) ≡ Some (length front)
found_at test [] c more none is = place_of test c more ∙ ap (λ (b : Bool). cond b (Some 0) (option_map (λ p. suc p) (position test more))) is
found_at test (x ∷ front) c more none is =
    let parts = or_parts (test x) (list_any test front) none in
    place_of test x (front ++ c ∷ more)
    ∙ ap (λ (b : Bool). cond b (Some 0) (option_map (λ p. suc p) (position test (front ++ c ∷ more)))) parts.0
    ∙ ap (λ (o : Option ℕ). option_map (λ p. suc p) o) (found_at test front c more parts.1 is)

none_at : (test : ℕ → Bool) (bytes : List ℕ) → list_any test bytes ≡ false → position test bytes ≡ None
none_at test [] none = refl
none_at test (x ∷ bytes) none =
    let parts = or_parts (test x) (list_any test bytes) none in
    place_of test x bytes
    ∙ ap (λ (b : Bool). cond b (Some 0) (option_map (λ p. suc p) (position test bytes))) parts.0
    ∙ ap (λ (o : Option ℕ). option_map (λ p. suc p) o) (none_at test bytes parts.1)

query_cut : (path tail : List ℕ) → list_any ends_path path ≡ false → IsTail tail → before_query (path ++ tail) ≡ path
query_cut path [] none is =
    ap (λ (o : Option ℕ). up_to o (path ++ [])) (ap (position ends_path) (append-nil path) ∙ none_at ends_path path none) ∙ append-nil path
query_cut path (c ∷ rest) none is =
    ap (λ (o : Option ℕ). up_to o (path ++ c ∷ rest)) (found_at ends_path path c rest none is) ∙ take_at path (c ∷ rest) (length path) refl

scheme_cut : (scheme more : List ℕ) → ((k : ℕ) → k < length scheme → starts_with nat_eq (drop k (scheme ++ (codes "://" ++ more))) (codes "://") ≡ false) →
    (scheme_of (scheme ++ (codes "://" ++ more)) ≡ scheme) × (behind_scheme (scheme ++ (codes "://" ++ more)) ≡ Some more)
scheme_cut [] more on = (refl, refl)
scheme_cut (c ∷ scheme) more on =
    let rest = scheme_cut scheme more (λ k below. on (suc k) (omega (arith, below))) in
    let uri = scheme ++ (codes "://" ++ more) in
    let here : starts_with nat_eq (c ∷ uri) (codes "://") ≡ false = on 0 (omega arith) in (
      ap (λ (b : Bool). cond b [] (c ∷ scheme_of uri)) here ∙ ap (λ (l : List ℕ). c ∷ l) rest.0,
      ap (λ (b : Bool). cond b (Some (drop 3 (c ∷ uri))) (behind_scheme uri)) here ∙ rest.1,
    )

slash_cut : (authority path tail : List ℕ) → list_any is_slash authority ≡ false → path ≡ 47 ∷ drop 1 path → position is_slash (authority ++ (path ++ tail)) ≡ Some (length authority)
slash_cut authority path tail none begins =
    ap (λ (l : List ℕ). position is_slash (authority ++ (l ++ tail))) begins ∙ found_at is_slash authority 47 (drop 1 path ++ tail) none refl

parts_cut : (uri base path rest : List ℕ) → before_path uri ≡ base → from_path uri ≡ Some rest → before_query rest ≡ path → parts_of uri ≡ Some (record { base = base; path = path })
parts_cut uri base path rest front from back =
    ap (λ (r : Option (List ℕ)). option_map (λ l. record { base = before_path uri; path = before_query l }) r) from
    ∙ ap (λ (l : List ℕ). Some (record { base = l; path = before_query rest })) front
    ∙ ap (λ (l : List ℕ). Some (record { base = base; path = l })) back

made_parts : (uri base path : List ℕ) → IsMadeOf uri base path → parts_of uri ≡ Some (record { base = base; path = path })
made_parts uri base path made =
    let rest = path ++ made.tail in
    let behind = made.authority ++ rest in
    let whole : uri ≡ made.scheme ++ (codes "://" ++ behind) =
    made.uri_is ∙ ap (λ (l : List ℕ). l ++ rest) made.base_is ∙ append_assoc made.scheme (codes "://" ++ made.authority) rest
    ∙ ap (λ (l : List ℕ). made.scheme ++ l) (append_assoc (codes "://") made.authority rest) in
    let cut = scheme_cut made.scheme behind (λ k below. subst (λ (l : List ℕ). starts_with nat_eq (drop k l) (codes "://") ≡ false) whole (made.scheme_goes_on k below)) in
    let begins : path ≡ 47 ∷ drop 1 path = (starts_is Decides-eqb path (codes "/") true (sym made.path_begins)).0 refl in
    let place = slash_cut made.authority path made.tail made.authority_goes_on begins in
    let found : behind_scheme uri ≡ Some behind = ap behind_scheme whole ∙ cut.1 in
    let slash : from_slash behind ≡ Some rest = ap (λ (o : Option ℕ). option_map (λ p. drop p behind) o) place ∙ ap (λ (l : List ℕ). Some l) (drop_at made.authority rest (length made.authority) refl) in
    let front : before_slash behind ≡ made.authority = ap (λ (o : Option ℕ). up_to o behind) place ∙ take_at made.authority rest (length made.authority) refl in
    parts_cut uri base path rest
    (ap (λ (b : Option (List ℕ)). scheme_of uri ++ (codes "://" ++ before_slash (unwrap_or b []))) found
    ∙ ap (λ (l : List ℕ). l ++ (codes "://" ++ before_slash behind)) (ap scheme_of whole ∙ cut.0)
    ∙ ap (λ (l : List ℕ). made.scheme ++ (codes "://" ++ l)) front ∙ sym made.base_is)
    (ap (λ (b : Option (List ℕ)). option_and_then from_slash b) found ∙ slash)
    (query_cut path made.tail made.path_goes_on made.tail_ends_path)

pub uris_are_made_of_parts : UrisAreMadeOfParts
uris_are_made_of_parts = record {
  are_made = λ uri parts is. parts_made uri parts (from_path uri) refl is;
  are_parts = made_parts;
}
