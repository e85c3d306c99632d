-- The parts of a URI are those that the requests' rules cut it into.
use Rattle.std.proofs.Common.{◌≡◌, ◌≢◌, ◌⊎◌, inl, inr, ℕ, true, false, ◌==◌, List, [], ◌∷◌, Some, refl, sym, subst}
use Rattle.std.specs.List.{AllByRecursion, list_any}
use Rattle.std.proofs.lemmas.Bool.{eq-eqb, eqb-false, eqb-true, ne_eqb, or_cases, or_from, or_left, or_parts, or_right}
use Rattle.account_asks.proofs.UriCuts.{uris_are_made_of_parts}
use Rattle.account_asks.specs.UriLaws as laws
use Rattle.account_asks.specs.Uris.{UriParts, ends_path, is_slash, parts_of}
use Rattle.account_laws.specs.SpelledUris.{EndsPath, HasParts, IsTail}

-- ---- slashes

slash_free : (bytes : List ℕ) → list_any is_slash bytes ≡ false → AllByRecursion (λ (c : ℕ). c ≢ 47) bytes
slash_free [] none = tt
slash_free (c ∷ bytes) none = let both = or_parts (c == 47) (list_any is_slash bytes) none in (eqb-false c 47 both.0, slash_free bytes both.1)

no_slash : (bytes : List ℕ) → AllByRecursion (λ (c : ℕ). c ≢ 47) bytes → list_any is_slash bytes ≡ false
no_slash [] none = refl
no_slash (c ∷ bytes) none = or_from (c == 47) (list_any is_slash bytes) (ne_eqb c 47 none.0) (no_slash bytes none.1)

-- ---- where the path ends

ends_is : (c : ℕ) → ends_path c ≡ true → EndsPath c
ends_is c ends = by (or_cases (c == 63) (c == 35) ends)
  where
    by : ((c == 63) ≡ true) ⊎ ((c == 35) ≡ true) → EndsPath c
    by (inl query) = inl (eqb-true c 63 query)
    by (inr fragment) = inr (eqb-true c 35 fragment)

ends_again : (c : ℕ) → EndsPath c → ends_path c ≡ true
ends_again c (inl query) = or_left (c == 63) (c == 35) (eq-eqb c 63 query)
ends_again c (inr fragment) = or_right (c == 63) (c == 35) (eq-eqb c 35 fragment)

goes_on : (bytes : List ℕ) → list_any ends_path bytes ≡ false → AllByRecursion (λ (c : ℕ). EndsPath c → ⊥) bytes
goes_on [] none = tt
goes_on (c ∷ bytes) none =
    let both = or_parts (ends_path c) (list_any ends_path bytes) none in
    let one = or_parts (c == 63) (c == 35) both.0 in
    (not_ended c one.0 one.1, goes_on bytes both.1)
  where
    not_ended : (c : ℕ) → (c == 63) ≡ false → (c == 35) ≡ false → EndsPath c → ⊥
    not_ended c query fragment (inl is) = eqb-false c 63 query is
    not_ended c query fragment (inr is) = eqb-false c 35 fragment is

no_end : (bytes : List ℕ) → AllByRecursion (λ (c : ℕ). EndsPath c → ⊥) bytes → list_any ends_path bytes ≡ false
no_end [] none = refl
no_end (c ∷ bytes) none =
    or_from (ends_path c) (list_any ends_path bytes)
    (or_from (c == 63) (c == 35) (ne_eqb c 63 (λ is. none.0 (inl is))) (ne_eqb c 35 (λ is. none.0 (inr is))))
    (no_end bytes none.1)

tail_is : (tail : List ℕ) → laws.IsTail tail → IsTail tail
tail_is [] ends = inl refl
tail_is (c ∷ rest) ends = inr (c, rest, refl, ends_is c ends)

tail_again : (tail : List ℕ) → IsTail tail → laws.IsTail tail
tail_again tail (inl none) = subst laws.IsTail (sym none) tt
tail_again tail (inr ends) = subst laws.IsTail (sym ends.2) (ends_again ends.0 ends.3)

-- ---- both ways

parts_are : (uri base path : List ℕ) → laws.IsMadeOf uri base path → HasParts uri base path
parts_are uri base path made = record {
  scheme = made.scheme;
  authority = made.authority;
  tail = made.tail;
  uri_is = made.uri_is;
  base_is = made.base_is;
  is_first = made.scheme_goes_on;
  authority_goes_on = slash_free made.authority made.authority_goes_on;
  path_begins = made.path_begins;
  path_goes_on = goes_on path made.path_goes_on;
  tail_is = tail_is made.tail made.tail_ends_path;
}

made_of : (uri base path : List ℕ) → HasParts uri base path → laws.IsMadeOf uri base path
made_of uri base path has = record {
  scheme = has.scheme;
  authority = has.authority;
  tail = has.tail;
  uri_is = has.uri_is;
  base_is = has.base_is;
  scheme_goes_on = has.is_first;
  authority_goes_on = no_slash has.authority has.authority_goes_on;
  path_begins = has.path_begins;
  path_goes_on = no_end path has.path_goes_on;
  tail_ends_path = tail_again has.tail has.tail_is;
}

-- a URI is cut into the parts that it has
pub cut_is : (uri : List ℕ) (parts : UriParts) → parts_of uri ≡ Some parts → HasParts uri parts.base parts.path
cut_is uri parts is = parts_are uri parts.base parts.path (uris_are_made_of_parts.are_made uri parts is)

pub cut_again : (uri base path : List ℕ) → HasParts uri base path → parts_of uri ≡ Some (record { base = base; path = path })
cut_again uri base path has = uris_are_made_of_parts.are_parts uri base path (made_of uri base path has)
