-- Looking for the end of a scheme, place by place.
use Rattle.std.proofs.Common.{◌≡◌, ℕ, suc, ◌+◌, ◌<◌, false, List, ◌∷◌, length, ◌-◌, take, drop, get_or, refl, ap, ◌∙◌, arith, codes, nat_eq}
use Rattle.std.specs.List.{starts_with}
use Rattle.std.proofs.Math.Seq.{drop-cons}
use Rattle.std.proofs.lemmas.List.{take_all, length-drop}
use Rattle.account_asks.specs.Uris.{behind_scheme}

one_on : (c : ℕ) (rest : List ℕ) → starts_with nat_eq (c ∷ rest) (codes "://") ≡ false → behind_scheme (c ∷ rest) ≡ behind_scheme rest
one_on c rest none = rw none refl

-- a slice from a place on is all that stands there
pub rest_whole : (uri : List ℕ) (i : ℕ) → take (length uri - i) (drop i uri) ≡ drop i uri
rest_whole uri i = take_all (length uri - i) (drop i uri) (omega (arith, length-drop i uri))

-- none begins at this place
pub goes_on : (uri : List ℕ) (i : ℕ) → i < length uri → starts_with nat_eq (drop i uri) (codes "://") ≡ false → behind_scheme (drop i uri) ≡ behind_scheme (drop (i + 1) uri)
goes_on uri i lt none =
    let here : drop i uri ≡ get_or uri i 0 ∷ drop (suc i) uri = drop-cons uri i 0 lt in
    let same : suc i ≡ i + 1 = omega arith in
    let next : drop (suc i) uri ≡ drop (i + 1) uri = ap (λ (k : ℕ). drop k uri) same in
    ap behind_scheme here ∙ one_on (get_or uri i 0) (drop (suc i) uri) (rw here at none) ∙ ap behind_scheme next
