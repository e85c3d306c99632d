-- The first attributes of their names, and those that are not supported, with one attribute more.
use Rattle.std.proofs.Common.{◌≡◌, Bool, true, false, cond, not, ◌||◌, if◌then◌else◌, List, [], ◌∷◌, ◌++◌, map, filter, Option, Some, None, refl, ap, ◌∙◌}
use Rattle.std.specs.Prelude.{is_some}
use Rattle.std.specs.List.{find}
use Rattle.std.proofs.lemmas.Cmp.{nat_list_eq_equiv}
use Rattle.std.proofs.lemmas.List.{map-append}
use Rattle.std.proofs.lemmas.List.Elements.{filter-append}
use Rattle.ipp_coding.specs.Plain.{PlainAttribute}
use Rattle.account_asks.specs.Requests.{is_named}
use Rattle.account_asks.specs.ProofNames.{is_repeated}
use Rattle.account_asks.specs.Templates.{firsts, is_supported, returned, unsupported}

-- an attribute stays where neither those found before nor the one at the front has its name
one_kept : (front one : PlainAttribute) (found : Option PlainAttribute) (same : Bool) → is_named front.name one ≡ same →
    filter (λ other. not (is_named front.name other)) (if is_some found then [] else one ∷ []) ≡ (if is_some (cond same (Some front) found) then [] else one ∷ [])
one_kept front one (Some before) true is = refl
one_kept front one (Some before) false is = refl
one_kept front one None true is = ap (λ b. cond (not b) (one ∷ []) []) is
one_kept front one None false is = ap (λ b. cond (not b) (one ∷ []) []) is

firsts_more : (before : List PlainAttribute) (one : PlainAttribute) → firsts (before ++ one ∷ []) ≡ firsts before ++ (if is_repeated before one then [] else one ∷ [])
firsts_more [] one = refl
firsts_more (front ∷ before) one =
    let others : PlainAttribute → Bool = λ other. not (is_named front.name other) in
    ap (λ (more : List PlainAttribute). front ∷ filter others more) (firsts_more before one)
    ∙ ap (λ (more : List PlainAttribute). front ∷ more) (filter-append others (firsts before) (if is_repeated before one then [] else one ∷ []))
    ∙ ap (λ (last : List PlainAttribute). front ∷ (filter others (firsts before) ++ last))
    (one_kept front one (find (is_named one.name) before) (is_named one.name front) (nat_list_eq_equiv.symm one.name front.name))

one_returned : (repeated : Bool) (one : PlainAttribute) →
    map returned (filter (λ attribute. not (is_supported attribute)) (if repeated then [] else one ∷ [])) ≡ (if repeated || is_supported one then [] else returned one ∷ [])
one_returned true one = refl
one_returned false one = elim (is_supported one) as (λ supported. map returned (cond (not supported) (one ∷ []) []) ≡ (if supported then [] else returned one ∷ [])) [ true ↦ refl | false ↦ refl ]

pub unsupported_more : (before : List PlainAttribute) (one : PlainAttribute) →
    unsupported (before ++ one ∷ []) ≡ unsupported before ++ (if is_repeated before one || is_supported one then [] else returned one ∷ [])
unfolding unsupported
unsupported_more before one =
    let kept : PlainAttribute → Bool = λ attribute. not (is_supported attribute) in
    let last : List PlainAttribute = if is_repeated before one then [] else one ∷ [] in
    ap (λ (all : List PlainAttribute). map returned (filter kept all)) (firsts_more before one)
    ∙ ap (map returned) (filter-append kept (firsts before) last)
    ∙ map-append returned (filter kept (firsts before)) (filter kept last)
    ∙ ap (λ (more : List PlainAttribute). map returned (filter kept (firsts before)) ++ more) (one_returned (is_repeated before one) one)
