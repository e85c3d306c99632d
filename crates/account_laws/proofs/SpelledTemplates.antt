-- Which attributes of a job are not supported, and go back.
use Rattle.std.proofs.Common.{◌≡◌, inl, inr, ℕ, Bool, true, false, true≢false, cond, not, ◌||◌, ◌==◌, codes, filter, map, List, [], ◌∷◌, Option, Some, None, is_some, option_and_then, refl, sym, ap, subst, ◌∙◌}
use Rattle.std.specs.List.{AllByRecursion}
use Rattle.std.specs.Str.{bytes_eq}
use Rattle.std.proofs.lemmas.Bool.{and_parts, eqb-true, le-leb}
use Rattle.std.proofs.lemmas.Slice.Eq.{bytes_eq-Decides}
use Rattle.ipp_coding.specs.Plain.{PlainAttribute, PlainValue}
use Rattle.account_asks.specs.Requests.{is_named, lone_value}
use Rattle.account_asks.specs.Templates.{copies_said, firsts, holds_for_good, is_indefinite, is_known, is_supported, returned, unsupported, up_to_most}
use Rattle.account_laws.proofs.SpelledAttributes.{AreOf, IsOf, differ, one_of, positive_again}
use Rattle.account_laws.proofs.SpelledFields.{are_said}
use Rattle.account_laws.specs.SpelledAttributes.{HasNone}
use Rattle.account_laws.specs.SpelledTemplates.{AreCopies, GoBack, HoldsForGood, IsKnown, IsReturned, IsSupported}
use Rattle.account_rules.specs.Limits.{most_copies}

same_name : (a b : List ℕ) → bytes_eq a b ≡ true → a ≡ b
same_name a b = (bytes_eq-Decides a b).0

name_test : (a b : List ℕ) → a ≡ b → bytes_eq a b ≡ true
name_test a b = (bytes_eq-Decides a b).1

-- ---- which is supported

holds_is : (value : PlainValue) → is_indefinite value ≡ true → HoldsForGood value
holds_is value is =
    let both = and_parts (value.tag == 0x44 || value.tag == 0x42) (bytes_eq value.bytes (codes "indefinite")) is in
    by (same_name value.bytes (codes "indefinite") both.1) (value.tag == 0x44) refl (value.tag == 0x42) refl both.0
  where
    by : value.bytes ≡ codes "indefinite" → (keyword : Bool) → (value.tag == 0x44) ≡ keyword → (name : Bool) → (value.tag == 0x42) ≡ name → (keyword || name) ≡ true → HoldsForGood value
    by bytes true tag name other is = inl (eqb-true value.tag 0x44 tag, bytes)
    by bytes false tag true other is = inr (eqb-true value.tag 0x42 other, bytes)
    by bytes false tag false other is = absurd (true≢false (sym is))

holds_again : (value : PlainValue) → HoldsForGood value → is_indefinite value ≡ true
holds_again value (inl is) = ap (λ (tag : ℕ). is_indefinite (record { tag = tag; bytes = value.bytes })) is.0 ∙ ap (λ (bytes : List ℕ). is_indefinite (record { tag = 0x44; bytes = bytes })) is.1
holds_again value (inr is) = ap (λ (tag : ℕ). is_indefinite (record { tag = tag; bytes = value.bytes })) is.0 ∙ ap (λ (bytes : List ℕ). is_indefinite (record { tag = 0x42; bytes = bytes })) is.1

lone_holds : (values : List PlainValue) → holds_for_good (lone_value values) ≡ true → (value : PlainValue) × (values ≡ value ∷ []) × HoldsForGood value
lone_holds values is = by (lone_value values) refl is
  where
    by : (o : Option PlainValue) → lone_value values ≡ o → holds_for_good o ≡ true → (value : PlainValue) × (values ≡ value ∷ []) × HoldsForGood value
    by None one is = absurd (true≢false (sym is))
    by (Some value) one is = (value, one_of values value one, holds_is value is)

copies_there : (a : PlainAttribute) → AllByRecursion IsOf a.values → (o : Option ℕ) → copies_said a ≡ o → is_some o ≡ true → (value : PlainValue) × (n : ℕ) × (a.values ≡ value ∷ []) × AreCopies value n
copies_there a are None said is = absurd (true≢false (sym is))
copies_there a are (Some n) said is =
    let it = are_said a n are said in
    (it.value, n, it.is, it.are)

supported_is : (a : PlainAttribute) → AllByRecursion IsOf a.values → is_supported a ≡ true → IsSupported a
supported_is a are is = by (bytes_eq a.name (codes "copies")) refl (bytes_eq a.name (codes "job-hold-until")) refl is
  where
    by : (copies : Bool) → bytes_eq a.name (codes "copies") ≡ copies → (hold : Bool) → bytes_eq a.name (codes "job-hold-until") ≡ hold → cond copies (is_some (copies_said a)) (cond hold (holds_for_good (lone_value a.values)) false) ≡ true → IsSupported a
    by true copies hold is said = inl (same_name a.name (codes "copies") copies, copies_there a are (copies_said a) refl said)
    by false copies true is said = inr (same_name a.name (codes "job-hold-until") is, lone_holds a.values said)
    by false copies false is said = absurd (true≢false (sym said))

copies_again : (a : PlainAttribute) (value : PlainValue) (n : ℕ) → a.values ≡ value ∷ [] → AreCopies value n → is_some (copies_said a) ≡ true
copies_again a value n one are =
    ap (λ (values : List PlainValue). is_some (copies_said (record { name = a.name; values = values }))) one
    ∙ ap (λ (o : Option ℕ). is_some (option_and_then up_to_most o)) (positive_again value n are.0 are.1)
    ∙ ap (λ (b : Bool). is_some (cond b (Some n) None)) (le-leb n most_copies are.2)

supported_again : (a : PlainAttribute) → IsSupported a → is_supported a ≡ true
supported_again a (inl is) =
    ap (λ (b : Bool). cond b (is_some (copies_said a)) (cond (bytes_eq a.name (codes "job-hold-until")) (holds_for_good (lone_value a.values)) false)) (name_test a.name (codes "copies") is.0)
    ∙ copies_again a is.1.0 is.1.1 is.1.2 is.1.3
supported_again a (inr is) =
    ap (λ (name : List ℕ). cond (bytes_eq name (codes "copies")) (is_some (copies_said a)) (cond (bytes_eq name (codes "job-hold-until")) (holds_for_good (lone_value a.values)) false)) is.0
    ∙ ap (λ (values : List PlainValue). holds_for_good (lone_value values)) is.1.1
    ∙ holds_again is.1.0 is.1.2

known_is : (a : PlainAttribute) → is_known a ≡ true → IsKnown a
known_is a is = by (bytes_eq a.name (codes "copies")) refl (bytes_eq a.name (codes "job-hold-until")) refl is
  where
    by : (copies : Bool) → bytes_eq a.name (codes "copies") ≡ copies → (hold : Bool) → bytes_eq a.name (codes "job-hold-until") ≡ hold → (copies || hold) ≡ true → IsKnown a
    by true copies hold is known = inl (same_name a.name (codes "copies") copies)
    by false copies true is known = inr (same_name a.name (codes "job-hold-until") is)
    by false copies false is known = absurd (true≢false (sym known))

known_again : (a : PlainAttribute) → IsKnown a → is_known a ≡ true
known_again a (inl is) = ap (λ (b : Bool). b || bytes_eq a.name (codes "job-hold-until")) (name_test a.name (codes "copies") is)
known_again a (inr is) = ap (λ (name : List ℕ). bytes_eq name (codes "copies") || bytes_eq name (codes "job-hold-until")) is

returned_is : (a : PlainAttribute) → IsReturned a (returned a)
returned_is a = by (is_known a) refl
  where
    by : (b : Bool) → is_known a ≡ b → IsReturned a (cond b a (record { name = a.name; values = record { tag = 0x10; bytes = [] } ∷ [] }))
    by true is = inl (known_is a is, refl)
    by false isnt = inr (λ known. true≢false (sym (known_again a known) ∙ isnt), refl)

-- ---- the first of each name

abbrev named_in : List PlainAttribute → PlainAttribute → Bool
named_in [] x = false
named_in (e ∷ earlier) x = is_named e.name x || named_in earlier x

none_named : (earlier : List PlainAttribute) (a : PlainAttribute) → named_in earlier a ≡ false → HasNone a.name earlier
none_named [] a none = tt
none_named (e ∷ earlier) a none = by (none_named earlier a) (bytes_eq a.name e.name) refl none
  where
    by : (named_in earlier a ≡ false → HasNone a.name earlier) → (b : Bool) → bytes_eq a.name e.name ≡ b → (b || named_in earlier a) ≡ false → HasNone a.name (e ∷ earlier)
    by rest true is none = absurd (true≢false none)
    by rest false is none = (λ same. differ a.name e.name is (sym same), rest none)

some_named : (earlier : List PlainAttribute) (a : PlainAttribute) → named_in earlier a ≡ true → HasNone a.name earlier → ⊥
some_named [] a is none = true≢false (sym is)
some_named (e ∷ earlier) a is none = by (some_named earlier a) (bytes_eq a.name e.name) refl is
  where
    by : (named_in earlier a ≡ true → HasNone a.name earlier → ⊥) → (b : Bool) → bytes_eq a.name e.name ≡ b → (b || named_in earlier a) ≡ true → ⊥
    by rest true same is = none.0 (sym (same_name a.name e.name same))
    by rest false other is = rest is none.1

abbrev unnamed : (earlier xs : List PlainAttribute) → List PlainAttribute
unnamed earlier xs = filter (λ (x : PlainAttribute). not (named_in earlier x)) xs

one_more : (a : PlainAttribute) (earlier xs : List PlainAttribute) → unnamed earlier (filter (λ (other : PlainAttribute). not (is_named a.name other)) xs) ≡ unnamed (a ∷ earlier) xs
one_more a earlier [] = refl
one_more a earlier (x ∷ xs) = by (is_named a.name x) (named_in earlier x) refl (one_more a earlier xs)
  where
    rest : List PlainAttribute
    rest = filter (λ (other : PlainAttribute). not (is_named a.name other)) xs

    by : (named seen : Bool) → named_in earlier x ≡ seen → unnamed earlier (filter (λ (other : PlainAttribute). not (is_named a.name other)) xs) ≡ unnamed (a ∷ earlier) xs
        → unnamed earlier (cond (not named) (x ∷ filter (λ (other : PlainAttribute). not (is_named a.name other)) xs) (filter (λ (other : PlainAttribute). not (is_named a.name other)) xs)) ≡ cond (not (named || named_in earlier x)) (x ∷ unnamed (a ∷ earlier) xs) (unnamed (a ∷ earlier) xs)
    by true seen is same = same
    by false seen is same = ap (λ (l : List PlainAttribute). cond (not (named_in earlier x)) (x ∷ l) l) same

abbrev back_of : List PlainAttribute → List PlainAttribute
back_of xs = map returned (filter (λ (a : PlainAttribute). not (is_supported a)) xs)

go_back : (earlier template : List PlainAttribute) → AreOf template → GoBack earlier template (back_of (unnamed earlier (firsts template)))
go_back earlier [] are = refl
go_back earlier (a ∷ later) are =
    by (back_of (unnamed (a ∷ earlier) (firsts later))) (unnamed earlier (filter (λ (other : PlainAttribute). not (is_named a.name other)) (firsts later))) (ap back_of (one_more a earlier (firsts later))) (go_back (a ∷ earlier) later are.1) (named_in earlier a) refl (is_supported a) refl
  where
    by : (rest tail : List PlainAttribute) → back_of tail ≡ rest → GoBack (a ∷ earlier) later rest → (seen : Bool) → named_in earlier a ≡ seen → (good : Bool) → is_supported a ≡ good
        → GoBack earlier (a ∷ later) (back_of (cond (not seen) (a ∷ tail) tail))
    by rest tail same goes true is good supported = inr (λ back. some_named earlier a is back.0, subst (GoBack (a ∷ earlier) later) (sym same) goes)
    by rest tail same goes false is true supported =
        inr (λ back. back.1 (supported_is a are.0 supported), subst (GoBack (a ∷ earlier) later) (sym (ap (λ (b : Bool). map returned (cond (not b) (a ∷ filter (λ (x : PlainAttribute). not (is_supported x)) tail) (filter (λ (x : PlainAttribute). not (is_supported x)) tail))) supported ∙ same)) goes)
    by rest tail same goes false is false supported =
        inl (
          (none_named earlier a is, λ good. true≢false (sym (supported_again a good) ∙ supported)),
          (
            returned a,
            rest,
            returned_is a,
            ap (λ (b : Bool). map returned (cond (not b) (a ∷ filter (λ (x : PlainAttribute). not (is_supported x)) tail) (filter (λ (x : PlainAttribute). not (is_supported x)) tail))) supported ∙ ap (λ (l : List PlainAttribute). returned a ∷ l) same,
            goes,
          ),
        )

all_unnamed : (xs : List PlainAttribute) → unnamed [] xs ≡ xs
all_unnamed [] = refl
all_unnamed (x ∷ xs) = ap (λ (l : List PlainAttribute). x ∷ l) (all_unnamed xs)

pub unsupported_back : (template : List PlainAttribute) → AreOf template → GoBack [] template (unsupported template)
unfolding unsupported
unsupported_back template are = subst (GoBack [] template) (ap back_of (all_unnamed (firsts template))) (go_back [] template are)
