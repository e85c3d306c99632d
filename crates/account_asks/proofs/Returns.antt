-- Going over job template attributes, one by one.
use Rattle.std.proofs.Common.{◌≡◌, ℕ, ◌+◌, ◌<◌, ◌≤◌, append-nil, Bool, true, false, not, ◌||◌, if◌then◌else◌, List, [], ◌∷◌, ◌++◌, length, map, take, get_or, refl, sym, ap, ◌∙◌, arith}
use Rattle.std.proofs.lemmas.List.{map-append, take_all, take_more, get_or_default}
use Rattle.ipp_coding.specs.declared.message.Attribute.{Attribute}
use Rattle.ipp_coding.specs.Plain.{PlainAttribute, plain_attribute}
use Rattle.account_asks.specs.ProofNames.{is_repeated, AreFirsts}
use Rattle.account_asks.specs.Templates.{copies, is_supported, returned, unsupported}
use Rattle.account_asks.proofs.FirstNames.{unsupported_more}
use Rattle.account_asks.proofs.Marks.{turned}

-- those up to a place
abbrev pub up_to_place : List Attribute → ℕ → List PlainAttribute
up_to_place xs i = map plain_attribute (take i xs)

-- up to the next place there is one more
pub up_to_next : (xs : List Attribute) (i : ℕ) (x : Attribute) → i < length xs → get_or xs i x ≡ x → up_to_place xs (i + 1) ≡ up_to_place xs i ++ plain_attribute x ∷ []
up_to_next xs i x within at =
    ap (map plain_attribute) (take_more xs i x within ∙ ap (λ (y : Attribute). take i xs ++ y ∷ []) at) ∙ map-append plain_attribute (take i xs) (x ∷ [])

-- whether an attribute is the first of its name tells whether its name came before
pub repeated_unless_first : (xs : List Attribute) (firsts : List Bool) (i : ℕ) (x : Attribute) (first : Bool) → length firsts ≡ length xs → AreFirsts firsts xs → i < length xs → get_or xs i x ≡ x →
    first ≡ get_or firsts i first → is_repeated (up_to_place xs i) (plain_attribute x) ≡ not first
repeated_unless_first xs firsts i x first all are within at is =
    turned first _ (is ∙ get_or_default firsts i first false (omega (arith, within, all)) ∙ are i x within ∙ ap (λ (y : Attribute). not (is_repeated (up_to_place xs i) (plain_attribute y))) at)

one_more : (xs : List Attribute) (i : ℕ) (x : Attribute) → i < length xs → get_or xs i x ≡ x →
    unsupported (up_to_place xs (i + 1))
    ≡ unsupported (up_to_place xs i) ++ (if is_repeated (up_to_place xs i) (plain_attribute x) || is_supported (plain_attribute x) then [] else returned (plain_attribute x) ∷ [])
one_more xs i x within at = ap unsupported (up_to_next xs i x within at) ∙ unsupported_more (up_to_place xs i) (plain_attribute x)

none_where : {A : Type 0} (b : Bool) (ys : List A) → b ≡ true → (if b then [] else ys) ≡ []
none_where true ys is = refl
none_where false ys is = absurd (let never : ⊥ = cc in never)

all_where : {A : Type 0} (b c : Bool) (ys : List A) → b ≡ false → c ≡ false → (if b || c then [] else ys) ≡ ys
all_where false false ys repeated supported = refl
all_where false true ys repeated supported = absurd (let never : ⊥ = cc in never)
all_where true c ys repeated supported = absurd (let never : ⊥ = cc in never)

-- where the second holds, one of the two does
pub either : (b c : Bool) → c ≡ true → b || c ≡ true
either true c is = refl
either false c is = is

pub none_yet : (xs : List Attribute) → [] ≡ unsupported (up_to_place xs 0)
unfolding unsupported
none_yet xs = refl

-- one that is passed over
pub passed_over : (xs : List Attribute) (i : ℕ) (x : Attribute) (out : List Attribute) → i < length xs → get_or xs i x ≡ x →
    is_repeated (up_to_place xs i) (plain_attribute x) || is_supported (plain_attribute x) ≡ true →
    map plain_attribute out ≡ unsupported (up_to_place xs i) → map plain_attribute out ≡ unsupported (up_to_place xs (i + 1))
passed_over xs i x out within at passed so_far =
    let none = none_where (is_repeated (up_to_place xs i) (plain_attribute x) || is_supported (plain_attribute x)) (returned (plain_attribute x) ∷ []) passed in
    so_far ∙ sym (one_more xs i x within at ∙ ap (λ (more : List PlainAttribute). unsupported (up_to_place xs i) ++ more) none ∙ append-nil (unsupported (up_to_place xs i)))

-- one that is returned
pub sent_back : (xs : List Attribute) (i : ℕ) (x y : Attribute) (out : List Attribute) → i < length xs → get_or xs i x ≡ x →
    is_repeated (up_to_place xs i) (plain_attribute x) ≡ false → is_supported (plain_attribute x) ≡ false →
    plain_attribute y ≡ returned (plain_attribute x) →
    map plain_attribute out ≡ unsupported (up_to_place xs i) → map plain_attribute (out ++ y ∷ []) ≡ unsupported (up_to_place xs (i + 1))
sent_back xs i x y out within at repeated supported same so_far =
    let all = all_where (is_repeated (up_to_place xs i) (plain_attribute x)) (is_supported (plain_attribute x)) (returned (plain_attribute x) ∷ []) repeated supported in
    map-append plain_attribute out (y ∷ [])
    ∙ ap (λ (front : List PlainAttribute). front ++ plain_attribute y ∷ []) so_far
    ∙ ap (λ (z : PlainAttribute). unsupported (up_to_place xs i) ++ z ∷ []) same
    ∙ sym (one_more xs i x within at ∙ ap (λ (more : List PlainAttribute). unsupported (up_to_place xs i) ++ more) all)

-- all of them
pub all_over : (xs : List Attribute) (i : ℕ) (out : List Attribute) → length xs ≤ i →
    map plain_attribute out ≡ unsupported (up_to_place xs i) → map plain_attribute out ≡ unsupported (map plain_attribute xs)
all_over xs i out done so_far = so_far ∙ ap (λ (all : List Attribute). unsupported (map plain_attribute all)) (take_all i xs done)

-- without any
pub copies_of_none : (attributes : List PlainAttribute) → [] ≡ attributes → 1 ≡ copies attributes
unfolding copies
copies_of_none attributes none = rw (← none) refl

pub unsupported_of_none : (attributes : List PlainAttribute) → [] ≡ attributes → [] ≡ unsupported attributes
unfolding unsupported
unsupported_of_none attributes none = rw (← none) refl
