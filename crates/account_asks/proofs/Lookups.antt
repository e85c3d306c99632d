-- Looking up among what things stand for.
use Rattle.std.proofs.Common.{◌≡◌, ℕ, Bool, true, false, cond, List, [], ◌∷◌, map, Option, Some, None, refl, sym, ap, ◌∙◌}
use Rattle.std.specs.Borrow.{Bor}
use Rattle.std.specs.Option.{option_map, option_copied}
use Rattle.std.specs.List.{find}
use Rattle.ipp_coding.specs.declared.message.Value.{Value}
use Rattle.ipp_coding.specs.Plain.{plain_value}
use Rattle.account_asks.specs.Fields.{names_of}

one-map : {A B : Type 0} (view : A → B) (found : Bool) (x : A) (later : Option A) → cond found (Some (view x)) (option_map view later) ≡ option_map view (cond found (Some x) later)
one-map view true x later = refl
one-map view false x later = refl

pub find-map : {A B : Type 0} (p : B → Bool) (view : A → B) (xs : List A) → find p (map view xs) ≡ option_map view (find (λ x. p (view x)) xs)
find-map p view [] = refl
find-map p view (x ∷ xs) = ap (λ (o : Option _). cond (p (view x)) (Some (view x)) o) (find-map p view xs) ∙ one-map view (p (view x)) x (find (λ y. p (view y)) xs)

copied-map : {A B : Type 0} (view : A → B) (found : Option (Bor A)) → option_map (λ a. view a.now) found ≡ option_map view (option_copied found)
copied-map view None = refl
copied-map view (Some a) = refl

-- what is found among things is found among what they stand for
pub found_among : {A B : Type 0} (p : B → Bool) (view : A → B) (xs : List A) (found : Option (Bor A)) → option_copied found ≡ find (λ x. p (view x)) xs → option_map (λ a. view a.now) found ≡ find p (map view xs)
found_among p view xs found same = copied-map view found ∙ ap (option_map view) same ∙ sym (find-map p view xs)

-- the bytes of values, as they are and as what they stand for
pub bytes-map : (values : List Value) → map (λ name. name.now) (map (λ value. value.bytes) values) ≡ names_of (map plain_value values)
bytes-map [] = refl
bytes-map (value ∷ values) = ap (λ (names : List (List ℕ)). value.bytes.now ∷ names) (bytes-map values)
