-- The values of a form's fields, as they are put one behind another.
use Rattle.std.proofs.Common.{◌≡◌, ◌==◌, ℕ, Bool, false, List, [], ◌∷◌, ◌++◌, map, Option, None, Bor, refl, sym, ap, subst, ◌∙◌, append_assoc}
use Rattle.std.proofs.lemmas.Iterator.{YieldsList}
use Rattle.std.proofs.lemmas.Iterator.Consumers.{YieldsList-end}
use Rattle.std.specs.Iterator.{Yields}
use Rattle.std.specs.List.{join_with_byte}
use Rattle.serve_desk.specs.Lines.{value_of}
use Rattle.serve_desk.specs.ProofLines.{HasValues, behind_space, is_none}

abbrev pub is_ampersand : ℕ → Bool
is_ampersand byte = byte == 38

joined-more : (fields : List (List ℕ)) (field : List ℕ) → join_with_byte 32 (map value_of (fields ++ field ∷ [])) ≡ join_with_byte 32 (map value_of fields) ++ behind_space (is_none fields) (value_of field)
joined-more [] field = refl
joined-more (first ∷ []) field = refl
joined-more (first ∷ next ∷ fields) field =
    ap (λ (l : List ℕ). value_of first ++ 32 ∷ l) (joined-more (next ∷ fields) field)
    ∙ sym (append_assoc (value_of first) (32 ∷ join_with_byte 32 (map value_of (next ∷ fields))) (32 ∷ value_of field))

nonempty : (fields : List (List ℕ)) (field : List ℕ) → false ≡ is_none (fields ++ field ∷ [])
nonempty [] field = refl
nonempty (first ∷ fields) field = refl

now-more : (fields : List (Bor (List ℕ))) (field : Bor (List ℕ)) → map (λ f. f.now) (fields ++ field ∷ []) ≡ map (λ f. f.now) fields ++ field.now ∷ []
now-more [] field = refl
now-more (first ∷ fields) field = ap (λ (l : List (List ℕ)). first.now ∷ l) (now-more fields field)

more_values : (line : List ℕ) (is_first : Bool) (fields : List (List ℕ)) (field : List ℕ) (put : List ℕ) → HasValues line is_first fields → put ≡ line ++ behind_space is_first (value_of field) → HasValues put false (fields ++ field ∷ [])
more_values line is_first fields field put has is = record {
  line_is = is ∙ ap (λ (l : List ℕ). l ++ behind_space is_first (value_of field)) has.line_is
      ∙ ap (λ (b : Bool). join_with_byte 32 (map value_of fields) ++ behind_space b (value_of field)) has.first_is
      ∙ sym (joined-more fields field);
  first_is = nonempty fields field;
}

-- one more field
pub one_more_value : (line : List ℕ) (is_first : Bool) (fields : List (Bor (List ℕ))) (field : Bor (List ℕ)) (put : List ℕ) → HasValues line is_first (map (λ f. f.now) fields) → put ≡ line ++ behind_space is_first (value_of field.now)
    → HasValues put false (map (λ f. f.now) (fields ++ field ∷ []))
one_more_value line is_first fields field put has is =
    subst (λ (l : List (List ℕ)). HasValues put false l) (sym (now-more fields field)) (more_values line is_first (map (λ f. f.now) fields) field.now put has is)

-- `YieldsList-end` with the list last, whose parts the items say
pub yielded_whole : {S A B : Type 0} {steps : S → Option A → S → Type 0} {v : A → B} {s : S} {all : List B} (xs : List A) (t : S) (y : Yields steps s xs t) (r : Option A) (u : S) → r ≡ None → steps t r u
    → YieldsList steps v s all → map v xs ≡ all
yielded_whole xs t y r u none step all = (YieldsList-end all xs t y r u none step).0
