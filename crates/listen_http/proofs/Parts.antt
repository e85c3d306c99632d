-- Fields of a name, one more at a time.
use Rattle.std.proofs.Common.{◌≡◌, ◌||◌, ℕ, ◌+◌, ◌<◌, Bool, true, false, cond, List, [], ◌∷◌, ◌++◌, length, map, take, get_or, refl, ap, ◌∙◌}
use Rattle.std.proofs.lemmas.List.{map_more, append-nil}
use Rattle.std.specs.List.{list_any}
use Rattle.listen_http.specs.Fields.{NameAndValue, is_named, plain_field, values_named}
use Rattle.listen_http.specs.declared.fields.Field.{Field}

one_more : (name : List ℕ) (fields : List NameAndValue) (field : NameAndValue) → values_named name (fields ++ field ∷ []) ≡ values_named name fields ++ cond (is_named name field) (field.1 ∷ []) []
one_more name [] field = elim (is_named name field) as (λ b. cond b (field.1 ∷ []) [] ≡ cond b (field.1 ∷ []) []) [ true ↦ refl | false ↦ refl ]
one_more name (first ∷ fields) field =
    elim (is_named name first) as (λ b. cond b (first.1 ∷ values_named name (fields ++ field ∷ [])) (values_named name (fields ++ field ∷ [])) ≡ cond b (first.1 ∷ values_named name fields) (values_named name fields) ++ cond (is_named name field) (field.1 ∷ []) []) [
      | true ↦ ap (λ values. first.1 ∷ values) (one_more name fields field)
      | false ↦ one_more name fields field
    ]

module _ (name : List ℕ) (fields : List Field) (i : ℕ) (d : Field) (there : i < length fields) where
  next_value : (found : Bool) → is_named name (plain_field (get_or fields i d)) ≡ found
      → values_named name (map plain_field (take (i + 1) fields)) ≡ values_named name (map plain_field (take i fields)) ++ cond found ((get_or fields i d).value.now ∷ []) []
  next_value found is =
      ap (values_named name) (map_more plain_field fields i d there) ∙ one_more name (map plain_field (take i fields)) (plain_field (get_or fields i d))
      ∙ ap (λ b. values_named name (map plain_field (take i fields)) ++ cond b ((get_or fields i d).value.now ∷ []) []) is

  pub value_more : is_named name (plain_field (get_or fields i d)) ≡ true
      → values_named name (map plain_field (take (i + 1) fields)) ≡ values_named name (map plain_field (take i fields)) ++ (get_or fields i d).value.now ∷ []
  value_more is = next_value true is

  pub value_same : is_named name (plain_field (get_or fields i d)) ≡ false → values_named name (map plain_field (take (i + 1) fields)) ≡ values_named name (map plain_field (take i fields))
  value_same is = next_value false is ∙ append-nil (values_named name (map plain_field (take i fields)))

-- ---- a test of fields

pub any_plain : (test : NameAndValue → Bool) (fields : List Field) → list_any (λ field. test (plain_field field)) fields ≡ list_any test (map plain_field fields)
any_plain test [] = refl
any_plain test (field ∷ fields) = ap (λ b. test (plain_field field) || b) (any_plain test fields)
