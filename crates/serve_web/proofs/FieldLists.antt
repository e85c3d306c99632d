-- Fields that are put one behind the other.
use Rattle.std.proofs.Common.{◌≡◌, ℕ, List, [], ◌∷◌, ◌++◌, ap, ◌∙◌, append_assoc}
use Rattle.http1.specs.Fields.{Header as Field}
use Rattle.http_header.specs.FieldValue.{FieldValue, plain_value}

-- those of two steps
pub both_put : (old first rest mid new : List Field) → mid ≡ old ++ first → new ≡ mid ++ rest → new ≡ old ++ (first ++ rest)
both_put old first rest mid new one two = two ∙ ap (λ (l : List Field). l ++ rest) one ∙ append_assoc old first rest

-- one with a value that is written as it stands
pub one_put : (old new : List Field) (name bytes : List ℕ) (value : FieldValue) → value ≡ plain_value bytes → new ≡ old ++ ((name, value.bytes) ∷ []) → new ≡ old ++ ((name, bytes) ∷ [])
one_put old new name bytes value plain put = put ∙ ap (λ (v : FieldValue). old ++ ((name, v.bytes) ∷ [])) plain

-- and then others
pub one_then : (old rest mid new : List Field) (name bytes : List ℕ) (value : FieldValue) → value ≡ plain_value bytes → mid ≡ old ++ ((name, value.bytes) ∷ []) → new ≡ mid ++ rest → new ≡ old ++ ((name, bytes) ∷ rest)
one_then old rest mid new name bytes value plain one two =
    both_put old ((name, bytes) ∷ []) rest mid new (one_put old mid name bytes value plain one) two
