-- Rule: Records of comma-separated values (RFC 4180 section 2).
use Rattle.std.specs.Prelude.{ℕ, ◌==◌, ◌||◌, Bool, if◌then◌else◌, List, [], ◌∷◌, ◌++◌, codes, map}
use Rattle.std.specs.Borrow.{Bor}
use Rattle.std.specs.List.{flat_map, list_any}

-- a double quote, a comma, a carriage return or a line feed
abbrev pub is_special : (byte : ℕ) → Bool
is_special byte = (byte == 34) || (byte == 44) || (byte == 13) || (byte == 10)

abbrev pub needs_quotes : (field : List ℕ) → Bool
needs_quotes field = list_any is_special field

-- in a field in double quotes, a double quote is written twice
abbrev pub doubled_byte : (byte : ℕ) → List ℕ
doubled_byte byte = if byte == 34 then 34 ∷ 34 ∷ [] else byte ∷ []

abbrev pub doubled : (field : List ℕ) → List ℕ
doubled field = flat_map doubled_byte field

abbrev pub field_text : (field : List ℕ) → List ℕ
field_text field =
    if needs_quotes field then codes "\"" ++ (doubled field ++ codes "\"") else field

-- fields with commas between them, and the line end
abbrev pub record_text : (fields : List (List ℕ)) → List ℕ
record_text [] = codes "\r\n"
record_text (last ∷ []) = field_text last ++ codes "\r\n"
record_text (first ∷ next ∷ rest) = field_text first ++ (codes "," ++ record_text (next ∷ rest))

-- the texts of the fields
abbrev pub texts : List (Bor (List ℕ)) → List (List ℕ)
texts fields = map (λ (field : Bor (List ℕ)). field.now) fields
