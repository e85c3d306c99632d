-- The digits of bytes, one part after another.
use Rattle.std.proofs.Common.{◌≡◌, ℕ, ◌/◌, ◌%◌, List, [], ◌∷◌, ◌++◌, slice_index, take, drop, take-append-drop, refl, sym, ap, ◌∙◌}
use Rattle.hex.specs.Hex.{encode_lower, encode_with, lower_digits}

with_table : (table first rest : List ℕ)
    → encode_with table (first ++ rest) ≡ encode_with table first ++ encode_with table rest
unfolding encode_with
with_table table [] rest = refl
with_table table (byte ∷ first) rest =
    ap (λ l. slice_index table (byte / 16) ∷ slice_index table (byte % 16) ∷ l) (with_table table first rest)

pub encode_lower-append : (first rest : List ℕ)
    → encode_lower (first ++ rest) ≡ encode_lower first ++ encode_lower rest
encode_lower-append first rest = with_table lower_digits first rest

pub encode_lower-nil : encode_lower [] ≡ []
unfolding encode_with
encode_lower-nil = refl

pub split_front : (count : ℕ) (rest first more : List ℕ) → first ≡ take count rest
    → more ≡ drop count rest → rest ≡ first ++ more
split_front count rest first more front back =
    sym (take-append-drop count rest) ∙ ap (λ l. l ++ drop count rest) (sym front)
    ∙ ap (λ l. first ++ l) (sym back)
