-- Rule: Lists of words in the value of a header field (RFC 9110 section 5.6).
use Rattle.std.specs.Prelude.{ℕ, ◌==◌, Bool, List, [], ◌∷◌}
use Rattle.std.specs.List.{list_any, slice_split}
use Rattle.httparse.specs.Ascii.{comma}
use Rattle.input_http.specs.Words.{is_same_word, without_margin}

-- the word stands in the value, which lists words between commas with spaces and tabs round them
abbrev pub lists : (word value : List ℕ) → Bool
lists word value = list_any (λ item. is_same_word (without_margin (32 ∷ 9 ∷ []) item) word)
    (slice_split (λ b. b == comma) value)
