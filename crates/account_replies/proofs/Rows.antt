-- The rows of a table that are shown, one after the other.
use Rattle.std.proofs.Common.{◌≡◌, Bool, true, false, cond, ◌||◌, List, [], ◌∷◌, ◌++◌, map, filter, Option, ℕ, append_assoc, refl, sym, ap, ◌∙◌, Bor}
use Rattle.std.specs.List.{flat_map, list_any}
use Rattle.ipp_coding.specs.Spelling.{attribute_spelling}
use Rattle.account_replies.specs.Tables.{ShownRow, asks_for, is_wanted, row_attribute, shown}
use Rattle.account_replies.specs.ProofRowTexts.{row_text}
use Rattle.account_replies.specs.Places.{PlainPlace}

one_row : {Thing : Type 0} (at : PlainPlace) (thing : Thing) (row : ShownRow Thing) (rows : List (ShownRow Thing)) (test : Bool) →
    flat_map attribute_spelling (map (row_attribute at thing) (cond test (row ∷ rows) rows)) ≡ cond test (attribute_spelling (row_attribute at thing row)) [] ++ flat_map attribute_spelling (map (row_attribute at thing) rows)
one_row at thing row rows true = refl
one_row at thing row rows false = refl

pub rows_shown : {Thing : Type 0} (wanted : Option (List (List ℕ))) (at : PlainPlace) (thing : Thing) (rows : List (ShownRow Thing)) → flat_map attribute_spelling (shown rows wanted at thing) ≡ flat_map (row_text wanted at thing) rows
rows_shown wanted at thing [] = refl
rows_shown {Thing} wanted at thing (row ∷ rows) =
    one_row at thing row (filter (λ (r : ShownRow Thing). is_wanted wanted r.name r.group) rows) (is_wanted wanted row.name row.group) ∙ ap (λ text. row_text wanted at thing row ++ text) (rows_shown wanted at thing rows)

-- a name is asked for, in memory or as a value
pub any_asked : (name group : List ℕ) (names : List (Bor (List ℕ))) → list_any (asks_for name group) (map (λ (asked : Bor (List ℕ)). asked.now) names) ≡ list_any (λ (asked : Bor (List ℕ)). asks_for name group asked.now) names
any_asked name group [] = refl
any_asked name group (asked ∷ names) = ap (λ rest. asks_for name group asked.now || rest) (any_asked name group names)

-- the group's tag, then the rows that the program writes, which are those of the table
pub group_shown : {Thing : Type 0} (tag : ℕ) (old tagged new : List ℕ) (wanted : Option (List (List ℕ))) (at : PlainPlace) (thing : Thing) (written rows : List (ShownRow Thing)) →
    written ≡ rows → tagged ≡ old ++ tag ∷ [] → new ≡ tagged ++ flat_map (row_text wanted at thing) written → new ≡ old ++ tag ∷ flat_map attribute_spelling (shown rows wanted at thing)
group_shown {Thing} tag old tagged new wanted at thing written rows same begun appended =
    appended ∙ (ap (λ x. x ++ flat_map (row_text wanted at thing) written) begun
    ∙ (append_assoc old (tag ∷ []) (flat_map (row_text wanted at thing) written)
    ∙ (ap (λ (rs : List (ShownRow Thing)). old ++ tag ∷ flat_map (row_text wanted at thing) rs) same
    ∙ ap (λ x. old ++ tag ∷ x) (sym (rows_shown wanted at thing rows)))))
