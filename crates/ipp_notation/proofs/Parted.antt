-- Lines parted at their last space.
use Rattle.std.proofs.Common.{◌≡◌, ◌≢◌, ◌⊎◌, inl, inr, ℕ, ◌<◌, List, codes, Ok, Some, IsErr, length, take, slice_index, sym, ap, ◌∙◌, subst}
use Rattle.std.proofs.lemmas.Bool.{eqb-true, true≢false}
use Rattle.hex.specs.Hex.{decode_of}
use Rattle.memchr.specs.Find.{IsLastByte, is_byte}
use Rattle.ipp_notation.specs.Lines.{AreBefore, HasNoMessage, IsOfScript, IsParted, IsWord}
use Rattle.ipp_notation.specs.declared.line.Origin.{Origin}
use Rattle.ipp_notation.specs.declared.line.Origin.TheVariants.{Script, Output, Alone}
use Rattle.ipp_notation.proofs.Words.{last_space, no_word, same_last, words_are}

words_at : (w d line : List ℕ) (s : ℕ) → AreBefore w d line → IsLastByte (is_byte 32) line (Some s) → w ≡ take s line
words_at w d line s are last = words_are w d line are ∙ ap (λ n. take n line) (sym (last_space w d line s are last))

-- a line whose last space stands after other words has none of the three forms
pub no_parts : (line : List ℕ) (s : ℕ) → IsLastByte (is_byte 32) line (Some s) → (take s line ≢ codes "ipp") → (IsOfScript (take s line) → ⊥)
    → (o : Origin) (w d : List ℕ) → IsParted o w d line → ⊥
no_parts line s last no_output no_script Script w d parts = no_script (subst IsOfScript (words_at w d line s parts.1 last) parts.0)
no_parts line s last no_output no_script Output w d parts = no_output (sym (words_at w d line s parts.1 last) ∙ parts.0)
no_parts line s last no_output no_script Alone w d parts =
    let word : IsWord line = subst IsWord (sym parts.2) parts.1 in
    word s last.0.high (eqb-true (slice_index line s) 32 last.1)

-- ---- a line has one last word

abbrev IsLastWord : List ℕ → List ℕ → Type 0
IsLastWord line d = ((w : List ℕ) × AreBefore w d line) ⊎ (IsWord d × (line ≡ d))

last_word : (o : Origin) (w d line : List ℕ) → IsParted o w d line → IsLastWord line d
last_word Script w d line parts = inl (w, parts.1)
last_word Output w d line parts = inl (w, parts.1)
last_word Alone w d line parts = inr (parts.1, parts.2)

same_word : (line d e : List ℕ) → IsLastWord line d → IsLastWord line e → d ≡ e
same_word line d e (inl one) (inl other) = same_last one.0 d other.0 e line one.1 other.1
same_word line d e (inl one) (inr other) = absurd (no_word one.0 d line one.1 (subst IsWord (sym other.1) other.0))
same_word line d e (inr one) (inl other) = absurd (no_word other.0 e line other.1 (subst IsWord (sym one.1) one.0))
same_word line d e (inr one) (inr other) = sym one.1 ∙ other.1

-- where the last word is no digits, the line has no message
pub no_message : (line digits : List ℕ) (o : Origin) (w : List ℕ) → IsParted o w digits line → (0 < length digits → IsErr (decode_of digits)) → HasNoMessage line
no_message line digits o w parts refused p x bytes m =
    let same : digits ≡ m.digits = same_word line digits m.digits (last_word o w digits line parts) (last_word p x m.digits line m.parts) in
    let some : 0 < length digits = subst (λ (xs : List ℕ). 0 < length xs) (sym same) m.some in
    let read : decode_of digits ≡ Ok bytes = ap (λ xs. decode_of xs) same ∙ m.pairs in
    absurd (true≢false (sym (subst (λ r. IsErr r) read (refused some))))
