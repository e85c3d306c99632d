-- What several calls of a source take.
use Rattle.std.proofs.Common.{ℕ, List, ◌++◌, ◌+◌, ◌-◌, ◌≡◌, ◌≤◌, ◌∙◌, min, take, length, arith, ap, sym, subst, ◌<◌, length-append, append_assoc, append-nil}
use Rattle.std.proofs.lemmas.Grind.{common_steps}
use Rattle.input_fields.specs.Streams.{IsSpent, Yields}

-- what two calls take, one after the other
pub Yields_more : (before between after : List ℕ → Type 0) (first second : List ℕ) → Yields before between first → Yields between after second → Yields before after (first ++ second)
Yields_more before between after first second one two rest left = subst before (sym (append_assoc first second rest)) (one (second ++ rest) (two rest left))

-- after what was taken nothing came, so that it was all
pub all_taken : (before after : List ℕ → Type 0) (bytes : List ℕ) → ((rest : List ℕ) × after rest) → Yields before after bytes → IsSpent after → before bytes
all_taken before after bytes some took spent = subst before (ap (λ rest. bytes ++ rest) (spent some.0 some.1) ∙ append-nil bytes) (took some.0 some.1)

-- a piece of a room that is left is no longer than that
pub length-piece : (bytes piece given : List ℕ) (count size room most : ℕ) → size ≡ length bytes → size ≤ most + 1 → room ≡ min (most + 1 - size) 4096 → count ≤ length (take room piece) → length (bytes ++ take count given) ≤ most + 1
length-piece bytes piece given count size room most is within of fits = grind (arith, common_steps)

-- more was taken than there may be, so that more was left
pub longer_left : (before after : List ℕ → Type 0) (bytes : List ℕ) (most : ℕ) → ((rest : List ℕ) × after rest) → Yields before after bytes → most < length bytes → (all : List ℕ) × before all × (most < length all)
longer_left before after bytes most some took long = let all : length (bytes ++ some.0) ≡ length bytes + length some.0 = length-append bytes some.0 in (bytes ++ some.0, took some.0 some.1, omega arith)
