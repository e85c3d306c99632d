-- Texts that are put after one another.
use Rattle.std.proofs.Common.{◌≡◌, ℕ, List, ◌++◌, append_assoc}

pub five : (t a b c d e : List ℕ) → (((((t ++ a) ++ b) ++ c) ++ d) ++ e) ≡ t ++ ((((a ++ b) ++ c) ++ d) ++ e)
five t a b c d e = simp append_assoc

pub six : (t a b c d e f : List ℕ) → ((((((t ++ a) ++ b) ++ c) ++ d) ++ e) ++ f) ≡ t ++ (((((a ++ b) ++ c) ++ d) ++ e) ++ f)
six t a b c d e f = simp append_assoc
