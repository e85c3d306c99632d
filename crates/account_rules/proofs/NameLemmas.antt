-- A name as it is copied to its cells.
use Rattle.std.proofs.Common.{◌≡◌, ◌≤◌, IsTrue, true, List, ℕ, ◌++◌, length, take, drop, replicate, refl, ap, arith}
use Rattle.std.proofs.lemmas.List.{take_at}
use Rattle.std.proofs.lemmas.Bool.Decides.{nat_tests}
use Rattle.account_rules.specs.Names.{is_name}
use Rattle.account_rules.specs.ProofNameCells.{cells_of}

short_name : (bytes : List ℕ) → is_name bytes ≡ true → length bytes ≤ 32
short_name bytes h = grind (arith, nat_tests)

-- a name that is copied to the front of empty cells lies in them so
pub name_in_cells : (bytes front : List ℕ) → is_name bytes ≡ true → front ≡ bytes →
    let cells = front ++ drop (length bytes) (replicate 32 0) in
    (length bytes ≤ 32) × (length (take (length bytes) cells) ≡ length bytes) × (cells ≡ cells_of (take (length bytes) cells)) × IsTrue (is_name (take (length bytes) cells))
name_in_cells bytes front h copied =
    let back : take (length bytes) (front ++ drop (length bytes) (replicate 32 0)) ≡ bytes = rw copied (take_at bytes (drop (length bytes) (replicate 32 0)) (length bytes) refl) in
    (short_name bytes h, ap length back, rw back (ap (λ f. f ++ drop (length bytes) (replicate 32 0)) copied), rw back h)
