-- What stands before a mark.
use Rattle.std.proofs.Common.{◌≡◌, ◌==◌, ℕ, ◌≤◌, Bool, true, false, if◌then◌else◌, nat_lt, List, length, take, Some, None, refl, sym, ap, arith}
use Rattle.std.proofs.lemmas.Bool.Decides.{nat_tests}
use Rattle.std.proofs.lemmas.List.{take_all}
use Rattle.std.specs.List.{position, position_or_len}
use Rattle.input_http.specs.Words.{before}

pub before_place : (mark : ℕ) (bytes : List ℕ) (place : ℕ) → position (λ b. b == mark) bytes ≡ Some place → take place bytes ≡ before mark bytes
before_place mark bytes place found =
    let is : place ≡ position_or_len (λ b. b == mark) bytes = at (nat_lt (position_or_len (λ b. b == mark) bytes) (length bytes)) found in
    ap (λ n. take n bytes) is
  where
    at : (b : Bool) → (if b then Some (position_or_len (λ b. b == mark) bytes) else None) ≡ Some place → place ≡ position_or_len (λ b. b == mark) bytes
    at true e = cc
    at false e = cc

pub before_none : (mark : ℕ) (bytes : List ℕ) → position (λ b. b == mark) bytes ≡ None → bytes ≡ before mark bytes
before_none mark bytes none = sym (take_all (position_or_len (λ b. b == mark) bytes) bytes (past (nat_lt (position_or_len (λ b. b == mark) bytes) (length bytes)) refl none))
  where
    past : (b : Bool) → nat_lt (position_or_len (λ b. b == mark) bytes) (length bytes) ≡ b → (if b then Some (position_or_len (λ b. b == mark) bytes) else None) ≡ None → length bytes ≤ position_or_len (λ b. b == mark) bytes
    past true is e = cc
    past false is e = grind (arith, nat_tests)
