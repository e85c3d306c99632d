-- What a password that is not wrong is.
use Rattle.std.proofs.Common.{◌≡◌, ◌⊎◌, ℕ, Bool, true, false, not, nat_eq, ◌==◌, List, [], ◌∷◌, length, refl, sym, inl, inr, rules}
use Rattle.std.specs.Cmp.Lexicographic.{pointwise, same_text}
use Rattle.account_rules.specs.Effects.{is_wrong_password}

not_not : (b : Bool) → not b ≡ false → true ≡ b
not_not true is = refl
not_not false is = absurd cc

-- there is none, or it is the one that was given
pub right_password : (kept given : List ℕ) → is_wrong_password kept given ≡ false → (kept ≡ []) ⊎ (given ≡ kept)
right_password [] given is = inl refl
right_password (b ∷ kept) given is =
    let told : not (length (b ∷ kept) == 0) ≡ true = search rules in
    let same : not (pointwise nat_eq (b ∷ kept) given) ≡ false = rw told at is in
    inr (sym (same_text (b ∷ kept) given (not_not (pointwise nat_eq (b ∷ kept) given) same)))
