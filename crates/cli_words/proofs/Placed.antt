-- What words say by their places.
use Rattle.std.proofs.Common.{◌≡◌, ◌<◌, ◌≤◌, ◌∙◌, ℕ, zero, suc, List, [], ◌∷◌, Bor, ap, arith, get_or, length, refl, slice_get, sym}
use Rattle.std.specs.Prelude.{Some}
use Rattle.cli_words.specs.Addresses.{IsAddressOf}
use Rattle.cli_words.specs.Commands.{SaysBackingUp}
use Rattle.cli_words.specs.Words.{texts}
use Rattle.cli_words.specs.declared.backing_up.BackingUp.{BackingUp}

pub text_at : (words : List (Bor (List ℕ))) (index : ℕ) (default : Bor (List ℕ)) → index < length words
    → slice_get (texts words) index ≡ Some (get_or words index default).now
text_at [] index default within = absurd (omega (arith, within))
text_at (word ∷ words) zero default within = refl
text_at (word ∷ words) (suc index) default within = text_at words index default (omega (arith, within))

pub SaysBackingUp-of : (words : List (Bor (List ℕ))) (placed : List (List ℕ)) (backing_up : BackingUp) (d e : Bor (List ℕ))
    → texts words ≡ placed → 3 ≤ length words → IsAddressOf (get_or words 1 d).now 1 backing_up.address
    → backing_up.file.now ≡ (get_or words 2 e).now → SaysBackingUp placed backing_up
SaysBackingUp-of words placed backing_up d e same many address file = record {
  word = (get_or words 1 d).now;
  first = ap (λ texts. slice_get texts 1) (sym same) ∙ text_at words 1 d (omega (arith, many));
  address = address;
  file = ap (λ texts. slice_get texts 2) (sym same) ∙ text_at words 2 e (omega (arith, many)) ∙ ap Some (sym file);
}
