-- What is looked up keeps the rules.
use Rattle.std.proofs.Common.{◌≡◌, Option, Some, None, is_some, refl, sym}
use Rattle.std.specs.Option.{option_copied, IfSome}
use denote.Ref.{Bor}

-- what holds of each value that may be there holds of the one that is
pub copied_keeps : {A : Type 0} (P : A → Type 0) (found : Option (Bor A)) (o : Option A) → option_copied found ≡ o → ((x : A) → o ≡ Some x → P x) → IfSome found (λ x. P x.now)
copied_keeps P None o e each = tt
copied_keeps P (Some x) o e each = each x.now (sym e)

pub value_keeps : {A : Type 0} (P : A → Type 0) (found o : Option A) → found ≡ o → ((x : A) → o ≡ Some x → P x) → IfSome found P
value_keeps P None o e each = tt
value_keeps P (Some x) o e each = each x (sym e)

pub is_some-copied : {A : Type 0} (found : Option (Bor A)) → is_some found ≡ is_some (option_copied found)
is_some-copied None = refl
is_some-copied (Some x) = refl
