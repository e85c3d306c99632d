-- The bytes of a message, and of a text with its language.
use Rattle.std.proofs.Common.{◌≡◌, ℕ, List, [], ◌∷◌, ◌++◌, refl, sym, ap, ◌∙◌}
use Rattle.std.specs.List.{flat_map, AllByRecursion}
use Rattle.ipp_coding.specs.Plain.{PlainAttribute, PlainGroup, PlainMessage, PlainValue}
use Rattle.ipp_coding.specs.Spelling.{AreValues, IsAttribute, IsGroup, IsValue, attribute_spelling, group_spelling, header_spelling, message_spelling, values_spelling}
use Rattle.account_laws.specs.SpelledBytes.{CanBeAttribute, CanBeGroup, CanBeValue, CanBeValues, MessagesAreInBytes, TextsAreInBytes, attribute_bytes, group_bytes, message_bytes, values_bytes}

each : {X : Type 0} (P Q : X → Type 0) → ((x : X) → P x → Q x) → (xs : List X) → AllByRecursion P xs → AllByRecursion Q xs
each P Q so [] all = tt
each P Q so (x ∷ xs) all = (so x all.0, each P Q so xs all.1)

alike : {X : Type 0} (f g : X → List ℕ) → ((x : X) → f x ≡ g x) → (xs : List X) → flat_map f xs ≡ flat_map g xs
alike f g same [] = refl
alike f g same (x ∷ xs) = λ i. same x i ++ alike f g same xs i

values_alike : (name : List ℕ) (values : List PlainValue) → values_spelling name values ≡ values_bytes name values
values_alike name [] = refl
values_alike name (first ∷ further) = refl

group_alike : (g : PlainGroup) → group_spelling g ≡ group_bytes g
group_alike g = ap (λ (l : List ℕ). g.tag ∷ l) (alike attribute_spelling attribute_bytes (λ (a : PlainAttribute). values_alike a.name a.values) g.attributes)

message_alike : (m : PlainMessage) → message_spelling m ≡ message_bytes m
message_alike m = ap (λ (l : List ℕ). header_spelling m.header ++ (l ++ (3 ∷ m.payload))) (alike group_spelling group_bytes group_alike m.groups)

values_can : (values : List PlainValue) → AreValues values → CanBeValues values
values_can [] never = never
values_can (first ∷ further) are = each IsValue CanBeValue (λ _ is. (is.tag, is.bytes)) (first ∷ further) are

values_are : (values : List PlainValue) → CanBeValues values → AreValues values
values_are [] never = never
values_are (first ∷ further) can = each CanBeValue IsValue (λ _ can. record { tag = can.0; bytes = can.1 }) (first ∷ further) can

attribute_can : (a : PlainAttribute) → IsAttribute a → CanBeAttribute a
attribute_can a is = (is.named, is.name, values_can a.values is.values)

attribute_is : (a : PlainAttribute) → CanBeAttribute a → IsAttribute a
attribute_is a can = record { named = can.0; name = can.1; values = values_are a.values can.2 }

group_can : (g : PlainGroup) → IsGroup g → CanBeGroup g
group_can g is = (is.low, is.high, is.not_end, each IsAttribute CanBeAttribute attribute_can g.attributes is.attributes)

group_is : (g : PlainGroup) → CanBeGroup g → IsGroup g
group_is g can = record { low = can.0; high = can.1; not_end = can.2; attributes = each CanBeAttribute IsAttribute attribute_is g.attributes can.3 }

pub messages_are_in_bytes : MessagesAreInBytes
messages_are_in_bytes m body = (
  λ spells. record { code = spells.header.code; request_id = spells.header.request_id; groups = each IsGroup CanBeGroup group_can m.groups spells.groups; bytes = spells.bytes ∙ message_alike m },
  λ is. record { header = record { code = is.code; request_id = is.request_id }; groups = each CanBeGroup IsGroup group_is m.groups is.groups; bytes = is.bytes ∙ sym (message_alike m) },
)

pub texts_are_in_bytes : TextsAreInBytes
texts_are_in_bytes bytes text = (
  λ is. record { language = is.language; language_fits = is.language_fits; text_fits = is.text_fits; parts = is.parts },
  λ is. record { language = is.language; language_fits = is.language_fits; text_fits = is.text_fits; parts = is.parts },
)
