-- For the proof of the code alone: attributes that are put one after another.
use Rattle.std.specs.Prelude.{ℕ, List, [], ◌∷◌, codes}
use Rattle.std.specs.List.{flat_map}
use Rattle.ipp_coding.specs.Plain.{PlainAttribute}
use Rattle.ipp_coding.specs.Spelling.{attribute_spelling}
use Rattle.account_replies.specs.Attributes.{attribute_with}

abbrev pub attributes_text : List PlainAttribute → List ℕ
attributes_text attributes = flat_map attribute_spelling attributes

-- the charset, the language and the queue
abbrev pub first_attributes : (uri : List ℕ) → List PlainAttribute
first_attributes uri = attribute_with (codes "attributes-charset") 0x47 (codes "utf-8")
    ∷ attribute_with (codes "attributes-natural-language") 0x48 (codes "en")
    ∷ attribute_with (codes "printer-uri") 0x45 uri ∷ []
