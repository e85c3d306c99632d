-- The parts of a message, put one after another, are the message.
use Rattle.std.proofs.Common.{◌≡◌, ◌∙◌, ℕ, List, [], ◌∷◌, ◌++◌, ap, append-nil, append_assoc, codes, sym}
use Rattle.std.proofs.lemmas.Grind.{flat_map-append}
use Rattle.ipp_coding.specs.Plain.{PlainAttribute}
use Rattle.ipp_coding.specs.Spelling.{attribute_spelling, first_spelling, header_spelling, message_spelling}
use Rattle.ipp_coding.specs.declared.message.Header.{Header}
use Rattle.account_replies.specs.Attributes.{attribute_with, number_bytes, value_with}
use Rattle.client_owner.specs.ProofSpelled.{attributes_text, first_attributes}
use Rattle.client_owner.specs.Requests.{copies_group, operation_group}

pub single_text : (name : List ℕ) (tag : ℕ) (value : List ℕ)
    → attributes_text (attribute_with name tag value ∷ []) ≡ first_spelling name (value_with tag value)
single_text name tag value =
    append-nil (first_spelling name (value_with tag value) ++ [])
    ∙ append-nil (first_spelling name (value_with tag value))

pub attributes_text-append : (some more : List PlainAttribute)
    → attributes_text (some ++ more) ≡ attributes_text some ++ attributes_text more
attributes_text-append some more = flat_map-append attribute_spelling some more

-- attributes behind others
pub attributes-both : (some more : List PlainAttribute) (a b c : List ℕ)
    → b ≡ a ++ attributes_text some → c ≡ b ++ attributes_text more → c ≡ a ++ attributes_text (some ++ more)
attributes-both some more a b c first second =
    second ∙ ap (λ text. text ++ attributes_text more) first
    ∙ append_assoc a (attributes_text some) (attributes_text more)
    ∙ ap (λ text. a ++ text) (sym (attributes_text-append some more))

in_one : (old front s1 s2 s3 more ending : List ℕ)
    → ((old ++ (front ++ 1 ∷ (s1 ++ (s2 ++ (s3 ++ []))))) ++ more) ++ ending
    ≡ old ++ (front ++ (((1 ∷ (s1 ++ (s2 ++ (s3 ++ more)))) ++ []) ++ ending))
in_one old front s1 s2 s3 more ending = simp (append_assoc, append-nil)

in_two : (old front s1 s2 s3 more last ending : List ℕ)
    → ((((old ++ (front ++ 1 ∷ (s1 ++ (s2 ++ (s3 ++ []))))) ++ more) ++ 2 ∷ []) ++ last) ++ ending
    ≡ old ++ (front ++ (((1 ∷ (s1 ++ (s2 ++ (s3 ++ more)))) ++ ((2 ∷ last) ++ [])) ++ ending))
in_two old front s1 s2 s3 more last ending = simp (append_assoc, append-nil)

abbrev charset_text : List ℕ
charset_text = attribute_spelling (attribute_with (codes "attributes-charset") 0x47 (codes "utf-8"))

abbrev language_text : List ℕ
language_text =
    attribute_spelling (attribute_with (codes "attributes-natural-language") 0x48 (codes "en"))

abbrev uri_text : (uri : List ℕ) → List ℕ
uri_text uri = attribute_spelling (attribute_with (codes "printer-uri") 0x45 uri)

-- a message of one group
pub one_group : (header : Header) (uri : List ℕ) (more : List PlainAttribute) (payload : List ℕ)
    → (old fronted asked ended : List ℕ)
    → fronted ≡ old ++ (header_spelling header ++ 1 ∷ attributes_text (first_attributes uri))
    → asked ≡ fronted ++ attributes_text more → ended ≡ asked ++ 3 ∷ payload
    → ended ≡ old ++ message_spelling (record { header = header; groups = operation_group uri more ∷ []; payload = payload })
one_group header uri more payload old fronted asked ended e0 e1 e2 =
    e2 ∙ ap (λ text. text ++ 3 ∷ payload) (e1 ∙ ap (λ text. text ++ attributes_text more) e0)
    ∙ in_one old (header_spelling header) charset_text language_text (uri_text uri)
    (attributes_text more) (3 ∷ payload)

-- a message with the copies behind that
pub two_groups : (header : Header) (uri : List ℕ) (more : List PlainAttribute) (copies : ℕ) (payload : List ℕ)
    → (old fronted asked begun counted ended : List ℕ)
    → fronted ≡ old ++ (header_spelling header ++ 1 ∷ attributes_text (first_attributes uri))
    → asked ≡ fronted ++ attributes_text more → begun ≡ asked ++ 2 ∷ []
    → counted ≡ begun ++ attributes_text (attribute_with (codes "copies") 0x21 (number_bytes copies) ∷ [])
    → ended ≡ counted ++ 3 ∷ payload
    → ended ≡ old ++ message_spelling (record {
      header = header;
      groups = operation_group uri more ∷ copies_group copies ∷ [];
      payload = payload;
    })
two_groups header uri more copies payload old fronted asked begun counted ended e0 e1 e2 e3 e4 =
    let last = attributes_text (attribute_with (codes "copies") 0x21 (number_bytes copies) ∷ []) in
    e4 ∙ ap (λ text. text ++ 3 ∷ payload) (e3 ∙ ap (λ text. text ++ last) (e2 ∙ ap (λ text. text ++ 2 ∷ [])
    (e1 ∙ ap (λ text. text ++ attributes_text more) e0)))
    ∙ in_two old (header_spelling header) charset_text language_text (uri_text uri)
    (attributes_text more) last (3 ∷ payload)

in_front : (old front s1 s2 s3 : List ℕ)
    → ((((old ++ front) ++ 1 ∷ []) ++ (s1 ++ [])) ++ (s2 ++ [])) ++ (s3 ++ [])
    ≡ old ++ (front ++ 1 ∷ (s1 ++ (s2 ++ (s3 ++ []))))
in_front old front s1 s2 s3 = simp (append_assoc, append-nil)

-- the header, and the first group up to the queue
pub front_spelled : (front uri old headed begun one two three : List ℕ)
    → headed ≡ old ++ front → begun ≡ headed ++ 1 ∷ []
    → one ≡ begun ++ (charset_text ++ []) → two ≡ one ++ (language_text ++ [])
    → three ≡ two ++ (uri_text uri ++ [])
    → three ≡ old ++ (front ++ 1 ∷ attributes_text (first_attributes uri))
front_spelled front uri old headed begun one two three e0 e1 e2 e3 e4 =
    e4 ∙ ap (λ text. text ++ (uri_text uri ++ [])) (e3 ∙ ap (λ text. text ++ (language_text ++ []))
    (e2 ∙ ap (λ text. text ++ (charset_text ++ [])) (e1 ∙ ap (λ text. text ++ 1 ∷ []) e0)))
    ∙ in_front old front charset_text language_text (uri_text uri)
