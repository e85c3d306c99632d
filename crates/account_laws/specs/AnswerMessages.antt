-- The message of an answer, but for the groups of jobs or of the printer (RFC 8010 section 3.1, RFC
-- 8011 section 4.1).
use Rattle.std.specs.Prelude.{ℕ, ◌+◌, ◌*◌, ◌==◌, ◌||◌, if◌then◌else◌, List, [], ◌∷◌, ◌++◌, slice_index, codes}
use Rattle.ipp_coding.specs.Plain.{PlainAttribute, PlainGroup, PlainMessage, PlainValue}
use Rattle.ipp_coding.specs.declared.message.Header.{Header}
use Rattle.account_laws.specs.RefusalCodes.{code_of}
use Rattle.account_laws.specs.RefusalTexts.{text_of}
use Rattle.account_laws.specs.ShownValues.{charset, language, text_without_language}
use Rattle.account_rules.specs.declared.refusal.Word.{Word}

-- ---- what each answer begins with

-- the request-id of a request: its fifth to its eighth byte, the highest first (RFC 8010 section
-- 3.1.1)
abbrev pub request_id_of : (body : List ℕ) → ℕ
request_id_of body =
    ((slice_index body 4 * 256 + slice_index body 5) * 256 + slice_index body 6) * 256
    + slice_index body 7

-- An answer has the same request-id. Of the versions 1.1 and 2.0 it has the one nearest to that of
-- the request, whose major number is its first byte (RFC 8011 sections 4.1.1 and 4.1.8).
abbrev pub header_told : (body : List ℕ) (code : ℕ) → Header
header_told body code =
    if slice_index body 0 == 0 || slice_index body 0 == 1
    then record { major = 1; minor = 1; code = code; request_id = request_id_of body }
    else record { major = 2; minor = 0; code = code; request_id = request_id_of body }

abbrev pub attribute_told : (name : List ℕ) (values : List PlainValue) → PlainAttribute
attribute_told name values = record { name = name; values = values }

-- the group 0x01, of the operation, comes first, and in it charset and natural language (section
-- 4.1.4.2)
abbrev pub first_group : (said : List PlainAttribute) → PlainGroup
first_group said = record {
  tag = 0x01;
  attributes =
      attribute_told (codes "attributes-charset") (charset (codes "utf-8"))
      ∷ attribute_told (codes "attributes-natural-language") (language (codes "en"))
      ∷ said;
}

-- the group 0x05 of what is not supported, where there is any (section 4.1.7)
abbrev pub not_supported : List PlainAttribute → List PlainGroup
not_supported [] = []
not_supported (first ∷ further) = record { tag = 0x05; attributes = first ∷ further } ∷ []

-- ---- what is refused

-- its code, and its text as the status-message (section 4.1.6)
abbrev pub refused_message : (body : List ℕ) → Word → (unsupported : List PlainAttribute)
    → PlainMessage
refused_message body word unsupported = record {
  header = header_told body (code_of word);
  groups =
      first_group
      (attribute_told (codes "status-message") (text_without_language (text_of word)) ∷ [])
      ∷ not_supported unsupported;
  payload = [];
}

-- ---- what could not be applied

-- server-error-internal-error (section B.1.5.1); its text is this project's own
abbrev pub failed_message : (body : List ℕ) → PlainMessage
failed_message body = record {
  header = header_told body 0x0500;
  groups =
      first_group
      (attribute_told (codes "status-message") (text_without_language (codes "internal-error"))
      ∷ [])
      ∷ [];
  payload = [];
}

-- ---- what is done

-- successful-ok, and successful-ok-ignored-or-substituted-attributes where something is not
-- supported (sections B.1.2.1 and B.1.2.2)
abbrev pub done_code : (unsupported : List PlainAttribute) → ℕ
done_code [] = 0x0000
done_code (first ∷ further) = 0x0001

-- and the groups of jobs or of the printer
abbrev pub done_message : (body : List ℕ) (unsupported : List PlainAttribute)
    (groups : List PlainGroup) → PlainMessage
done_message body unsupported groups = record {
  header = header_told body (done_code unsupported);
  groups = first_group [] ∷ (not_supported unsupported ++ groups);
  payload = [];
}
