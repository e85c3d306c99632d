-- Rule: The reply to a request, up to the groups of jobs or of the printer.
use Rattle.std.specs.Prelude.{ℕ, ◌==◌, ◌||◌, if◌then◌else◌, List, [], ◌∷◌, ◌++◌, Option, Some, None, codes}
use Rattle.std.specs.List.{flat_map}
use Rattle.ipp_coding.specs.Tags.{end_tag}
use Rattle.ipp_coding.specs.declared.message.Header.{Header}
use Rattle.ipp_coding.specs.Plain.{PlainAttribute, PlainGroup}
use Rattle.ipp_coding.specs.Spelling.{header_spelling, group_spelling}
use Rattle.account_replies.specs.Attributes.{attribute_with}

-- of the versions 1.1 and 2.0 the one nearest to the request's, by its major number (RFC 8011
-- section 4.1.8)
abbrev pub reply_header : (request : Header) (status : ℕ) → Header
reply_header request status =
    if request.major == 0 || request.major == 1
    then record { major = 1; minor = 1; code = status; request_id = request.request_id }
    else record { major = 2; minor = 0; code = status; request_id = request.request_id }

-- status-message, a text, for a refusal (RFC 8011 section 4.1.6.2)
abbrev pub status_message : Option (List ℕ) → List PlainAttribute
status_message None = []
status_message (Some text) = attribute_with (codes "status-message") 0x41 text ∷ []

-- attributes-charset and attributes-natural-language come first (RFC 8011 section 4.1.4.2)
abbrev pub operation_group : Option (List ℕ) → PlainGroup
operation_group text = record {
  tag = 0x01;
  attributes =
      attribute_with (codes "attributes-charset") 0x47 (codes "utf-8")
      ∷ attribute_with (codes "attributes-natural-language") 0x48 (codes "en")
      ∷ status_message text;
}

-- the attributes that are not supported, where there are any (RFC 8011 section 4.1.7)
abbrev pub unsupported_groups : List PlainAttribute → List PlainGroup
unsupported_groups [] = []
unsupported_groups (first ∷ further) = record { tag = 0x05; attributes = first ∷ further } ∷ []

-- the bytes that spell them after the header
abbrev pub reply_text : (request : Header) (status : ℕ) (text : Option (List ℕ))
    (unsupported : List PlainAttribute) → List ℕ
reply_text request status text unsupported =
    header_spelling (reply_header request status)
    ++ flat_map group_spelling (operation_group text ∷ unsupported_groups unsupported)

-- server-error-internal-error, whole (RFC 8011 section B.1.5.1); its word is this project's own
abbrev pub internal_error_text : Header → List ℕ
internal_error_text request = reply_text request 0x0500 (Some (codes "internal-error")) []
    ++ end_tag ∷ []
