-- The message that the bytes of an answer spell.
use Rattle.std.proofs.Common.{codes, refl, Bool, true, false, append_assoc, append-nil, ◌≡◌, ℕ, ◌^◌, ◌+◌, ◌<◌, ◌≤◌, ◌==◌, ◌||◌, cond, drop, slice_index, List, [], ◌∷◌, ◌++◌, length, Option, Some, None, sym, ap, subst, ◌∙◌, arith}
use Rattle.std.specs.List.{AllByRecursion, flat_map}
use Rattle.std.proofs.lemmas.Grind.{flat_map-append}
use Rattle.std.proofs.lemmas.List.{get_or-drop}
use Rattle.std.proofs.lemmas.Option.{same_Some}
use Rattle.ipp_coding.proofs.Wholes.{message_again}
use Rattle.ipp_coding.specs.Plain.{PlainAttribute, PlainGroup, PlainMessage}
use Rattle.ipp_coding.specs.Reading.{header_in}
use Rattle.ipp_coding.specs.Spelling.{IsAttribute, IsGroup, IsHeader, Spells, group_spelling, header_spelling}
use Rattle.ipp_coding.specs.Tags.{end_tag}
use Rattle.ipp_coding.specs.declared.message.Header.{Header}
use Rattle.account_laws.proofs.RefusalTexts.{code_fits, text_alike, text_fits}
use Rattle.account_laws.proofs.ShownRows.{◌&◌, group_spelled, one_spelled}
use Rattle.account_laws.specs.AnswerMessages.{done_message, failed_message, header_told, refused_message, request_id_of}
use Rattle.account_laws.specs.RefusalCodes.{code_of}
use Rattle.account_replies.specs.Replies.{internal_error_text, operation_group, reply_header, reply_text, unsupported_groups}
use Rattle.account_replies.specs.Responses.{done_text, refused_text, response, success_status}
use Rattle.account_replies.specs.Words.{word_text}
use Rattle.account_rules.specs.declared.refusal.Refusal.{Refusal}

-- ---- the message that a response of the machine spells

abbrev machine_message : (request : Header) (status : ℕ) (text : Option (List ℕ)) (unsupported : List PlainAttribute) (groups : List PlainGroup) → PlainMessage
machine_message request status text unsupported groups = record { header = reply_header request status; groups = operation_group text ∷ (unsupported_groups unsupported ++ groups); payload = [] }

pub reply_fits : (request : Header) (status : ℕ) → status < 2 ^ 16 → IsHeader request → IsHeader (reply_header request status)
reply_fits request status fits is =
    elim (request.major == 0 || request.major == 1) as (λ (b : Bool). IsHeader (cond {A = Header} b (record { major = 1; minor = 1; code = status; request_id = request.request_id }) (record { major = 2; minor = 0; code = status; request_id = request.request_id })))
    [ true ↦ record { code = fits; request_id = is.request_id } | false ↦ record { code = fits; request_id = is.request_id } ]

pub spelled_apart : (header : List ℕ) (front rear : List PlainGroup) → ((header ++ flat_map group_spelling front) ++ flat_map group_spelling rear) ++ end_tag ∷ [] ≡ header ++ (flat_map group_spelling (front ++ rear) ++ end_tag ∷ [])
spelled_apart header front rear =
    ap (λ (l : List ℕ). l ++ end_tag ∷ []) (append_assoc header (flat_map group_spelling front) (flat_map group_spelling rear) ∙ ap (λ (l : List ℕ). header ++ l) (sym (flat_map-append group_spelling front rear)))
    ∙ append_assoc header (flat_map group_spelling (front ++ rear)) (end_tag ∷ [])

abbrev TextFits : Option (List ℕ) → Type 0
TextFits None = Unit {0}
TextFits (Some text) = length text ≤ 32767

opening_spelled : (text : Option (List ℕ)) → TextFits text → IsGroup (operation_group text)
opening_spelled None fits = group_spelled 0x01 _ refl (one_spelled (codes "attributes-charset") [] 0x47 _ refl (omega arith) & one_spelled (codes "attributes-natural-language") [] 0x48 _ refl (omega arith) & tt)
opening_spelled (Some text) fits =
    group_spelled 0x01 _ refl (one_spelled (codes "attributes-charset") [] 0x47 _ refl (omega arith) & one_spelled (codes "attributes-natural-language") [] 0x48 _ refl (omega arith) & one_spelled (codes "status-message") [] 0x41 text refl fits & tt)

rest_spelled : (unsupported : List PlainAttribute) (groups : List PlainGroup) → AllByRecursion IsAttribute unsupported → AllByRecursion IsGroup groups → AllByRecursion IsGroup (unsupported_groups unsupported ++ groups)
rest_spelled [] groups all are = are
rest_spelled (first ∷ further) groups all are = group_spelled 0x05 (first ∷ further) refl all & are

response_spells : (request : Header) (status : ℕ) (text : Option (List ℕ)) (unsupported : List PlainAttribute) (groups : List PlainGroup) → IsHeader request → status < 2 ^ 16 → TextFits text → AllByRecursion IsAttribute unsupported → AllByRecursion IsGroup groups
    → Spells (machine_message request status text unsupported groups) (response request status text unsupported groups)
response_spells request status text unsupported groups header code fits all are = record {
  header = reply_fits request status code header;
  groups = (opening_spelled text fits, rest_spelled unsupported groups all are);
  bytes = spelled_apart (header_spelling (reply_header request status)) (operation_group text ∷ unsupported_groups unsupported) groups;
}

-- and no other
pub record Tells (message : PlainMessage) (text : List ℕ) : Type 0 where
  pub spells : Spells message text
  pub is_one : (other : PlainMessage) → Spells other text → other ≡ message

as_one : (message : PlainMessage) (text : List ℕ) → Spells message text → Tells message text
as_one message text spells = record { spells = spells; is_one = λ other spelled. same_Some other message (sym (message_again other text spelled) ∙ message_again message text spells) }

-- ---- the header

-- the bytes from the fifth on
behind_four : (body : List ℕ) (place : ℕ) → slice_index (drop 4 body) place ≡ slice_index body (4 + place)
behind_four body place = get_or-drop 4 body place 0

id_alike : (body : List ℕ) → (header_in body).request_id ≡ request_id_of body
id_alike body = omega (arith, behind_four body 0, behind_four body 1, behind_four body 2, behind_four body 3)

header_alike : (body : List ℕ) (status : ℕ) → reply_header (header_in body) status ≡ header_told body status
header_alike body status =
    ap (λ (id : ℕ). cond {A = Header} (slice_index body 0 == 0 || slice_index body 0 == 1) (record { major = 1; minor = 1; code = status; request_id = id }) (record { major = 2; minor = 0; code = status; request_id = id })) (id_alike body)

-- ---- what is refused

refused_alike : (body : List ℕ) (refusal : Refusal) (unsupported : List PlainAttribute) → refusal.status ≡ code_of refusal.word → machine_message (header_in body) refusal.status (Some (word_text refusal.word)) unsupported [] ≡ refused_message body refusal.word unsupported
refused_alike body refusal [] coded =
    let text = text_alike refusal.word in
    let header = header_alike body refusal.status ∙ ap (header_told body) coded in
    λ i. record { header = header i; groups = operation_group (Some (text i)) ∷ []; payload = [] }
refused_alike body refusal (first ∷ further) coded =
    let text = text_alike refusal.word in
    let header = header_alike body refusal.status ∙ ap (header_told body) coded in
    λ i. record { header = header i; groups = operation_group (Some (text i)) ∷ record { tag = 0x05; attributes = first ∷ further } ∷ []; payload = [] }

pub refused_tells : (body : List ℕ) (refusal : Refusal) (unsupported : List PlainAttribute) → IsHeader (header_in body) → refusal.status ≡ code_of refusal.word → AllByRecursion IsAttribute unsupported → Tells (refused_message body refusal.word unsupported) (refused_text (header_in body) refusal unsupported)
refused_tells body refusal unsupported header coded all =
    let text = refused_text (header_in body) refusal unsupported in
    let low : refusal.status < 2 ^ 16 = subst (λ (code : ℕ). code < 2 ^ 16) (sym coded) (code_fits refusal.word) in
    let fits : length (word_text refusal.word) ≤ 32767 = subst (λ (l : List ℕ). length l ≤ 32767) (sym (text_alike refusal.word)) (text_fits refusal.word) in
    as_one (refused_message body refusal.word unsupported) text
    (subst (λ (message : PlainMessage). Spells message text) (refused_alike body refusal unsupported coded) (response_spells (header_in body) refusal.status (Some (word_text refusal.word)) unsupported [] header low fits all tt))

-- ---- what is done

status_low : (unsupported : List PlainAttribute) → success_status unsupported < 2 ^ 16
status_low [] = omega arith
status_low (first ∷ further) = omega arith

done_alike : (body : List ℕ) (unsupported : List PlainAttribute) (groups : List PlainGroup) → machine_message (header_in body) (success_status unsupported) None unsupported groups ≡ done_message body unsupported groups
done_alike body [] groups = ap (λ (header : Header). let message : PlainMessage = record { header = header; groups = operation_group None ∷ groups; payload = [] } in message) (header_alike body 0x0000)
done_alike body (first ∷ further) groups = ap (λ (header : Header). let message : PlainMessage = record { header = header; groups = operation_group None ∷ record { tag = 0x05; attributes = first ∷ further } ∷ groups; payload = [] } in message) (header_alike body 0x0001)

pub done_tells : (body : List ℕ) (unsupported : List PlainAttribute) (groups : List PlainGroup) → IsHeader (header_in body) → AllByRecursion IsAttribute unsupported → AllByRecursion IsGroup groups → Tells (done_message body unsupported groups) (done_text (header_in body) unsupported groups)
done_tells body unsupported groups header all are =
    let text = done_text (header_in body) unsupported groups in
    as_one (done_message body unsupported groups) text
    (subst (λ (message : PlainMessage). Spells message text) (done_alike body unsupported groups) (response_spells (header_in body) (success_status unsupported) None unsupported groups header (status_low unsupported) tt all are))

-- ---- what could not be applied

abbrev failed_text : Option (List ℕ)
failed_text = Some (codes "internal-error")

pub failed_tells : (body : List ℕ) → IsHeader (header_in body) → Tells (failed_message body) (internal_error_text (header_in body))
failed_tells body header =
    let text = internal_error_text (header_in body) in
    let spells = response_spells (header_in body) 0x0500 failed_text [] [] header (omega arith) (omega arith) tt tt in
    let alike : machine_message (header_in body) 0x0500 failed_text [] [] ≡ failed_message body =
    ap (λ (header : Header). let message : PlainMessage = record { header = header; groups = operation_group failed_text ∷ []; payload = [] } in message) (header_alike body 0x0500) in
    as_one (failed_message body) text
    (subst (λ (message : PlainMessage). Spells message text) alike
    (subst (Spells (machine_message (header_in body) 0x0500 failed_text [] [])) (ap (λ (l : List ℕ). l ++ end_tag ∷ []) (append-nil (reply_text (header_in body) 0x0500 failed_text []))) spells))
