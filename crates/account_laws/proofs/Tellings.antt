-- What a reply tells of whether an event was done.
use Rattle.std.proofs.Common.{◌≡◌, ℕ, ◌^◌, ◌<◌, Bool, true, false, cond, ◌==◌, ◌||◌, nat_lt, List, [], ◌∷◌, ◌++◌, append_assoc, Option, None, Some, refl, sym, ap, subst, ◌∙◌, arith}
use Rattle.std.specs.List.{flat_map}
use Rattle.std.proofs.lemmas.Bool.Decides.{nat_tests}
use Rattle.ipp_coding.specs.Tags.{end_tag}
use Rattle.ipp_coding.specs.Plain.{PlainAttribute, PlainGroup}
use Rattle.ipp_coding.specs.Reading.{header_in}
use Rattle.ipp_coding.specs.Spelling.{group_spelling, header_spelling}
use Rattle.ipp_coding.specs.declared.message.Header.{Header}
use Rattle.account_laws.proofs.Statuses.{IsError}
use Rattle.account_laws.specs.Told.{is_ok, is_successful}
use Rattle.account_machine.specs.declared.event.Reply.TheVariants as reply
use Rattle.account_replies.specs.Replies.{operation_group, reply_header, unsupported_groups}
use Rattle.account_replies.specs.Responses.{done_text, refused_text, response}
use Rattle.account_replies.specs.Words.{word_text}
use Rattle.account_rules.specs.declared.refusal.Refusal.{Refusal}
use Rattle.account_rules.specs.declared.refusal.Word.{Word}
use Rattle.account_rules.specs.declared.refusal.Word.TheVariants.{Version}

-- ---- the status of a response

-- the header that the bytes begin with has its code
code_behind : (h : Header) (rest : List ℕ) → h.code < 2 ^ 16 → (header_in (header_spelling h ++ rest)).code ≡ h.code
code_behind h rest fits = omega (arith, fits)

-- the header of a reply has its status
headed : (request : Header) (status : ℕ) → (reply_header request status).code ≡ status
headed request status =
    elim (request.major == 0 || request.major == 1) as (λ (b : Bool). (cond {A = Header} b (record { major = 1; minor = 1; code = status; request_id = request.request_id }) (record { major = 2; minor = 0; code = status; request_id = request.request_id })).code ≡ status)
    [ true ↦ refl | false ↦ refl ]

apart : (a b c d : List ℕ) → ((a ++ b) ++ c) ++ d ≡ a ++ (b ++ (c ++ d))
apart a b c d = simp append_assoc

-- a response begins with its status
status_told : (request : Header) (status : ℕ) (text : Option (List ℕ)) (unsupported : List PlainAttribute) (groups : List PlainGroup) → status < 2 ^ 16
    → (header_in (response request status text unsupported groups)).code ≡ status
status_told request status text unsupported groups fits =
    let h = reply_header request status in
    let same : h.code ≡ status = headed request status in
    let front = flat_map group_spelling (operation_group text ∷ unsupported_groups unsupported) in
    let rear = flat_map group_spelling groups in
    ap (λ (bytes : List ℕ). (header_in bytes).code) (apart (header_spelling h) front rear (end_tag ∷ []))
    ∙ code_behind h (front ++ (rear ++ end_tag ∷ [])) (subst (λ (code : ℕ). code < 2 ^ 16) (sym same) fits)
    ∙ same

-- what was done is told with a status below those of errors, and what was refused is not
pub tells_success : (request : Header) (unsupported : List PlainAttribute) (groups : List PlainGroup) → is_successful (reply.Ipp (done_text request unsupported groups)) ≡ true
tells_success request [] groups = ap (λ (code : ℕ). nat_lt code 0x0100) (status_told request 0 None [] groups (omega arith))
tells_success request (first ∷ further) groups = ap (λ (code : ℕ). nat_lt code 0x0100) (status_told request 1 None (first ∷ further) groups (omega arith))

error_is_high : (status : ℕ) → IsError status → nat_lt status 0x0100 ≡ false
error_is_high status errs = grind (arith, nat_tests, errs)

error_fits : (status : ℕ) → IsError status → status < 2 ^ 16
error_fits status errs = grind (arith, nat_tests, errs)

pub tells_error : (request : Header) (refusal : Refusal) (unsupported : List PlainAttribute) → IsError refusal.status → is_successful (reply.Ipp (refused_text request refusal unsupported)) ≡ false
tells_error request refusal unsupported errs =
    ap (λ (code : ℕ). nat_lt code 0x0100) (status_told request refusal.status (Some (word_text refusal.word)) unsupported [] (error_fits refusal.status errs)) ∙ error_is_high refusal.status errs

-- ---- lines

-- no word begins with ok
pub tells_word : (word : Word) → is_ok (reply.Line (word_text word)) ≡ false
tells_word Version = refl
tells_word _ = refl
