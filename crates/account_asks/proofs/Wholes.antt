-- A request whole: its checks, stage by stage, and what it asks.
use Rattle.std.proofs.Common.{◌≡◌, ℕ, List, ◌∷◌, Option, Some, None, Result, Ok, Err, IfOk, IfErr, refl, sym, ap, subst, ◌∙◌}
use Rattle.ipp_coding.specs.declared.message.Header.{Header}
use Rattle.ipp_coding.specs.Plain.{PlainAttribute, PlainMessage}
use Rattle.ipp_coding.specs.Reading.{header_in, message_of}
use Rattle.account_rules.specs.declared.refusal.Refusal.{Refusal}
use Rattle.account_asks.specs.declared.operation.Operation.{Operation}
use Rattle.account_asks.specs.declared.ask.Ask.{Ask}
use Rattle.account_asks.specs.declared.ask.AskFault.{AskFault}
use Rattle.account_asks.specs.declared.ask.AskFault.TheVariants.{Refused, Memory}
use Rattle.account_asks.specs.Asks.{PlainAsk, asked, assembled, ask_of, AsksAs, IsAsk, CanBeSpelled, plain_ask}
use Rattle.account_asks.specs.ProofAskParts.{AskParts, ask_parts, IsBare}
use Rattle.account_asks.specs.CheckOrder.{attribute_checks, document_checks, message_checks, header_checks, message_or_nothing}
use Rattle.account_asks.specs.Checks.{malformed_check}
use Rattle.account_asks.specs.Fields.{fields_of, fidelity, wanted}
use Rattle.account_asks.specs.Operations.{operation_of}
use Rattle.account_asks.specs.Refusals.{PlainRefusal, refusal_of, checked}
use Rattle.account_asks.specs.ProofTelling.{bare}
use Rattle.account_asks.specs.Requests.{operation_attributes}
use Rattle.account_asks.specs.Templates.{template_attributes, copies, unsupported}
use Rattle.account_asks.proofs.Sections.{failed_first, passed_first, passed_value, passed_alone, fails_with}

-- ---- a refusal with which nothing goes

pub asks_bare : (fault : AskFault) (refusal : Refusal) (answer : Result PlainAsk PlainRefusal) → IsBare fault refusal → answer ≡ Err (bare refusal) → AsksAs (Err fault) answer
asks_bare (Refused given with) refusal answer is same = same ∙ rw (is.0, is.1) refl
asks_bare Memory refusal answer is same = tt

pub bare_spelled : (fault : AskFault) (refusal : Refusal) → IsBare fault refusal → CanBeSpelled fault
bare_spelled (Refused given with) refusal is = rw is.1 tt
bare_spelled Memory refusal is = tt

-- ---- the checks of a message

pub parts_refused : (account : List ℕ) (header : Header) (operation : Operation) (m : PlainMessage) (r : PlainRefusal) →
    Err r ≡ checked (attribute_checks account operation (operation_attributes m)) (ask_parts account operation (operation_attributes m)) →
    checked (message_checks account operation m) (asked account header operation m) ≡ Err r
unfolding message_checks
parts_refused account header operation m r failed =
    failed_first (attribute_checks account operation (operation_attributes m))
    (document_checks operation (fidelity operation (operation_attributes m)) (unsupported (template_attributes operation m)) m.payload)
    (ask_parts account operation (operation_attributes m)) (asked account header operation m) r (sym failed)

insists_as_said : (account : List ℕ) (operation : Operation) (given : List PlainAttribute) → (ask_parts account operation given).fields.insists ≡ fidelity operation given
unfolding ask_parts fields_of
insists_as_said account operation given = refl

past_parts : (account : List ℕ) (header : Header) (operation : Operation) (m : PlainMessage) (parts : AskParts) (templates : List PlainAttribute) →
    Ok parts ≡ checked (attribute_checks account operation (operation_attributes m)) (ask_parts account operation (operation_attributes m)) →
    templates ≡ unsupported (template_attributes operation m) →
    checked (message_checks account operation m) (asked account header operation m) ≡ checked (document_checks operation parts.fields.insists templates m.payload) (asked account header operation m)
unfolding message_checks
past_parts account header operation m parts templates passed returned =
    let same = passed_value (attribute_checks account operation (operation_attributes m)) (ask_parts account operation (operation_attributes m)) parts (sym passed) in
    let insists : fidelity operation (operation_attributes m) ≡ parts.fields.insists =
    sym (insists_as_said account operation (operation_attributes m)) ∙ ap (λ (p : AskParts). p.fields.insists) same in
    passed_first (attribute_checks account operation (operation_attributes m))
    (document_checks operation (fidelity operation (operation_attributes m)) (unsupported (template_attributes operation m)) m.payload)
    (ask_parts account operation (operation_attributes m)) parts (asked account header operation m) (sym passed)
    ∙ rw (insists, returned) refl

pub document_refused : (account : List ℕ) (header : Header) (operation : Operation) (m : PlainMessage) (parts : AskParts) (templates : List PlainAttribute) (r : PlainRefusal) →
    Ok parts ≡ checked (attribute_checks account operation (operation_attributes m)) (ask_parts account operation (operation_attributes m)) →
    templates ≡ unsupported (template_attributes operation m) →
    Err r ≡ checked (document_checks operation parts.fields.insists templates m.payload) (tt {0}) →
    checked (message_checks account operation m) (asked account header operation m) ≡ Err r
document_refused account header operation m parts templates r passed returned failed =
    past_parts account header operation m parts templates passed returned
    ∙ fails_with (document_checks operation parts.fields.insists templates m.payload) (tt {0}) (asked account header operation m) r (sym failed)

asked_with : (account : List ℕ) (header : Header) (operation : Operation) (m : PlainMessage) (parts : AskParts) →
    ask_parts account operation (operation_attributes m) ≡ parts →
    asked account header operation m
    ≡ assembled header operation parts.target parts.fields (wanted operation parts.attributes) (copies (template_attributes operation m)) (unsupported (template_attributes operation m)) m.payload
unfolding asked ask_parts
asked_with account header operation m parts same =
    ap (λ (p : AskParts). assembled header operation p.target p.fields (wanted operation p.attributes) (copies (template_attributes operation m)) (unsupported (template_attributes operation m)) m.payload) same

pub all_passed : (account : List ℕ) (header : Header) (operation : Operation) (m : PlainMessage) (parts : AskParts) (many : ℕ) (templates : List PlainAttribute) →
    Ok parts ≡ checked (attribute_checks account operation (operation_attributes m)) (ask_parts account operation (operation_attributes m)) →
    many ≡ copies (template_attributes operation m) →
    templates ≡ unsupported (template_attributes operation m) →
    Ok (tt {0}) ≡ checked (document_checks operation parts.fields.insists templates m.payload) (tt {0}) →
    checked (message_checks account operation m) (asked account header operation m)
    ≡ Ok (assembled header operation parts.target parts.fields (wanted operation parts.attributes) many templates m.payload)
all_passed account header operation m parts many templates passed counted returned fine =
    let same = passed_value (attribute_checks account operation (operation_attributes m)) (ask_parts account operation (operation_attributes m)) parts (sym passed) in
    past_parts account header operation m parts templates passed returned
    ∙ passed_alone (document_checks operation parts.fields.insists templates m.payload) (tt {0}) (tt {0}) (asked account header operation m) (sym fine)
    ∙ ap (λ (ask : PlainAsk). Ok ask) (asked_with account header operation m parts same)
    ∙ rw (counted, returned) refl

-- ---- what is asked, or no memory

pub asks_whole : (answer : Result Ask AskFault) (ask : PlainAsk) (wanted : Result PlainAsk PlainRefusal) →
    IfOk answer (λ a. plain_ask a ≡ ask) → IfErr answer (λ fault. fault ≡ Memory) → wanted ≡ Ok ask → AsksAs answer wanted
asks_whole (Ok a) ask wanted is memory same = same ∙ ap (λ (x : PlainAsk). Ok x) (sym is)
asks_whole (Err fault) ask wanted is memory same = rw memory tt

pub good_whole : (answer : Result Ask AskFault) (ask : PlainAsk) → IfOk answer (λ a. plain_ask a ≡ ask) → IsAsk ask → IfOk answer (λ a. IsAsk (plain_ask a))
good_whole (Ok a) ask is good = subst IsAsk (sym is) good
good_whole (Err fault) ask is good = tt

-- ---- a body

pub header_refused : (account body : List ℕ) (header : Header) (r : PlainRefusal) → header ≡ header_in body → Err r ≡ checked (header_checks header) (operation_of header) → ask_of account body ≡ Err r
unfolding ask_of
header_refused account body header r is refused =
    let P : Header → Type 0 = λ h. Err r ≡ checked (header_checks h) (operation_of h) in
    let failed : Err r ≡ checked (header_checks (header_in body)) (operation_of (header_in body)) = subst P is refused in
    failed_first (header_checks (header_in body)) (malformed_check (message_of body) ∷ message_checks account (operation_of (header_in body)) (message_or_nothing (header_in body) (message_of body)))
    (operation_of (header_in body)) (asked account (header_in body) (operation_of (header_in body)) (message_or_nothing (header_in body) (message_of body))) r (sym failed)

past_header : (account body : List ℕ) (header : Header) (operation : Operation) (message : Option PlainMessage) →
    header ≡ header_in body → Ok operation ≡ checked (header_checks header) (operation_of header) →
    message_of body ≡ message →
    ask_of account body ≡ checked (malformed_check message ∷ message_checks account operation (message_or_nothing header message)) (asked account header operation (message_or_nothing header message))
unfolding ask_of
past_header account body header operation message is served read =
    let P : Header → Type 0 = λ h. Ok operation ≡ checked (header_checks h) (operation_of h) in
    let passed : Ok operation ≡ checked (header_checks (header_in body)) (operation_of (header_in body)) = subst P is served in
    let same = passed_value (header_checks (header_in body)) (operation_of (header_in body)) operation (sym passed) in
    passed_first (header_checks (header_in body)) (malformed_check (message_of body) ∷ message_checks account (operation_of (header_in body)) (message_or_nothing (header_in body) (message_of body)))
    (operation_of (header_in body)) operation (asked account (header_in body) (operation_of (header_in body)) (message_or_nothing (header_in body) (message_of body))) (sym passed)
    ∙ rw (same, read, is) refl

pub malformed_refused : (account body : List ℕ) (header : Header) (operation : Operation) → header ≡ header_in body →
    Ok operation ≡ checked (header_checks header) (operation_of header) → message_of body ≡ None → ask_of account body ≡ Err (refusal_of (malformed_check None))
malformed_refused account body header operation is passed none = past_header account body header operation None is passed none

pub message_decides : (account body : List ℕ) (header : Header) (operation : Operation) (m : PlainMessage) (answer : Result Ask AskFault) →
    header ≡ header_in body → Ok operation ≡ checked (header_checks header) (operation_of header) → message_of body ≡ Some m →
    AsksAs answer (checked (message_checks account operation m) (asked account header operation m)) → AsksAs answer (ask_of account body)
message_decides account body header operation m answer is passed read decided =
    subst (AsksAs answer) (sym (past_header account body header operation (Some m) is passed read)) decided
