-- What goes back with the refusal of a request as it is read.
use Rattle.std.proofs.Common.{inl, inr, ◌≡◌, ℕ, ◌==◌, ◌&&◌, Bool, true, false, true≢false, cond, not, filter, map, List, [], Option, None, Some, Err, unwrap_or, refl, sym, ap, subst, ◌∙◌, arith}
use Rattle.std.specs.List.{AllByRecursion}
use Rattle.std.specs.Prelude.{MatchBool}
use Rattle.std.proofs.lemmas.Bool.{and_parts, eqb-true}
use Rattle.std.proofs.lemmas.List.{get_or-drop}
use Rattle.ipp_coding.specs.Plain.{PlainAttribute, PlainMessage}
use Rattle.ipp_coding.specs.Reading.{header_in, message_of}
use Rattle.ipp_coding.proofs.Wholes.{message_spells}
use Rattle.ipp_coding.specs.Spelling.{IsAttribute}
use Rattle.account_asks.proofs.Spelled.{unsupported_spelled}
use Rattle.account_asks.specs.Asks.{PlainRefusal, ask_of}
use Rattle.account_asks.specs.CheckOrder.{attribute_checks, checks, message_checks, document_checks, field_checks, opening_checks, target_checks}
use Rattle.account_asks.specs.Checks.{some_attribute}
use Rattle.account_asks.specs.Operations.{hands_in_document, makes_job, operation_of, operation_with}
use Rattle.account_asks.specs.Refusals.{first_refusal}
use Rattle.account_asks.specs.Requests.{job_group_of}
use Rattle.account_asks.specs.Templates.{firsts, is_supported, returned, template_attributes, unsupported}
use Rattle.account_asks.specs.declared.operation.Operation.{Operation}
use Rattle.account_asks.specs.declared.operation.Operation.TheVariants as asks
use Rattle.account_laws.proofs.FirstFound.{Found, found, found_holds, refused_first}
use Rattle.account_laws.proofs.ShownRows.{◌&◌}
use Rattle.account_laws.proofs.SpelledAttributes.{message_bytes}
use Rattle.account_laws.proofs.SpelledFields.{Groups, job_group_is}
use Rattle.account_laws.proofs.SpelledTemplates.{unsupported_back}
use Rattle.account_laws.specs.AsksLieWithin.{AreBytes}
use Rattle.account_laws.specs.ReturnedAttributes.{AreSentBack, GoesWith, RefusalsSendBack, operation_id_of}

-- ---- by the operation

-- one that makes no job has none
none_back : (operation : Operation) (m : PlainMessage) → makes_job operation ≡ false → unsupported (template_attributes operation m) ≡ []
unfolding unsupported template_attributes
none_back operation m no_job = ap (λ (b : Bool). map returned (filter (λ (a : PlainAttribute). not (is_supported a)) (firsts (cond b (unwrap_or (job_group_of m.groups) []) [])))) no_job

-- what hands in a document and is no Send-Document makes a job
makes_or_sends : (print validate create send cancel attributes jobs printer hold release : Bool) → send ≡ false
    → (let operation = unwrap_or
    (cond print (Some asks.PrintJob)
    (cond validate (Some asks.ValidateJob)
    (cond create (Some asks.CreateJob)
    (cond send (Some asks.SendDocument)
    (cond cancel (Some asks.CancelJob)
    (cond attributes (Some asks.GetJobAttributes)
    (cond jobs (Some asks.GetJobs) (cond printer (Some asks.GetPrinterAttributes) (cond hold (Some asks.HoldJob) (cond release (Some asks.ReleaseJob) None))))))))))
    asks.PrintJob
    in
    hands_in_document operation ≡ true → makes_job operation ≡ true)
makes_or_sends true validate create send cancel attributes jobs printer hold release isnt hands = refl
makes_or_sends false true create send cancel attributes jobs printer hold release isnt hands = refl
makes_or_sends false false true send cancel attributes jobs printer hold release isnt hands = refl
makes_or_sends false false false true cancel attributes jobs printer hold release isnt hands = absurd (true≢false isnt)
makes_or_sends false false false false true attributes jobs printer hold release isnt hands = absurd (true≢false (sym hands))
makes_or_sends false false false false false true jobs printer hold release isnt hands = absurd (true≢false (sym hands))
makes_or_sends false false false false false false true printer hold release isnt hands = absurd (true≢false (sym hands))
makes_or_sends false false false false false false false true hold release isnt hands = absurd (true≢false (sym hands))
makes_or_sends false false false false false false false false true release isnt hands = absurd (true≢false (sym hands))
makes_or_sends false false false false false false false false false true isnt hands = absurd (true≢false (sym hands))
makes_or_sends false false false false false false false false false false isnt hands = refl

id_alike : (body : List ℕ) → (header_in body).code ≡ operation_id_of body
id_alike body = omega (arith, get_or-drop 2 body 0 0, get_or-drop 2 body 1 0)

makes_by_id : (id : ℕ) → (id == 0x06) ≡ false → hands_in_document (unwrap_or (operation_with id) asks.PrintJob) ≡ true → makes_job (unwrap_or (operation_with id) asks.PrintJob) ≡ true
makes_by_id id isnt hands = makes_or_sends (id == 0x02) (id == 0x04) (id == 0x05) (id == 0x06) (id == 0x08) (id == 0x09) (id == 0x0A) (id == 0x0B) (id == 0x0C) (id == 0x0D) isnt hands

-- ---- what goes back

-- what makes a job has the attributes of the first group 0x02
template_read : (operation : Operation) (m : PlainMessage) → makes_job operation ≡ true → unwrap_or (job_group_of m.groups) [] ≡ template_attributes operation m
unfolding template_attributes
template_read operation m makes = sym (ap (λ (b : Bool). cond b (unwrap_or (job_group_of m.groups) []) []) makes)

module _ (body : List ℕ) (bytes : AreBytes body) (m : PlainMessage) (is : message_of body ≡ Some m) where
  abbrev its_operation : Operation
  its_operation = operation_of (header_in body)

  abbrev back : List PlainAttribute
  back = unsupported (template_attributes its_operation m)

  sent_back : makes_job its_operation ≡ true → AreSentBack body back
  sent_back makes =
      let spells = message_spells body m bytes is in
      let template = subst (Groups m.groups) (template_read its_operation m makes) (job_group_is m.groups (message_bytes m body bytes spells)) in
      record { message = m; spells = spells; template = template_attributes its_operation m; is_template = template.are; go_back = unsupported_back (template_attributes its_operation m) template.are_of }

  for_template : (insists : Bool) → (insists && some_attribute back) ≡ true → AreSentBack body back
  for_template insists refuses = by (makes_job its_operation) refl
    where
      by : (makes : Bool) → makes_job its_operation ≡ makes → AreSentBack body back
      by true makes = sent_back makes
      by false no_job = absurd (true≢false (sym (and_parts insists (some_attribute back) refuses).1 ∙ ap some_attribute (none_back its_operation m no_job)))

  for_document : (long : Bool) → (hands_in_document its_operation && long) ≡ true → MatchBool (operation_id_of body == 0x06) (back ≡ []) (AreSentBack body back)
  for_document long refuses = by (operation_id_of body == 0x06) refl
    where
      by : (sends : Bool) → (operation_id_of body == 0x06) ≡ sends → MatchBool sends (back ≡ []) (AreSentBack body back)
      by true sends = none_back its_operation m (ap (λ (id : ℕ). makes_job (unwrap_or (operation_with id) asks.PrintJob)) (id_alike body ∙ eqb-true (operation_id_of body) 0x06 sends))
      by false isnt = sent_back (makes_by_id (header_in body).code (ap (λ (id : ℕ). id == 0x06) (id_alike body) ∙ isnt) (and_parts (hands_in_document its_operation) long refuses).0)

-- ---- of the first check that refuses

-- it can be spelled, and goes with the word
abbrev IsBrought : (body : List ℕ) → PlainRefusal → Type 0
IsBrought body refused = AllByRecursion IsAttribute refused.unsupported × GoesWith body refused.refusal.word refused.unsupported

-- without a message the third check refuses; of those of a message the last two alone bring something
brings_by : (account body : List ℕ) → AreBytes body → (message : Option PlainMessage) → message_of body ≡ message → (refused : PlainRefusal) → Found refused (checks account (header_in body) message) → IsBrought body refused
unfolding message_checks attribute_checks opening_checks target_checks field_checks document_checks
brings_by account body bytes None none refused (inl here) = subst (IsBrought body) here.1 (tt, refl)
brings_by account body bytes None none refused (inr (other, inl here)) = subst (IsBrought body) here.1 (tt, refl)
brings_by account body bytes None none refused (inr (other, inr (another, inl here))) = subst (IsBrought body) here.1 (tt, refl)
brings_by account body bytes None none refused (inr (other, inr (another, inr (passes, later)))) = absurd (true≢false passes)
brings_by account body bytes (Some m) some refused found =
    let all = unsupported_spelled (operation_of (header_in body)) m (message_spells body m bytes some).groups in
    found_holds (IsBrought body) (checks account (header_in body) (Some m)) refused
    ((λ _. (tt, refl)) & (λ _. (tt, refl)) & (λ _. (tt, refl)) & (λ _. (tt, refl)) & (λ _. (tt, refl)) & (λ _. (tt, refl)) & (λ _. (tt, refl)) & (λ _. (tt, refl))
    & (λ _. (tt, refl)) & (λ _. (tt, refl)) & (λ _. (tt, refl)) & (λ _. (tt, refl)) & (λ _. (tt, refl)) & (λ _. (tt, refl)) & (λ _. (tt, refl)) & (λ _. (tt, refl))
    & (λ refuses. (all, for_template body bytes m some _ refuses))
    & (λ refuses. (all, for_document body bytes m some _ refuses))
    & tt)
    found

brought : (account body : List ℕ) (refused : PlainRefusal) → AreBytes body → ask_of account body ≡ Err refused → IsBrought body refused
unfolding ask_of
brought account body refused bytes is =
    let all = checks account (header_in body) (message_of body) in
    brings_by account body bytes (message_of body) refl refused (found all refused (refused_first (first_refusal all) _ refused is))

pub refusals_send_back : RefusalsSendBack
refusals_send_back account body refused bytes is = (brought account body refused bytes is).1

-- what goes back can be spelled
pub back_spelled : (account body : List ℕ) (refused : PlainRefusal) → AreBytes body → ask_of account body ≡ Err refused → AllByRecursion IsAttribute refused.unsupported
back_spelled account body refused bytes is = (brought account body refused bytes is).0
