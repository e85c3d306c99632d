-- The operations of the profile by their ids, and which of them is for what: the tables of the
-- machine are those of the law.
use Rattle.std.proofs.Common.{◌≡◌, inl, inr, ℕ, Bool, true, false, true≢false, cond, ◌==◌, List, [], ◌∷◌, Option, Some, is_none, unwrap_or, refl, sym, ap, ◌∙◌, arith}
use Rattle.std.specs.List.{AllByRecursion}
use Rattle.std.proofs.lemmas.Bool.{eqb-true}
use Rattle.std.proofs.lemmas.Option.{none-some, same_Some}
use Rattle.ipp_coding.specs.Reading.{header_in}
use Rattle.ipp_coding.specs.declared.message.Header.{Header}
use Rattle.account_asks.specs.Operations.{describes_document, hands_in_document, is_for_job, is_get_jobs, is_send_document, lists_attributes, makes_job, operation_of, operation_with}
use Rattle.account_asks.specs.declared.operation.Operation.{Operation}
use Rattle.account_asks.specs.declared.operation.Operation.TheVariants.{PrintJob, ValidateJob, CreateJob, SendDocument, CancelJob, GetJobAttributes, GetJobs, GetPrinterAttributes, HoldJob, ReleaseJob}
use Rattle.account_laws.proofs.SpelledFields.{not_none}
use Rattle.account_laws.specs.OperationIds.{AsksJob, BringsDocument, IsOneOf, IsOperation, MakesJob, TellsOfDocument, WantsAttributes, Whether, id_of}
use Rattle.account_laws.specs.RefusalMeanings.{id_in}

-- ---- the ids

either : (code : ℕ) (here operation : Operation) (later : Option Operation) → cond (code == id_of here) (Some here) later ≡ Some operation → (later ≡ Some operation → code ≡ id_of operation) → code ≡ id_of operation
either code here operation later is goes_on = by (code == id_of here) refl is
  where
    by : (b : Bool) → (code == id_of here) ≡ b → cond b (Some here) later ≡ Some operation → code ≡ id_of operation
    by true same is = eqb-true code (id_of here) same ∙ ap id_of (same_Some here operation is)
    by false other is = goes_on is

pub code_is : (code : ℕ) (operation : Operation) → operation_with code ≡ Some operation → code ≡ id_of operation
code_is code operation is =
    either code PrintJob operation _ is λ is.
    either code ValidateJob operation _ is λ is.
    either code CreateJob operation _ is λ is.
    either code SendDocument operation _ is λ is.
    either code CancelJob operation _ is λ is.
    either code GetJobAttributes operation _ is λ is.
    either code GetJobs operation _ is λ is.
    either code GetPrinterAttributes operation _ is λ is.
    either code HoldJob operation _ is λ is.
    either code ReleaseJob operation _ is λ is. absurd (none-some operation is)

with_id : (operation : Operation) → operation_with (id_of operation) ≡ Some operation
with_id PrintJob = refl
with_id _ = refl

pub code_again : (code : ℕ) (operation : Operation) → code ≡ id_of operation → operation_with code ≡ Some operation
code_again code operation is = ap operation_with is ∙ with_id operation

pub served_is : (header : Header) → is_none (operation_with header.code) ≡ false → operation_with header.code ≡ Some (operation_of header)
served_is header served =
    let it = not_none (operation_with header.code) served in
    it.1 ∙ ap (λ (o : Option Operation). Some (unwrap_or o PrintJob)) (sym it.1)

-- one that is not served
pub not_served : (id : ℕ) → is_none (operation_with id) ≡ true → IsOperation id → ⊥
not_served id none served = true≢false (sym none ∙ ap is_none (code_again id served.0 served.1))

-- the third and fourth byte are the code of the header
pub code_in : (body : List ℕ) → id_in body ≡ (header_in body).code
code_in [] = refl
code_in (a ∷ []) = refl
code_in (a ∷ b ∷ rest) = omega arith

-- ---- which of them

-- a test that each of some passes is passed by one of them
one_passes : (test : Operation → Bool) (operations : List Operation) → AllByRecursion (λ (one : Operation). test one ≡ true) operations → (operation : Operation) → IsOneOf operations operation → test operation ≡ true
one_passes test [] all operation never = absurd never
one_passes test (one ∷ more) all operation (inl is) = ap test is ∙ all.0
one_passes test (one ∷ more) all operation (inr later) = one_passes test more all.1 operation later

pub makes : (operation : Operation) → makes_job operation ≡ true → MakesJob operation
makes PrintJob is = inl refl
makes ValidateJob is = inr (inl refl)
makes CreateJob is = inr (inr (inl refl))
makes _ is = absurd (true≢false (sym is))

pub makes_again : (operation : Operation) → MakesJob operation → makes_job operation ≡ true
makes_again = one_passes makes_job (PrintJob ∷ ValidateJob ∷ CreateJob ∷ []) (refl, (refl, (refl, tt)))

pub tells : (operation : Operation) → describes_document operation ≡ true → TellsOfDocument operation
tells PrintJob is = inl refl
tells ValidateJob is = inr (inl refl)
tells SendDocument is = inr (inr (inl refl))
tells _ is = absurd (true≢false (sym is))

pub tells_again : (operation : Operation) → TellsOfDocument operation → describes_document operation ≡ true
tells_again = one_passes describes_document (PrintJob ∷ ValidateJob ∷ SendDocument ∷ []) (refl, (refl, (refl, tt)))

pub brings : (operation : Operation) → hands_in_document operation ≡ true → BringsDocument operation
brings PrintJob is = inl refl
brings SendDocument is = inr (inl refl)
brings _ is = absurd (true≢false (sym is))

pub brings_again : (operation : Operation) → BringsDocument operation → hands_in_document operation ≡ true
brings_again = one_passes hands_in_document (PrintJob ∷ SendDocument ∷ []) (refl, (refl, tt))

pub lists : (operation : Operation) → lists_attributes operation ≡ true → WantsAttributes operation
lists GetJobAttributes is = inl refl
lists GetJobs is = inr (inl refl)
lists GetPrinterAttributes is = inr (inr (inl refl))
lists _ is = absurd (true≢false (sym is))

pub lists_again : (operation : Operation) → WantsAttributes operation → lists_attributes operation ≡ true
lists_again = one_passes lists_attributes (GetJobAttributes ∷ GetJobs ∷ GetPrinterAttributes ∷ []) (refl, (refl, (refl, tt)))

pub sends : (operation : Operation) → is_send_document operation ≡ true → operation ≡ SendDocument
sends SendDocument is = refl
sends _ is = absurd (true≢false (sym is))

pub sends_again : (operation : Operation) → operation ≡ SendDocument → is_send_document operation ≡ true
sends_again operation is = ap is_send_document is

pub gets : (operation : Operation) → is_get_jobs operation ≡ true → operation ≡ GetJobs
gets GetJobs is = refl
gets _ is = absurd (true≢false (sym is))

pub gets_again : (operation : Operation) → operation ≡ GetJobs → is_get_jobs operation ≡ true
gets_again operation is = ap is_get_jobs is

pub for_job : (operation : Operation) → is_for_job operation ≡ true → AsksJob operation
for_job SendDocument is = inl refl
for_job CancelJob is = inr (inl refl)
for_job GetJobAttributes is = inr (inr (inl refl))
for_job HoldJob is = inr (inr (inr (inl refl)))
for_job ReleaseJob is = inr (inr (inr (inr (inl refl))))
for_job _ is = absurd (true≢false (sym is))

pub for_job_again : (operation : Operation) → AsksJob operation → is_for_job operation ≡ true
for_job_again = one_passes is_for_job (SendDocument ∷ CancelJob ∷ GetJobAttributes ∷ HoldJob ∷ ReleaseJob ∷ []) (refl, (refl, (refl, (refl, (refl, tt)))))

-- what is so by a test is so by the law's word for it
pub whether : {IsSo : Type 0} (b : Bool) (Holds : Bool → Type 0) → (b ≡ true → IsSo) → (IsSo → b ≡ true) → Holds b → Whether IsSo (Holds true) (Holds false)
whether true Holds so again it = inl (so refl, it)
whether false Holds so again it = inr (λ is. true≢false (sym (again is)), it)

pub by_test : {IsSo : Type 0} (b : Bool) (Holds : Bool → Type 0) → (b ≡ true → IsSo) → (IsSo → b ≡ true) → Whether IsSo (Holds true) (Holds false) → Holds b
by_test true Holds so again (inl this) = this.1
by_test true Holds so again (inr that) = absurd (that.0 (so refl))
by_test false Holds so again (inl this) = absurd (true≢false (sym (again this.0)))
by_test false Holds so again (inr that) = that.1
