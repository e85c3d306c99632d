-- Each refusal of a request has the code of its word.
use Rattle.std.proofs.Common.{◌≡◌, ℕ, Bool, true, false, cond, List, [], ◌∷◌, Option, Some, None, Err, refl, subst}
use Rattle.std.specs.FinMap.{get}
use Rattle.std.specs.List.{AllByRecursion}
use Rattle.std.specs.Option.{option_map_or}
use Rattle.std.proofs.lemmas.Option.{none-some, same_Some}
use Rattle.ipp_coding.specs.Plain.{PlainMessage}
use Rattle.ipp_coding.specs.Reading.{header_in, message_of}
use Rattle.ipp_coding.specs.declared.message.Header.{Header}
use Rattle.account_asks.specs.Asks.{PlainAsk, ask_of, asked}
use Rattle.account_asks.specs.CheckOrder.{attribute_checks, checks, document_checks, field_checks, message_checks, message_or_nothing, opening_checks, target_checks}
use Rattle.account_asks.specs.Operations.{operation_of}
use Rattle.account_asks.specs.Refusals.{Check, PlainRefusal, first_refusal, refusal_of}
use Rattle.account_asks.specs.declared.operation.Operation.{Operation}
use Rattle.account_asks.specs.declared.operation.Operation.TheVariants.{PrintJob, ValidateJob, CreateJob, SendDocument, CancelJob, GetJobAttributes, GetJobs, GetPrinterAttributes, HoldJob, ReleaseJob}
use Rattle.account_laws.proofs.FirstFound.{found, found_holds, refused_first}
use Rattle.account_laws.proofs.ShownRows.{◌&◌}
use Rattle.account_laws.specs.AccountsTold.{AccountTold}
use Rattle.account_laws.specs.CodedRefusals.{RefusalsAreCoded}
use Rattle.account_laws.specs.JobsTold.{JobTold}
use Rattle.account_laws.specs.RefusalCodes.{code_of}
use Rattle.account_laws.specs.Refusals as before
use Rattle.account_laws.specs.RequestAnswers.{cancel_checks, hold_checks, of_its_job, operation_checks, owner_release_checks}
use Rattle.account_laws.specs.RequestAnswers as answers
use Rattle.account_rules.specs.declared.refusal.Refusal.{Refusal}
use Rattle.account_rules.specs.declared.refusal.Word.TheVariants as words

abbrev IsCoded : Refusal → Type 0
IsCoded refusal = refusal.status ≡ code_of refusal.word

-- ---- as it is read

all_coded : (account : List ℕ) (header : Header) (message : Option PlainMessage) → AllByRecursion (λ (check : Check). check.refused ≡ true → IsCoded (refusal_of check).refusal) (checks account header message)
unfolding message_checks attribute_checks opening_checks target_checks field_checks document_checks
all_coded account header message = (λ _. refl) & (λ _. refl) & (λ _. refl) & (λ _. refl) & (λ _. refl) & (λ _. refl) & (λ _. refl) & (λ _. refl) & (λ _. refl) & (λ _. refl) & (λ _. refl) & (λ _. refl) & (λ _. refl) & (λ _. refl) & (λ _. refl) & (λ _. refl) & (λ _. refl) & (λ _. refl) & tt

read_coded : (account body : List ℕ) (refused : PlainRefusal) → ask_of account body ≡ Err refused → IsCoded refused.refusal
unfolding ask_of
read_coded account body refused is =
    let header = header_in body in
    let all = checks account header (message_of body) in
    found_holds (λ (r : PlainRefusal). IsCoded r.refusal) all refused (all_coded account header (message_of body))
    (found all refused (refused_first (first_refusal all) (asked account header (operation_of header) (message_or_nothing header (message_of body))) refused is))

-- ---- for what was told before

abbrev AreCodedToo : List (before.Check Refusal) → Type 0
AreCodedToo = AllByRecursion (λ (check : before.Check Refusal). IsCoded check.1)

told_first : (checks : List (before.Check Refusal)) (refusal : Refusal) → AreCodedToo checks → before.first_refusal checks ≡ Some refusal → IsCoded refusal
told_first [] refusal are is = absurd (none-some refusal is)
told_first (check ∷ later) refusal are is = by check.0 (told_first later refusal are.1) is
  where
    by : (b : Bool) → (before.first_refusal later ≡ Some refusal → IsCoded refusal) → cond b (Some check.1) (before.first_refusal later) ≡ Some refusal → IsCoded refusal
    by true rest is = subst IsCoded (same_Some check.1 refusal is) are.0
    by false rest is = rest is

job_coded : (told : AccountTold) (number : ℕ) (checks : JobTold → List (before.Check Refusal)) → ((job : JobTold) → AreCodedToo (checks job)) → AreCodedToo (of_its_job told number checks)
job_coded told number checks each = by (get told.jobs number)
  where
    by : (job : Option JobTold) → AreCodedToo (option_map_or checks job ((true, record { status = 0x0406; word = words.NoJob }) ∷ []))
    by None = (refl, tt)
    by (Some job) = each job

operation_coded : (told : AccountTold) (now : ℕ) (ask : PlainAsk) (operation : Operation) → AreCodedToo (operation_checks told now ask operation)
operation_coded told now ask PrintJob = (refl, tt)
operation_coded told now ask ValidateJob = (refl, tt)
operation_coded told now ask CreateJob = (refl, tt)
operation_coded told now ask SendDocument = job_coded told ask.job (answers.document_checks ask) (λ job. (refl, (refl, tt)))
operation_coded told now ask CancelJob = job_coded told ask.job cancel_checks (λ job. (refl, (refl, tt)))
operation_coded told now ask GetJobAttributes = job_coded told ask.job (λ _. []) (λ job. tt)
operation_coded told now ask GetJobs = tt
operation_coded told now ask GetPrinterAttributes = tt
operation_coded told now ask HoldJob = job_coded told ask.job hold_checks (λ job. (refl, (refl, tt)))
operation_coded told now ask ReleaseJob = job_coded told ask.job (owner_release_checks told now) (λ job. (refl, (refl, (refl, (refl, (refl, tt))))))

-- ---- the law

pub refusals_are_coded : RefusalsAreCoded
refusals_are_coded = record {
  read = read_coded;
  told = λ told now ask refusal is. told_first (operation_checks told now ask ask.operation) refusal (operation_coded told now ask ask.operation) is;
}
