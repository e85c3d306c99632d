-- Each field of a request that passes its checks lies within its limits.
use Rattle.std.proofs.Common.{◌≡◌, inl, inr, ℕ, ◌+◌, ◌≤◌, List, [], ◌++◌, length, length-append, Option, Some, None, Ok, refl, sym, subst, ap, ◌∙◌, arith}
use Rattle.std.specs.Prelude.{IfSome, codes}
use Rattle.std.specs.List.{AllByRecursion}
use Rattle.std.proofs.lemmas.Option.{none-some}
use Rattle.ipp_coding.specs.Plain.{PlainAttribute, PlainGroup, PlainMessage}
use Rattle.ipp_coding.specs.Reading.{header_in, message_of}
use Rattle.ipp_coding.specs.Spelling.{IsAttribute, IsGroup}
use Rattle.ipp_coding.specs.declared.message.Header.{Header}
use Rattle.ipp_coding.proofs.Wholes.{message_spells}
use Rattle.account_asks.specs.Asks.{PlainAsk, ask_of, asked}
use Rattle.account_asks.specs.CheckOrder.{message_or_nothing}
use Rattle.account_asks.specs.Fields.{fields_of}
use Rattle.account_asks.specs.Operations.{operation_of}
use Rattle.account_asks.specs.Targets.{JobUri, NamedTarget, PrinterUri}
use Rattle.account_asks.specs.declared.operation.Operation.{Operation}
use Rattle.account_asks.specs.declared.operation.Operation.TheVariants.{GetJobs}
use Rattle.account_asks.proofs.Spelled.{unsupported_spelled}
use Rattle.account_laws.specs.AsksLieWithin.{AreBytes, AsksLieWithin}
use Rattle.account_laws.specs.NamedTargets.{LeadsTo, NamesTarget, uri_of}
use Rattle.account_laws.specs.OperationIds.{Whether}
use Rattle.account_laws.specs.SpelledAttributes.{IsLimit, SaysOr}
use Rattle.account_laws.specs.SpelledFields.{DescribesList}
use Rattle.account_laws.specs.SpelledOperations.{SaysAll}
use Rattle.account_laws.specs.SpelledUris.{HasParts}
use Rattle.account_laws.proofs.AsksWithin.{ask_within, message_passed}
use Rattle.account_laws.proofs.SpelledAsks.{asks_are_spelled}

-- ---- where it leads

base_within : (uri base path : List ℕ) → HasParts uri base path → length uri ≤ 1023 → length base ≤ 1023
base_within uri base path has fits =
    let long : length uri ≡ length base + length (path ++ has.tail) = ap length has.uri_is ∙ length-append base (path ++ has.tail) in
    omega (arith, long, fits)

number_within : (operation : Operation) (attributes : List PlainAttribute) (uri : List ℕ) (number : ℕ) → NamesTarget operation attributes (PrinterUri uri number) → number ≤ 999999
number_within operation attributes uri number (inl for_job) = for_job.1.1.is_said.to_last
number_within operation attributes uri number (inr for_queue) = let none = for_queue.1.1 in omega (arith, none)

leads_within : (account : List ℕ) (operation : Operation) (attributes : List PlainAttribute) (base : List ℕ) (job : ℕ) (t : NamedTarget) → NamesTarget operation attributes t → length (uri_of t) ≤ 1023 → LeadsTo account base job t → (length base ≤ 1023) × (job ≤ 999999)
leads_within account operation attributes base job (PrinterUri uri number) names fits leads =
    (base_within uri base (codes "/ipp/print/" ++ account) leads.0 fits, subst (λ (n : ℕ). n ≤ 999999) (sym leads.1) (number_within operation attributes uri number names))
leads_within account operation attributes base job (JobUri uri) names fits leads = (base_within uri base _ leads.0 fits, leads.2)

-- ---- the limit of a list of jobs

limit_within : (attributes : List PlainAttribute) (limit : Option ℕ) → SaysOr IsLimit None (codes "limit") attributes limit → IfSome limit (λ most. 1 ≤ most)
limit_within attributes None says = tt
limit_within attributes (Some n) (inl says) = says.is_said.1
limit_within attributes (Some n) (inr none) = absurd (none-some n (sym none.1))

limit_so : (operation : Operation) (groups : List PlainGroup) (attributes : List PlainAttribute) (ask : PlainAsk) → SaysAll operation groups attributes ask → IfSome ask.limit (λ most. 1 ≤ most)
limit_so operation groups attributes ask says = by says.jobs
  where
    by : Whether (operation ≡ GetJobs) (DescribesList attributes ask) (DescribesList [] ask) → IfSome ask.limit (λ most. 1 ≤ most)
    by (inl jobs) = limit_within attributes ask.limit jobs.1.limit
    by (inr none) = limit_within [] ask.limit none.1.limit

-- ---- what is not supported

groups_spelled : (header : Header) (body : List ℕ) (message : Option PlainMessage) → message_of body ≡ message → AreBytes body → AllByRecursion IsGroup (message_or_nothing header message).groups
groups_spelled header body None is bytes = tt
groups_spelled header body (Some m) is bytes = (message_spells body m bytes is).groups

back_spelled : (account body : List ℕ) (ask : PlainAsk) → AreBytes body → ask_of account body ≡ Ok ask → AllByRecursion IsAttribute ask.unsupported
unfolding ask_of asked fields_of
back_spelled account body ask bytes is =
    let header = header_in body in
    let m = message_or_nothing header (message_of body) in
    subst (λ (a : PlainAsk). AllByRecursion IsAttribute a.unsupported) (message_passed account header (message_of body) ask is).1 (unsupported_spelled (operation_of header) m (groups_spelled header body (message_of body) refl bytes))

-- ---- the whole

pub asks_lie_within : AsksLieWithin
asks_lie_within account body ask bytes is =
    let within = ask_within account body ask is in
    let it = (asks_are_spelled account body ask bytes is).holds in
    let leads = leads_within account ask.operation it.attributes ask.base ask.job it.target.target it.target.is_named it.target.fits it.target.leads in
    record {
      base_fits = leads.0;
      job_in_range = omega (arith, leads.1);
      name_fits = within.name_fits;
      password_fits = within.password_fits;
      copies_from_one = within.copies_from_one;
      copies_at_most = within.copies_at_most;
      impressions_at_most = within.impressions_at_most;
      limit_from_one = limit_so ask.operation (asks_are_spelled account body ask bytes is).message.groups it.attributes ask it.says;
      unsupported_spelled = back_spelled account body ask bytes is;
      document_fits = within.document_fits;
    }
