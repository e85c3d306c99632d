-- What a refusal of a request's job template attributes says.
use Rattle.std.proofs.Common.{◌≡◌, inl, inr, Bool, true, false, true≢false, List, [], ◌∷◌, ◌++◌, unwrap_or, refl, sym, ap, subst, ◌∙◌}
use Rattle.ipp_coding.specs.Plain.{PlainAttribute, PlainMessage}
use Rattle.account_asks.specs.Checks.{some_attribute}
use Rattle.account_asks.specs.Operations.{makes_job}
use Rattle.account_asks.specs.Requests.{job_group_of}
use Rattle.account_asks.specs.Templates.{template_attributes, unsupported}
use Rattle.account_asks.specs.declared.operation.Operation.{Operation}
use Rattle.account_laws.proofs.SpelledAttributes.{AreGroupsOf, AreOf}
use Rattle.account_laws.proofs.SpelledFields.{Groups, job_group_is}
use Rattle.account_laws.proofs.SpelledOperations.{seen, template_as}
use Rattle.account_laws.proofs.SpelledTemplates.{unsupported_back}
use Rattle.account_laws.proofs.TakenTemplates.{template_again}
use Rattle.account_laws.specs.RefusalMeanings.{HasUnsupported}
use Rattle.account_laws.specs.SpelledAttributes.{AreOfJob, HasNone}
use Rattle.account_laws.specs.SpelledTemplates.{GoBack, IsSupported}

-- ---- which one is not supported

record IsBack (before template : List PlainAttribute) : Type 0 where
  pub has : HasUnsupported template
  pub none_before : HasNone has.unsupported.name before

some_back : (before template back : List PlainAttribute) → GoBack before template back → some_attribute back ≡ true → IsBack before template
some_back before [] back goes some = absurd (true≢false (sym some ∙ ap some_attribute goes))
some_back before (a ∷ later) back (inl goes) some = record { has = record { earlier = []; unsupported = a; later = later; stands = refl; is_first = tt; is_not = goes.0.1 }; none_before = goes.0.0 }
some_back before (a ∷ later) back (inr goes) some =
    let it = some_back (a ∷ before) later back goes.1 some in
    record {
      has = record {
        earlier = a ∷ it.has.earlier;
        unsupported = it.has.unsupported;
        later = it.has.later;
        stands = ap (λ (l : List PlainAttribute). a ∷ l) it.has.stands;
        is_first = (it.none_before.0, it.has.is_first);
        is_not = it.has.is_not;
      };
      none_before = it.none_before.1;
    }

none_back : (before earlier : List PlainAttribute) (x : PlainAttribute) (later : List PlainAttribute) → GoBack before (earlier ++ x ∷ later) [] → HasNone x.name before → HasNone x.name earlier → (IsSupported x → ⊥) → ⊥
none_back before [] x later (inl goes) before_none none isnt = true≢false (sym (ap some_attribute goes.1.3))
none_back before [] x later (inr goes) before_none none isnt = goes.0 (before_none, isnt)
none_back before (a ∷ earlier) x later (inl goes) before_none none isnt = true≢false (sym (ap some_attribute goes.1.3))
none_back before (a ∷ earlier) x later (inr goes) before_none none isnt = none_back (a ∷ before) earlier x later goes.1 (none.0, before_none) none.1 isnt

pub has_unsupported : (template : List PlainAttribute) → AreOf template → some_attribute (unsupported template) ≡ true → HasUnsupported template
has_unsupported template are some = (some_back [] template (unsupported template) (unsupported_back template are) some).has

pub all_supported : (template : List PlainAttribute) → AreOf template → some_attribute (unsupported template) ≡ false → HasUnsupported template → ⊥
all_supported template are none has = none_back [] has.earlier has.unsupported has.later (subst (λ (l : List PlainAttribute). GoBack [] l []) has.stands (subst (GoBack [] template) (nothing (unsupported template) none) (unsupported_back template are))) tt has.is_first has.is_not
  where
    nothing : (back : List PlainAttribute) → some_attribute back ≡ false → back ≡ []
    nothing [] none = refl
    nothing (a ∷ back) none = absurd (true≢false none)

-- ---- the group of the job

module _ (operation : Operation) (m : PlainMessage) (are : AreGroupsOf m.groups) where
  template_so : makes_job operation ≡ true → template_attributes operation m ≡ unwrap_or (job_group_of m.groups) []
  template_so makes = template_as operation m ∙ ap (λ (b : Bool). unwrap_or (job_group_of (seen b m.groups)) []) makes

  pub template_is : makes_job operation ≡ true → Groups m.groups (template_attributes operation m)
  template_is makes = subst (Groups m.groups) (sym (template_so makes)) (job_group_is m.groups are)

  pub template_read : (template : List PlainAttribute) → makes_job operation ≡ true → AreOfJob m.groups template → template_attributes operation m ≡ template
  template_read template makes are_of_job = template_so makes ∙ (template_again m.groups template are are_of_job).is

-- an operation that makes no job has none of its attributes
pub makes_job_then : (operation : Operation) (m : PlainMessage) → some_attribute (unsupported (template_attributes operation m)) ≡ true → makes_job operation ≡ true
unfolding unsupported
makes_job_then operation m some = by (makes_job operation) (sym (ap (λ (l : List PlainAttribute). some_attribute (unsupported l)) (template_as operation m)) ∙ some)
  where
    by : (b : Bool) → some_attribute (unsupported (unwrap_or (job_group_of (seen b m.groups)) [])) ≡ true → b ≡ true
    by true some = refl
    by false some = absurd (true≢false (sym some))
