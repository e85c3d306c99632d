-- What the attributes of a job say, they say once: which go back, and in how many copies.
use Rattle.std.proofs.Common.{◌≡◌, ◌≢◌, inl, inr, ℕ, Bool, cond, ◌==◌, List, [], ◌∷◌, ◌++◌, Some, None, unwrap_or, refl, sym, ap, subst, ◌∙◌}
use Rattle.std.specs.List.{AllByRecursion, find}
use Rattle.std.proofs.lemmas.Bool.{ne_eqb}
use Rattle.std.proofs.lemmas.Option.{same_Some}
use Rattle.ipp_coding.specs.Plain.{PlainAttribute, PlainGroup}
use Rattle.account_asks.specs.Requests.{job_group_of}
use Rattle.account_asks.specs.Templates.{copies, unsupported}
use Rattle.account_laws.proofs.SpelledAttributes.{AreGroupsOf, AreOf}
use Rattle.account_laws.proofs.SpelledFields.{copies_are_said, copies_said_again, found_group, job_group_is}
use Rattle.account_laws.proofs.SpelledTemplates.{unsupported_back}
use Rattle.account_laws.specs.SpelledAttributes.{AreOfJob}
use Rattle.account_laws.specs.SpelledTemplates.{GoBack, IsReturned, SaysCopies}

-- ---- what goes back

returned_one : (a x y : PlainAttribute) → IsReturned a x → IsReturned a y → x ≡ y
returned_one a x y (inl one) (inl other) = one.1 ∙ sym other.1
returned_one a x y (inl one) (inr other) = absurd (other.0 one.0)
returned_one a x y (inr one) (inl other) = absurd (one.0 other.0)
returned_one a x y (inr one) (inr other) = one.1 ∙ sym other.1

back_one : (earlier attributes x y : List PlainAttribute) → GoBack earlier attributes x → GoBack earlier attributes y → x ≡ y
back_one earlier [] x y one other = one ∙ sym other
back_one earlier (a ∷ later) x y (inl one) (inl other) =
    let first = returned_one a one.1.0 other.1.0 one.1.2 other.1.2 in
    let rest = back_one (a ∷ earlier) later one.1.1 other.1.1 one.1.4 other.1.4 in
    one.1.3 ∙ ap (λ (b : PlainAttribute). b ∷ one.1.1) first ∙ ap (λ (l : List PlainAttribute). other.1.0 ∷ l) rest ∙ sym other.1.3
back_one earlier (a ∷ later) x y (inl one) (inr other) = absurd (other.0 one.0)
back_one earlier (a ∷ later) x y (inr one) (inl other) = absurd (one.0 other.0)
back_one earlier (a ∷ later) x y (inr one) (inr other) = back_one (a ∷ earlier) later x y one.1 other.1

-- ---- the group of the job

first_group : (earlier later : List PlainGroup) (attributes : List PlainAttribute) → AllByRecursion (λ (other : PlainGroup). other.tag ≢ 0x02) earlier
    → find (λ (group : PlainGroup). group.tag == 2) (earlier ++ record { tag = 0x02; attributes = attributes } ∷ later) ≡ Some (record { tag = 0x02; attributes = attributes })
first_group [] later attributes first = refl
first_group (g ∷ earlier) later attributes first =
    ap (λ (b : Bool). cond b (Some g) (find (λ (group : PlainGroup). group.tag == 2) (earlier ++ record { tag = 0x02; attributes = attributes } ∷ later))) (ne_eqb g.tag 2 first.0)
    ∙ first_group earlier later attributes first.1

no_group : (groups : List PlainGroup) → AllByRecursion (λ (other : PlainGroup). other.tag ≢ 0x02) groups → find (λ (group : PlainGroup). group.tag == 2) groups ≡ None
no_group [] none = refl
no_group (g ∷ groups) none = ap (λ (b : Bool). cond b (Some g) (find (λ (group : PlainGroup). group.tag == 2) groups)) (ne_eqb g.tag 2 none.0) ∙ no_group groups none.1

job_group_again : (groups : List PlainGroup) (attributes : List PlainAttribute) → AreOfJob groups attributes → unwrap_or (job_group_of groups) [] ≡ attributes
job_group_again groups attributes (inl one) = ap (λ (l : List PlainGroup). found_group (find (λ (group : PlainGroup). group.tag == 2) l)) one.stands ∙ ap found_group (first_group one.earlier one.later attributes one.is_first)
job_group_again groups attributes (inr none) = ap found_group (no_group groups none.0) ∙ sym none.1

-- it is read, and its values are of bytes
pub record IsRead (groups : List PlainGroup) (template : List PlainAttribute) : Type 0 where
  pub is : unwrap_or (job_group_of groups) [] ≡ template
  pub are_of : AreOf template

pub template_again : (groups : List PlainGroup) (template : List PlainAttribute) → AreGroupsOf groups → AreOfJob groups template → IsRead groups template
template_again groups template are is_template =
    let same = job_group_again groups template is_template in
    record { is = same; are_of = subst AreOf same (job_group_is groups are).are_of }

-- ---- what is read

pub unsupported_again : (template back : List PlainAttribute) → AreOf template → GoBack [] template back → unsupported template ≡ back
unsupported_again template back are goes = back_one [] template (unsupported template) back (unsupported_back template are) goes

copies_one : (attributes : List PlainAttribute) (n k : ℕ) → SaysCopies attributes n → SaysCopies attributes k → n ≡ k
copies_one attributes n k (inl one) (inl other) = same_Some n k (sym (copies_said_again attributes n one) ∙ copies_said_again attributes k other)
copies_one attributes n k (inl one) (inr none) = absurd (none.0 n one)
copies_one attributes n k (inr none) (inl other) = absurd (none.0 k other)
copies_one attributes n k (inr one) (inr other) = one.1 ∙ sym other.1

pub copies_again : (template : List PlainAttribute) (n : ℕ) → AreOf template → SaysCopies template n → copies template ≡ n
copies_again template n are says = copies_one template (copies template) n (copies_are_said template are) says
