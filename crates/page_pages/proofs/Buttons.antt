-- The button Release is there exactly where a release goes through.
use Rattle.std.proofs.Common.{◌≡◌, ℕ, ℤ, Bool, true, false, not, ◌==◌, cond, List, length, Some, None, Result, Ok, Err, refl, sym, ap, ◌∙◌}
use Rattle.account_rules.specs.Effects.{after_release, is_incomplete, refused}
use Rattle.account_rules.specs.Moves.{cell}
use Rattle.account_rules.specs.Quota.{exceeds}
use Rattle.account_rules.specs.declared.job.Job.{Job}
use Rattle.account_rules.specs.declared.job.JobState.{JobState}
use Rattle.account_rules.specs.declared.job.JobState.TheVariants.{Held, Pending}
use Rattle.account_rules.specs.declared.job.Standing.{Standing}
use Rattle.account_rules.specs.declared.refusal.Refusal.{Refusal}
use Rattle.account_rules.specs.declared.refusal.Word.TheVariants as word
use Rattle.page_pages.specs.ButtonLaws.{ButtonsRelease, release_of}
use Rattle.page_pages.specs.Offers.{need, offer}
use Rattle.page_pages.specs.Phases.{held_phase, phase_in, printing_phase}
use Rattle.page_pages.specs.Waiting.{buttons, cancel_button, job_acts, job_form, release_buttons}
use Rattle.page_pages.specs.declared.offer.Terms.{Terms}
use Rattle.page_pages.specs.declared.phase.Phase.TheVariants.{Incomplete, Locked, Uncounted, Ready}

-- what is refused is not done
never_done : {P : Type 0} (refusal : Refusal) (next : Standing) → ◌≡◌ {A = Result Standing Refusal} (Err refusal) (Ok next) → P
never_done refusal next is = absurd (let no : ⊥ = cc in no)

never_refused : {P : Type 0} (refusal : Refusal) (next : Standing) → ◌≡◌ {A = Result Standing Refusal} (Ok next) (Err refusal) → P
never_refused refusal next is = absurd (let no : ⊥ = cc in no)

same_reserved : (s next : Standing) → ◌≡◌ {A = Result Standing Refusal} (Ok s) (Ok next) → s.reserved ≡ next.reserved
same_reserved s next is = let this : s ≡ next = cc in ap (λ (s : Standing). s.reserved) this

-- ---- a release, check by check

-- it lacks a document, has a password to give, pages that are not known, or needs too much
abbrev checked : (left : ℤ) (units : ℕ) (lacks locked unknown short : Bool) (released : Standing) → Result Standing Refusal
checked left units lacks locked unknown short released =
    cond lacks (refused word.Incomplete) (cond locked (refused word.Password) (cond unknown (refused word.ImpressionsUnknown) (cond short (refused (word.Quota units left)) (Ok released))))

module _ (account : List ℕ) (terms : Terms) (job : Job) (held : job.standing.state ≡ Held) where
  abbrev has_password : Bool
  has_password = not (length job.password == 0)

  abbrev released : Standing
  released = record job.standing { state = Pending; impressions = job.standing.impressions; reserved = need job.standing 1; rate = 1; device = None }

  abbrev decided : (lacks locked unknown short : Bool) → Result Standing Refusal
  decided lacks locked unknown short = checked terms.left (need job.standing 1) lacks locked unknown short released

  abbrev shown_then : (lacks locked unknown short : Bool) → List ℕ
  shown_then lacks locked unknown short =
      buttons (cond lacks Incomplete (cond locked Locked (cond unknown Uncounted Ready))) (cond short None (Some (need job.standing 1))) job.job

  release_is : release_of terms.left job ≡ decided (is_incomplete job.standing) has_password (job.standing.impressions == 0) (exceeds (need job.standing 1) terms.left)
  release_is = ap (λ (state : JobState). cell state (after_release job.standing has_password terms.left) (Ok job.standing) (Ok job.standing) (refused word.Ended)) held

  form_is : job_acts account terms job ≡ job_form account job.job (shown_then (is_incomplete job.standing) has_password (job.standing.impressions == 0) (exceeds (need job.standing 1) terms.left))
  form_is = ap (λ (state : JobState). job_form account job.job (buttons (phase_in state (held_phase job.standing job.password) (printing_phase job.standing.stopping)) (offer terms.left job.standing) job.job)) held

  offers : (lacks locked unknown short : Bool) (standing : Standing) → decided lacks locked unknown short ≡ Ok standing → shown_then lacks locked unknown short ≡ release_buttons standing.reserved job.job
  offers true locked unknown short standing is = never_done _ _ is
  offers false true unknown short standing is = never_done _ _ is
  offers false false true short standing is = never_done _ _ is
  offers false false false true standing is = never_done _ _ is
  offers false false false false standing is = ap (λ (units : ℕ). release_buttons units job.job) (same_reserved released standing is)

  offers_none : (lacks locked unknown short : Bool) (refusal : Refusal) → decided lacks locked unknown short ≡ Err refusal → shown_then lacks locked unknown short ≡ cancel_button job.job
  offers_none true locked unknown short refusal is = refl
  offers_none false true unknown short refusal is = refl
  offers_none false false true short refusal is = refl
  offers_none false false false true refusal is = refl
  offers_none false false false false refusal is = never_refused _ _ is

  released_so : (standing : Standing) → release_of terms.left job ≡ Ok standing → job_acts account terms job ≡ job_form account job.job (release_buttons standing.reserved job.job)
  released_so standing is =
      form_is ∙ ap (job_form account job.job) (offers (is_incomplete job.standing) has_password (job.standing.impressions == 0) (exceeds (need job.standing 1) terms.left) standing (sym release_is ∙ is))

  refused_so : (refusal : Refusal) → release_of terms.left job ≡ Err refusal → job_acts account terms job ≡ job_form account job.job (cancel_button job.job)
  refused_so refusal is =
      form_is ∙ ap (job_form account job.job) (offers_none (is_incomplete job.standing) has_password (job.standing.impressions == 0) (exceeds (need job.standing 1) terms.left) refusal (sym release_is ∙ is))

pub buttons_release : ButtonsRelease
buttons_release = record {
  released = λ account terms job standing held is. released_so account terms job held standing is;
  refused = λ account terms job refusal held is. refused_so account terms job held refusal is;
}
