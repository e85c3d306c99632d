-- What an act leaves of a job's standing, and what it changes.
use Rattle.std.proofs.Common.{◌≡◌, ◌+◌, ◌<◌, Bool, true, false, if◌then◌else◌, Ok, arith, refl, Result}
use Rattle.std.proofs.lemmas.Bool.Decides.{nat_tests}
use Rattle.std.proofs.lemmas.Grind.{common_steps}
use Rattle.account_rules.specs.Keeping.{Keeps}
use Rattle.account_rules.specs.Acts.{Act, SendDocument}
use Rattle.account_rules.specs.JobStates.{has_ended, is_unfinished}
use Rattle.account_rules.specs.Moves.{cell, move}
use Rattle.account_rules.specs.declared.job.JobState.{JobState}
use Rattle.account_rules.specs.declared.job.JobState.TheVariants.{Aborted, Canceled, Completed, Held}
use Rattle.account_rules.specs.declared.job.Standing.{Standing}
use Rattle.account_rules.specs.declared.refusal.Refusal.{Refusal}

-- ---- whatever is done

-- the copies stay those that were asked for
pub same_copies : (act : Act) (s next : Standing) → move act s ≡ Ok next → next.copies ≡ s.copies
same_copies act s next moved = grind (arith, common_steps)

-- so does the moment that the job was made at
pub same_created : (act : Act) (s next : Standing) → move act s ≡ Ok next → next.created ≡ s.created
same_created act s next moved = grind (arith, common_steps)

-- a job that has ended is not moved
pub none_ended : (act : Act) (s next : Standing) → move act s ≡ Ok next → has_ended s.state ≡ true → ⊥
none_ended act s next moved ended = grind (arith, common_steps)

-- of the cells of an act, that of a job that has ended
pub ended_is : (how : JobState) → has_ended how ≡ true → (held pending processing ended : Result Standing Refusal) → cell how held pending processing ended ≡ ended
ended_is Canceled is held pending processing ended = refl
ended_is Aborted is held pending processing ended = refl
ended_is Completed is held pending processing ended = refl
ended_is _ is held pending processing ended = let no : ⊥ = cc in absurd no

pub was_unfinished : (act : Act) (s next : Standing) → move act s ≡ Ok next → is_unfinished s.state ≡ true
was_unfinished act s next moved = grind (arith, nat_tests)

-- ---- documents, which one act brings

abbrev pub brings_document : Act → Bool
brings_document (SendDocument last some_data) = true
brings_document _ = false

-- no other changes how many the job was given, and none takes up a job that has ended
pub same_documents : (act : Act) (s next : Standing) → brings_document act ≡ false → move act s ≡ Ok next → next.documents ≡ s.documents
same_documents act s next other moved = grind (arith, nat_tests)

pub moved_keeps : (act : Act) (s next : Standing) → brings_document act ≡ false → move act s ≡ Ok next → Keeps s next
moved_keeps act s next other moved = grind (arith, common_steps)

-- nor does it without data; with data they are one more, and never more than 8
pub no_document_more : (last : Bool) (s next : Standing) → move (SendDocument last false) s ≡ Ok next → next.documents ≡ s.documents
no_document_more last s next moved = grind (arith, nat_tests)

pub one_document_more : (last : Bool) (s next : Standing) → move (SendDocument last true) s ≡ Ok next → (next.documents ≡ s.documents + 1) × (s.documents < 8)
one_document_more last s next moved = grind (arith, nat_tests)

-- the job was held, and stays so
pub record Takes (some_data : Bool) (before after : Standing) : Type 0 where
  pub was_held : before.state ≡ Held
  pub is_held : after.state ≡ Held
  pub documents : after.documents ≡ (if some_data then before.documents + 1 else before.documents)

pub document_taken : (s next : Standing) (last some_data : Bool) → move (SendDocument last some_data) s ≡ Ok next → Takes some_data s next
document_taken s next last some_data moved = grind (arith, common_steps)
