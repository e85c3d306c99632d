use Rattle.std.proofs.Common.{◌≡◌, ℕ, eqb, false, length, List, ◌∷◌, arith, refl}
use Rattle.page_pages.specs.Ended.{ended_job}
use Rattle.page_pages.specs.PasswordLaws.{PasswordsAreKept}
use Rattle.page_pages.specs.Waiting.{job_cells, job_row}
use Rattle.page_pages.proofs.laws.passwords_are_kept.Goals as goal

some : (byte : ℕ) (more : List ℕ) → eqb (length (byte ∷ more)) 0 ≡ false
some byte more = grind arith

kept : PasswordsAreKept
unfolding job_row job_cells ended_job
kept = record {
  of_waiting = λ account terms job byte other more rest. rw (some byte more, some other rest) refl;
  of_ended = λ job byte other more rest. rw (some byte more, some other rest) refl;
}

pub returns : goal.returns
returns c = kept
