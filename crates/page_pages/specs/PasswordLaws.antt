-- Law: a page tells whether a job has a password, and never which.
use Rattle.std.specs.Prelude.{◌≡◌, ℕ, List, ◌∷◌}
use Rattle.account_rules.specs.declared.job.Job.{Job}
use Rattle.page_pages.specs.Ended.{ended_job}
use Rattle.page_pages.specs.Waiting.{job_row}
use Rattle.page_pages.specs.declared.offer.Terms.{Terms}

-- the job with another password
abbrev pub locked_by : List ℕ → Job → Job
locked_by password job = record job { password = password }

-- of a job with a password each row is the same whatever the password is
pub record PasswordsAreKept : Type 0 where
  pub of_waiting : (account : List ℕ) (terms : Terms) (job : Job) (byte other : ℕ)
      (more rest : List ℕ)
      → job_row account terms (locked_by (byte ∷ more) job)
      ≡ job_row account terms (locked_by (other ∷ rest) job)
  pub of_ended : (job : Job) (byte other : ℕ) (more rest : List ℕ)
      → ended_job (locked_by (byte ∷ more) job) ≡ ended_job (locked_by (other ∷ rest) job)
