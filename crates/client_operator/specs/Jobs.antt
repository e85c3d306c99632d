-- Rule: What a line of the answer to `jobs` tells of a job (this project's own).
use Rattle.std.specs.Prelude.{◌≡◌, ◌||◌, ℕ, Bool, List, [], ◌∷◌, bytes_eq, codes}
use Rattle.client_operator.specs.Lines.{line_of}
use Rattle.client_operator.specs.declared.job.TellsJob.{TellsJob}

-- `job JOB STATE DEVICE CREATED STARTED ENDED PASSWORD COPIES IMPRESSIONS RESERVED CHARGED
-- DOCUMENTS NAME`
pub record Tells (line : List ℕ) (told : TellsJob) : Type 0 where
  pub started : List ℕ
  pub ended : List ℕ
  pub reserved : List ℕ
  pub charged : List ℕ
  pub words : line ≡ line_of (codes "job" ∷ told.job.now ∷ told.state.now ∷ told.device.now
      ∷ told.made.now ∷ started ∷ ended ∷ told.password.now ∷ told.copies.now
      ∷ told.impressions.now ∷ reserved ∷ charged ∷ told.documents.now ∷ told.name.now ∷ [])

-- it is held or pending
abbrev pub waits : (state : List ℕ) → Bool
waits state = bytes_eq state (codes "held") || bytes_eq state (codes "pending")
