-- Rule: What a reader of tags keeps of a page, and that no name is part of it.
use Rattle.std.specs.Prelude.{◌≡◌, ◌≤◌, ℕ, Bool, false, not, ◌==◌, ◌||◌, if◌then◌else◌, List, [], ◌∷◌, ◌++◌}
use Rattle.account_rules.specs.Limits.{last_job}
use Rattle.account_rules.specs.declared.job.Job.{Job}
use Rattle.page_pages.specs.Ended.{ended_job}
use Rattle.page_pages.specs.Waiting.{job_row}
use Rattle.page_pages.specs.declared.offer.Terms.{Terms}

-- a tag goes from a < to the next >
abbrev pub kept : (inside : Bool) (byte : ℕ) → List ℕ
kept inside byte = if inside || byte == 60 then byte ∷ [] else []

abbrev pub inside_after : (inside : Bool) (byte : ℕ) → Bool
inside_after inside byte = if inside then not (byte == 62) else byte == 60

-- all bytes of tags
abbrev pub tags : (inside : Bool) → List ℕ → List ℕ
tags inside [] = []
tags inside (byte ∷ more) = kept inside byte ++ tags (inside_after inside byte) more

-- the job under another name
abbrev pub named : List ℕ → Job → Job
named name job = record job { name = name }

-- the tags of a job's row are the same whatever its name is, before any rest of a page
pub record NamesAreNoTags : Type 0 where
  pub of_waiting : (account name other rest : List ℕ) (terms : Terms) (job : Job)
      → job.job ≤ last_job
      → tags false (job_row account terms (named name job) ++ rest)
      ≡ tags false (job_row account terms (named other job) ++ rest)
  pub of_ended : (name other rest : List ℕ) (job : Job) → job.job ≤ last_job
      → tags false (ended_job (named name job) ++ rest)
      ≡ tags false (ended_job (named other job) ++ rest)
