-- Jobs of which each password is hidden: one that there is becomes the same for all.
use Rattle.std.proofs.Common.{◌≡◌, ℕ, true, not, ◌==◌, List, [], ◌∷◌, map, length, Option, refl, sym, ap, ◌∙◌, rules}
use Rattle.account_asks.specs.Asks.{PlainAsk}
use Rattle.account_machine.specs.JobRequests.{has_password}
use Rattle.account_machine.specs.Queues.{asked_jobs}
use Rattle.account_replies.specs.JobAttributes.{job_group}
use Rattle.account_replies.specs.Places.{PlainPlace}
use Rattle.account_replies.specs.Responses.{job_groups}
use Rattle.account_rules.specs.declared.job.Job.{Job}
use Rattle.account_laws.proofs.ShownJobs.{as_shown, group_shown, queue_shown}

-- any password is as good as another, but none is none
abbrev pub secret : List ℕ → List ℕ
secret [] = []
secret (byte ∷ bytes) = 0 ∷ []

-- the job, its password hidden
abbrev pub hidden : Job → Job
hidden job = record job { password = secret job.password }

secret_once : (password : List ℕ) → secret (secret password) ≡ secret password
secret_once [] = refl
secret_once (byte ∷ bytes) = refl

pub hidden_once : (job : Job) → hidden (hidden job) ≡ hidden job
hidden_once job = ap (λ password. record job { password = password }) (secret_once job.password)

pub still_secret : (password : List ℕ) → not (length (secret password) == 0) ≡ not (length password == 0)
still_secret [] = refl
still_secret (byte ∷ bytes) = let some : not (length (byte ∷ bytes) == 0) ≡ true = search rules in sym some

pub has_hidden : (job : Job) → has_password (hidden job) ≡ has_password job
has_hidden job = still_secret job.password

-- ---- what is shown of it

pub group_hidden : (at : PlainPlace) (job : Job) (wanted : Option (List (List ℕ))) → job_group at (hidden job) wanted ≡ job_group at job wanted
group_hidden at job wanted = group_shown at (hidden job) wanted ∙ sym (group_shown at job wanted)

shown_alike : (jobs : List Job) → map as_shown (map hidden jobs) ≡ map as_shown jobs
shown_alike [] = refl
shown_alike (job ∷ jobs) = ap (λ (rest : List Job). as_shown job ∷ rest) (shown_alike jobs)

pub queue_hidden : (at : PlainPlace) (ask : PlainAsk) (jobs : List Job) (wanted : Option (List (List ℕ))) → job_groups at (asked_jobs ask (map hidden jobs)) wanted ≡ job_groups at (asked_jobs ask jobs) wanted
queue_hidden at ask jobs wanted =
    queue_shown at ask (map hidden jobs) wanted
    ∙ ap (λ (jobs : List Job). job_groups at (asked_jobs ask jobs) wanted) (shown_alike jobs)
    ∙ sym (queue_shown at ask jobs wanted)

-- ---- both have a password, or both have none

pub same_secrets : (a b : List ℕ) → (a ≡ [] → b ≡ []) → (b ≡ [] → a ≡ []) → secret a ≡ secret b
same_secrets [] [] to from = refl
same_secrets [] (byte ∷ bytes) to from = let no : byte ∷ bytes ≡ [] = to refl in absurd cc
same_secrets (byte ∷ bytes) [] to from = let no : byte ∷ bytes ≡ [] = from refl in absurd cc
same_secrets (byte ∷ bytes) (other ∷ others) to from = refl
