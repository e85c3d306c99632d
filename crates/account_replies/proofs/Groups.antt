-- Groups of jobs by flags, and by the names that the flags are of.
use Rattle.std.proofs.Common.{◌≡◌, ℕ, Bool, List, [], ◌∷◌, Option, refl, ap, ◌∙◌}
use Rattle.ipp_coding.specs.Plain.{PlainGroup}
use Rattle.account_rules.specs.declared.job.Job.{Job}
use Rattle.account_replies.specs.JobAttributes.{job_group}
use Rattle.account_replies.specs.ProofJobPlaces.{wanted_rows}
use Rattle.account_replies.specs.Places.{PlainPlace}
use Rattle.account_replies.proofs.Picks.{selected_as_wanted}
use Rattle.account_replies.specs.Responses.{job_groups, selected_groups}

pub groups_as_wanted : (at : PlainPlace) (jobs : List Job) (flags : List Bool) (wanted : Option (List (List ℕ))) → flags ≡ wanted_rows wanted → selected_groups at jobs flags ≡ job_groups at jobs wanted
groups_as_wanted at [] flags wanted are = refl
groups_as_wanted at (job ∷ jobs) flags wanted are =
    ap (λ (first : PlainGroup). first ∷ selected_groups at jobs flags) (selected_as_wanted at job flags wanted are)
    ∙ ap (λ (rest : List PlainGroup). job_group at job wanted ∷ rest) (groups_as_wanted at jobs flags wanted are)
