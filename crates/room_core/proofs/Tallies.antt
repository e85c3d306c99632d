-- What is counted of the jobs of a list, one after another.
use Rattle.std.proofs.Common.{◌≡◌, ℕ, ◌+◌, ◌<◌, cond, ◌||◌, List, [], ◌∷◌, ◌++◌, length, get_or, take, IsTrue, sym, ap, ◌∙◌}
use Rattle.std.specs.List.{list_any}
use Rattle.std.proofs.lemmas.List.{take_more}
use Rattle.std.proofs.lemmas.List.Sums.{sum_by_push, sum_by-take-le}
use Rattle.std.proofs.lemmas.List.Folds.{list_any-append}
use Rattle.std.proofs.Math.Bool.{or-false}
use Rattle.account_rules.specs.JobStates.{is_unfinished, is_processing}
use Rattle.account_rules.specs.declared.job.Job.{Job}
use Rattle.account_rules.specs.declared.job.Standing.{Standing}
use Rattle.account_state.specs.declared.tally.Tally.{Tally}
use Rattle.account_state.specs.Tallies.{tally_of, counted, is_in_bounds}
use Rattle.account_state.proofs.TallyLemmas.{three_lower}

-- one job more, by its standing
abbrev pub counted_with : Tally → Standing → Tally
counted_with tally standing = counted tally standing.state standing.reserved standing.charged

pub tally_push : (jobs : List Job) (job : Job) → tally_of (jobs ++ job ∷ []) ≡ counted_with (tally_of jobs) job.standing
tally_push jobs job =
    let unfinished = sum_by_push (λ (job : Job). cond (is_unfinished job.standing.state) 1 0) jobs job in
    let processing = list_any-append (λ (job : Job). is_processing job.standing.state) jobs (job ∷ []) ∙ ap (λ b. list_any (λ (job : Job). is_processing job.standing.state) jobs || b) (or-false (is_processing job.standing.state)) in
    let reserved = sum_by_push (λ (job : Job). job.standing.reserved) jobs job in
    let charged = sum_by_push (λ (job : Job). job.standing.charged) jobs job in
    λ i. record { unfinished = unfinished i; is_processing = processing i; reserved = reserved i; charged = charged i }

pub tally_more : (jobs : List Job) (i : ℕ) (job : Job) → i < length jobs → job ≡ get_or jobs i job → tally_of (take (i + 1) jobs) ≡ counted_with (tally_of (take i jobs)) job.standing
tally_more jobs i job h is = ap tally_of (take_more jobs i job h ∙ ap (λ (last : Job). take i jobs ++ last ∷ []) (sym is)) ∙ tally_push (take i jobs) job

pub in_bounds_before : (jobs : List Job) (i : ℕ) → IsTrue (is_in_bounds (tally_of jobs)) → IsTrue (is_in_bounds (tally_of (take i jobs)))
in_bounds_before jobs i within =
    let unfinished = sum_by-take-le (λ (job : Job). cond (is_unfinished job.standing.state) 1 0) jobs i in
    let reserved = sum_by-take-le (λ (job : Job). job.standing.reserved) jobs i in
    let charged = sum_by-take-le (λ (job : Job). job.standing.charged) jobs i in
    three_lower _ _ _ _ _ _ unfinished reserved charged within
