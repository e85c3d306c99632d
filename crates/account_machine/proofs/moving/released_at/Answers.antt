use Rattle.std.proofs.Common.{ℤ, pos, ◌*◌, arith, ap, sym, ◌∙◌, List, ℕ}
use Rattle.std.proofs.lemmas.Int.{ints}
use Rattle.account_rules.specs.Limits.{most_impressions, most_copies, most_rate}
use Rattle.account_rules.specs.Acts.{StationRelease}
use Rattle.account_rules.specs.Moves.{move}
use Rattle.account_rules.specs.StateLaws.{RefusesNothing, kept_to_quota}
use Rattle.account_rules.proofs.QuotaLemmas.{quota_is_last}
use Rattle.account_machine.proofs.moving.released_at.Goals as goal

pub returns-clause-moved : goal.returns-clause-moved
returns-clause-moved c left =
    let enough : ℤ = pos (most_impressions * most_copies * most_rate) in
    let refuses_nothing : RefusesNothing enough = omega (arith, ints) in
    let job = c.args.job.now in
    quota_is_last.at_a_station job.standing job.password c.args.device c.args.password.now c.args.impressions c.args.rate left enough c.requires.standing c.requires.impressions c.requires.rate.1 refuses_nothing
    ∙ ap (kept_to_quota job.standing.state left)
    (ap (λ (kept : List ℕ). move (StationRelease kept c.args.device c.args.password.now c.args.impressions c.args.rate enough) job.standing) (sym c.as_slice-kept.ensures) ∙ sym c.release_at_station.ensures.moved)
