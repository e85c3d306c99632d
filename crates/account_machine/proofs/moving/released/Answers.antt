use Rattle.std.proofs.Common.{ℤ, pos, ◌*◌, arith, ap, sym, ◌∙◌}
use Rattle.std.proofs.lemmas.Int.{ints}
use Rattle.account_rules.specs.Limits.{most_impressions, most_copies, most_rate}
use Rattle.account_rules.specs.StateLaws.{RefusesNothing, kept_to_quota}
use Rattle.account_rules.proofs.QuotaLemmas.{quota_is_last}
use Rattle.account_machine.proofs.moving.released.Goals as goal

pub returns-clause-moved : goal.returns-clause-moved
returns-clause-moved c left =
    let enough : ℤ = pos (most_impressions * most_copies * most_rate) in
    let refuses_nothing : RefusesNothing enough = omega (arith, ints) in
    quota_is_last.of_the_owner c.args.standing c.args.has_password left enough c.requires refuses_nothing ∙ ap (kept_to_quota c.args.standing.state left) (sym c.release_by_owner.ensures.moved)
