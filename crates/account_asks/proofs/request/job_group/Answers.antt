use Rattle.std.proofs.Common.{◌==◌, refl}
use Rattle.ipp_coding.specs.Plain.{PlainGroup, plain_group}
use Rattle.account_asks.proofs.Lookups.{find-map}
use Rattle.account_asks.proofs.request.job_group.Goals as goal

pub returns-in_err-group : goal.returns-in_err-group
returns-in_err-group c =
    rw c.from_residual.ensures (rw (find-map (λ (g : PlainGroup). g.tag == 2) plain_group c.args.groups.now, ← c.in_err-group.ensures) refl)

pub returns : goal.returns
returns c = rw (find-map (λ (g : PlainGroup). g.tag == 2) plain_group c.args.groups.now, ← c.in_ok-group.ensures, c.as_slice.ensures) refl
