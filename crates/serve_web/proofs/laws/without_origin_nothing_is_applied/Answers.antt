use Rattle.serve_web.proofs.ForeignForms.{without_origin_nothing_is_applied}
use Rattle.serve_web.proofs.laws.without_origin_nothing_is_applied.Goals as goal

pub returns : goal.returns
returns g c = without_origin_nothing_is_applied g.S.Store
