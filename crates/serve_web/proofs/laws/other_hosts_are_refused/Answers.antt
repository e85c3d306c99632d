use Rattle.serve_web.proofs.OtherHosts.{other_hosts_are_refused}
use Rattle.serve_web.proofs.laws.other_hosts_are_refused.Goals as goal

pub returns : goal.returns
returns g c = other_hosts_are_refused g.S.Store
