use Rattle.client_owner.proofs.Hosts.{IfNone-of, no_queue}
use Rattle.client_owner.proofs.queue.Queue.read.Goals as goal

pub returns-in_err-address-clause-none : goal.returns-in_err-address-clause-none
returns-in_err-address-clause-none c = IfNone-of c.from_residual-in_err-address.result _
    (no_queue c.args.uri.now c.in_ok-rest.rest.now c.before-authority.result.now c.before-host.result.now
    c.in_ok-rest.ensures c.before-authority.ensures.value c.before-host.ensures.value c.in_err-address.ensures.none)
