use Rattle.std.proofs.Common.{◌∙◌, sym}
use Rattle.client_owner.proofs.Hosts.{IfNone-map, no_host}
use Rattle.client_owner.proofs.queue.address_of.Goals as goal

pub returns-clause-none : goal.returns-clause-none
returns-clause-none c = IfNone-map c.dotted.result _ _
    (no_host c.args.host.now (sym c.is_localhost.ensures ∙ c.if-is_localhost.false)) c.dotted.ensures.none
