use Rattle.account_asks.proofs.Returns.{copies_of_none, unsupported_of_none}
use Rattle.account_asks.proofs.template.Templates.read.Goals as goal

pub returns-in-None-clause-copies : goal.returns-in-None-clause-copies
returns-in-None-clause-copies c = copies_of_none _ (rw c.in-None.is at c.template_attributes.ensures)

pub returns-in-None-clause-unsupported : goal.returns-in-None-clause-unsupported
returns-in-None-clause-unsupported c = rw c.no_attributes.ensures (unsupported_of_none _ (rw c.in-None.is at c.template_attributes.ensures))
