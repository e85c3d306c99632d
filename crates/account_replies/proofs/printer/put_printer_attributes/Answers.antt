use Rattle.account_replies.proofs.Fronts.{front_after}
use Rattle.account_replies.proofs.printer.put_printer_attributes.Goals as goal

pub returns-in_err-put_where_wanted-clause-front : goal.returns-in_err-put_where_wanted-clause-front
returns-in_err-put_where_wanted-clause-front c = front_after _ _ _ _ c.loop-attribute.invariant c.put_where_wanted.ensures.front
