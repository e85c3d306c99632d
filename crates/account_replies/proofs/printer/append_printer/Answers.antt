use Rattle.account_replies.proofs.Fronts.{front_after}
use Rattle.account_replies.proofs.PrinterRows.{printer_rows}
use Rattle.account_replies.proofs.Rows.{group_shown}
use Rattle.account_replies.proofs.printer.append_printer.Goals as goal

pub returns-clause-appended : goal.returns-clause-appended
returns-clause-appended c = group_shown _ _ _ _ _ _ _ _ _ printer_rows c.in_ok-begin_group.ensures.appended c.in_ok-put_printer_attributes.ensures.appended

pub returns-clause-front : goal.returns-clause-front
returns-clause-front c = front_after _ _ _ _ c.in_ok-begin_group.ensures.appended c.put_printer_attributes.ensures.front

pub returns-in_err-put_printer_attributes-clause-front : goal.returns-in_err-put_printer_attributes-clause-front
returns-in_err-put_printer_attributes-clause-front c = front_after _ _ _ _ c.in_ok-begin_group.ensures.appended c.put_printer_attributes.ensures.front
