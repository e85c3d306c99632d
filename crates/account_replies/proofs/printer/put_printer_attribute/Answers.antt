use Rattle.std.proofs.Common.{◌≡◌, ◌∙◌, ap, codes}
use Rattle.account_replies.specs.declared.printer.PrinterAttribute.{PrinterAttribute}
use Rattle.account_replies.specs.PrinterAttributes.{printer_attributes}
use Rattle.account_replies.specs.ProofPrinterPlaces.{printer_row}
use Rattle.account_replies.proofs.printer.put_printer_attribute.Goals as goal

pub returns-in-Security-clause-appended : goal.returns-in-Security-clause-appended
unfolding printer_attributes
returns-in-Security-clause-appended c =
    let name : c.name-name.result.now ≡ codes "uri-security-supported" = c.name-name.ensures.row ∙ ap (λ (a : PrinterAttribute). (printer_row a).name) c.in-Security.is in
    rw c.in-Security.is (rw name at c.put_single-in-Security.ensures.appended)
