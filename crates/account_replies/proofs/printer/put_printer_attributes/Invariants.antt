use Rattle.std.proofs.Common.{◌≡◌, ◌++◌, map, take}
use Rattle.std.specs.List.{flat_map}
use Rattle.account_replies.specs.ProofPrinterPlaces.{printer_row}
use Rattle.account_replies.specs.Places.{plain_place}
use Rattle.account_replies.specs.Tables.{asked_names}
use Rattle.account_replies.specs.ProofRowTexts.{row_text}
use Rattle.account_replies.proofs.printer.put_printer_attributes.Given as goal

abbrev pub invariant-loop-attribute : goal.invariant-loop-attribute
invariant-loop-attribute l = l.out.items ≡ l.fn.out.items ++ flat_map (row_text (asked_names l.wanted) (plain_place l.at) l.now) (map printer_row (take l.attribute-index l.attributes))
