-- For the proof of the code alone: where in the table of a printer's attributes an attribute of the
-- program stands.
use Rattle.std.specs.Prelude.{ℕ, [], slice_index_or}
use Rattle.account_replies.specs.declared.printer.PrinterNow.{PrinterNow}
use Rattle.account_replies.specs.declared.printer.PrinterAttribute.{PrinterAttribute}
use Rattle.account_replies.specs.declared.printer.PrinterAttribute.TheVariants as attribute
use Rattle.account_replies.specs.PrinterAttributes.{described, printer_attributes}
use Rattle.account_replies.specs.Tables.{ShownRow}

abbrev pub printer_place : PrinterAttribute → ℕ
printer_place attribute.Uri = 0
printer_place attribute.Authentication = 1
printer_place attribute.Security = 2
printer_place attribute.Name = 3
printer_place attribute.State = 4
printer_place attribute.StateReasons = 5
printer_place attribute.Versions = 6
printer_place attribute.Operations = 7
printer_place attribute.CharsetConfigured = 8
printer_place attribute.CharsetSupported = 9
printer_place attribute.LanguageConfigured = 10
printer_place attribute.LanguageGenerated = 11
printer_place attribute.FormatDefault = 12
printer_place attribute.Formats = 13
printer_place attribute.Accepting = 14
printer_place attribute.Queued = 15
printer_place attribute.PdlOverride = 16
printer_place attribute.UpTime = 17
printer_place attribute.Compression = 18
printer_place attribute.MultipleDocuments = 19
printer_place attribute.Password = 20
printer_place attribute.PasswordEncryption = 21
printer_place attribute.CopiesDefault = 22
printer_place attribute.CopiesSupported = 23
printer_place attribute.HoldUntilDefault = 24
printer_place attribute.HoldUntil = 25

abbrev pub printer_row : PrinterAttribute → ShownRow PrinterNow
printer_row attribute =
    slice_index_or
    printer_attributes
    (printer_place attribute)
    (described [] (λ at printer. []))
