-- Rows of the table of printer attributes.
use Rattle.std.proofs.Common.{◌≡◌, ◌≢◌, [], ◌∷◌, map, refl, codes}
use Rattle.account_replies.specs.declared.printer.PrinterAttribute.{PrinterAttribute}
use Rattle.account_replies.specs.declared.printer.PrinterAttribute.TheVariants as attribute
use Rattle.account_replies.specs.PrinterAttributes.{printer_attributes}
use Rattle.account_replies.specs.ProofPrinterPlaces.{printer_row}

-- all but four are in the group of names `printer-description`
pub printer_described : (a : PrinterAttribute) → a ≢ attribute.CopiesDefault → a ≢ attribute.CopiesSupported → a ≢ attribute.HoldUntilDefault → a ≢ attribute.HoldUntil → (printer_row a).group ≡ codes "printer-description"
unfolding printer_attributes
printer_described attribute.Uri n1 n2 n3 n4 = refl
printer_described attribute.Authentication n1 n2 n3 n4 = refl
printer_described attribute.Security n1 n2 n3 n4 = refl
printer_described attribute.Name n1 n2 n3 n4 = refl
printer_described attribute.State n1 n2 n3 n4 = refl
printer_described attribute.StateReasons n1 n2 n3 n4 = refl
printer_described attribute.Versions n1 n2 n3 n4 = refl
printer_described attribute.Operations n1 n2 n3 n4 = refl
printer_described attribute.CharsetConfigured n1 n2 n3 n4 = refl
printer_described attribute.CharsetSupported n1 n2 n3 n4 = refl
printer_described attribute.LanguageConfigured n1 n2 n3 n4 = refl
printer_described attribute.LanguageGenerated n1 n2 n3 n4 = refl
printer_described attribute.FormatDefault n1 n2 n3 n4 = refl
printer_described attribute.Formats n1 n2 n3 n4 = refl
printer_described attribute.Accepting n1 n2 n3 n4 = refl
printer_described attribute.Queued n1 n2 n3 n4 = refl
printer_described attribute.PdlOverride n1 n2 n3 n4 = refl
printer_described attribute.UpTime n1 n2 n3 n4 = refl
printer_described attribute.Compression n1 n2 n3 n4 = refl
printer_described attribute.MultipleDocuments n1 n2 n3 n4 = refl
printer_described attribute.Password n1 n2 n3 n4 = refl
printer_described attribute.PasswordEncryption n1 n2 n3 n4 = refl
printer_described attribute.CopiesDefault n1 n2 n3 n4 = absurd (n1 refl)
printer_described attribute.CopiesSupported n1 n2 n3 n4 = absurd (n2 refl)
printer_described attribute.HoldUntilDefault n1 n2 n3 n4 = absurd (n3 refl)
printer_described attribute.HoldUntil n1 n2 n3 n4 = absurd (n4 refl)

-- the attributes of the program, row by row, are the table
pub printer_rows : map printer_row (attribute.Uri ∷ attribute.Authentication ∷ attribute.Security ∷ attribute.Name ∷ attribute.State ∷ attribute.StateReasons ∷ attribute.Versions ∷ attribute.Operations ∷ attribute.CharsetConfigured ∷ attribute.CharsetSupported ∷ attribute.LanguageConfigured ∷ attribute.LanguageGenerated ∷ attribute.FormatDefault ∷ attribute.Formats ∷ attribute.Accepting ∷ attribute.Queued ∷ attribute.PdlOverride ∷ attribute.UpTime ∷ attribute.Compression ∷ attribute.MultipleDocuments ∷ attribute.Password ∷ attribute.PasswordEncryption ∷ attribute.CopiesDefault ∷ attribute.CopiesSupported ∷ attribute.HoldUntilDefault ∷ attribute.HoldUntil ∷ []) ≡ printer_attributes
unfolding printer_attributes
printer_rows = refl
