-- The text that tells why something is refused: a word, and the numbers that go with it (all this
-- project's own).
use Rattle.std.specs.Prelude.{ℕ, List, ◌++◌, codes}
use Rattle.std.specs.Fmt.{decimal, signed_decimal}
use Rattle.account_rules.specs.declared.refusal.Word.{Word}
use Rattle.account_rules.specs.declared.refusal.Word.TheVariants.{Version, Operation, Malformed, CharsetAndLanguage, Charset, Target, TargetTooLong, NotThisQueue, Syntax, Compression, DocumentFormat, WhichJobs, PasswordEncryptionMissing, PasswordEncryption, PasswordTooLong, JobNameTooLong, Template, DocumentTooLarge, NoJob, NotAccepting, Closed, TooManyDocuments, Stopping, Ended, Printing, Incomplete, Password, ImpressionsUnknown, Quota, NotHeld, NotPending, NotProcessing, OtherDevice, Rate, NoAccount, NoDevice, DeviceOff, Exists, Same, Conflict}

abbrev pub text_of : Word → List ℕ
text_of Version = codes "version"
text_of Operation = codes "operation"
text_of Malformed = codes "malformed"
text_of CharsetAndLanguage = codes "charset-and-language"
text_of Charset = codes "charset"
text_of Target = codes "target"
text_of TargetTooLong = codes "target-too-long"
text_of NotThisQueue = codes "not-this-queue"
text_of Syntax = codes "syntax"
text_of Compression = codes "compression"
text_of DocumentFormat = codes "document-format"
text_of WhichJobs = codes "which-jobs"
text_of PasswordEncryptionMissing = codes "password-encryption-missing"
text_of PasswordEncryption = codes "password-encryption"
text_of PasswordTooLong = codes "password-too-long"
text_of JobNameTooLong = codes "job-name-too-long"
text_of Template = codes "template"
text_of DocumentTooLarge = codes "document-too-large"
text_of NoJob = codes "no-job"
text_of NotAccepting = codes "not-accepting"
text_of Closed = codes "closed"
text_of TooManyDocuments = codes "too-many-documents"
text_of Stopping = codes "stopping"
text_of Ended = codes "ended"
text_of Printing = codes "printing"
text_of Incomplete = codes "incomplete"
text_of Password = codes "password"
text_of ImpressionsUnknown = codes "impressions-unknown"
-- the units that are needed, and those that are left
text_of (Quota need left) =
    codes "quota " ++ (decimal need ++ (codes " " ++ signed_decimal left))
text_of NotHeld = codes "not-held"
text_of NotPending = codes "not-pending"
text_of NotProcessing = codes "not-processing"
text_of OtherDevice = codes "other-device"
text_of Rate = codes "rate"
text_of NoAccount = codes "no-account"
text_of NoDevice = codes "no-device"
text_of DeviceOff = codes "device-off"
text_of Exists = codes "exists"
text_of Same = codes "same"
-- the pages that the month has
text_of (Conflict held) = codes "conflict " ++ decimal held
