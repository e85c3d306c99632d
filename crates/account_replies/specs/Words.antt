-- Rule: The text of each word that tells why something is refused (this project's own).
use Rattle.std.specs.Prelude.{ℕ, List, [], ◌++◌, codes}
use Rattle.std.specs.Fmt.{decimal, signed_decimal}
use Rattle.account_rules.specs.declared.refusal.Word.{Word}
use Rattle.account_rules.specs.declared.refusal.Word.TheVariants.{Version, Operation, Malformed, CharsetAndLanguage, Charset, Target, TargetTooLong, NotThisQueue, Syntax, Compression, DocumentFormat, WhichJobs, PasswordEncryptionMissing, PasswordEncryption, PasswordTooLong, JobNameTooLong, Template, DocumentTooLarge, NoJob, NotAccepting, Closed, TooManyDocuments, Stopping, Ended, Printing, Incomplete, Password, ImpressionsUnknown, Quota, NotHeld, NotPending, NotProcessing, OtherDevice, Rate, NoAccount, NoDevice, DeviceOff, Exists, Same, Conflict}

-- the word itself
abbrev pub word_name : Word → List ℕ
word_name Version = codes "version"
word_name Operation = codes "operation"
word_name Malformed = codes "malformed"
word_name CharsetAndLanguage = codes "charset-and-language"
word_name Charset = codes "charset"
word_name Target = codes "target"
word_name TargetTooLong = codes "target-too-long"
word_name NotThisQueue = codes "not-this-queue"
word_name Syntax = codes "syntax"
word_name Compression = codes "compression"
word_name DocumentFormat = codes "document-format"
word_name WhichJobs = codes "which-jobs"
word_name PasswordEncryptionMissing = codes "password-encryption-missing"
word_name PasswordEncryption = codes "password-encryption"
word_name PasswordTooLong = codes "password-too-long"
word_name JobNameTooLong = codes "job-name-too-long"
word_name Template = codes "template"
word_name DocumentTooLarge = codes "document-too-large"
word_name NoJob = codes "no-job"
word_name NotAccepting = codes "not-accepting"
word_name Closed = codes "closed"
word_name TooManyDocuments = codes "too-many-documents"
word_name Stopping = codes "stopping"
word_name Ended = codes "ended"
word_name Printing = codes "printing"
word_name Incomplete = codes "incomplete"
word_name Password = codes "password"
word_name ImpressionsUnknown = codes "impressions-unknown"
word_name (Quota need left) = codes "quota"
word_name NotHeld = codes "not-held"
word_name NotPending = codes "not-pending"
word_name NotProcessing = codes "not-processing"
word_name OtherDevice = codes "other-device"
word_name Rate = codes "rate"
word_name NoAccount = codes "no-account"
word_name NoDevice = codes "no-device"
word_name DeviceOff = codes "device-off"
word_name Exists = codes "exists"
word_name Same = codes "same"
word_name (Conflict held) = codes "conflict"

-- what follows it: the units needed and the units left, or the pages held
abbrev pub word_numbers : Word → List ℕ
word_numbers (Quota need left) = codes " " ++ (decimal need ++ (codes " " ++ signed_decimal left))
word_numbers (Conflict held) = codes " " ++ decimal held
word_numbers _ = []

abbrev pub word_text : Word → List ℕ
word_text word = word_name word ++ word_numbers word
