-- Rule: Why something was refused, in plain words for an account's owner.
use Rattle.std.specs.Prelude.{ℕ, List, [], ◌∷◌}
use Rattle.std.specs.Fmt.{signed_decimal}
use Rattle.account_rules.specs.declared.refusal.Word.{Word}
use Rattle.account_rules.specs.declared.refusal.Word.TheVariants.{Version, Operation, Malformed, CharsetAndLanguage, Charset, Target, TargetTooLong, NotThisQueue, Syntax, Compression, DocumentFormat, WhichJobs, PasswordEncryptionMissing, PasswordEncryption, PasswordTooLong, JobNameTooLong, Template, DocumentTooLarge, NoJob, NotAccepting, Closed, TooManyDocuments, Stopping, Ended, Printing, Incomplete, Password, ImpressionsUnknown, Quota, NotHeld, NotPending, NotProcessing, OtherDevice, Rate, NoAccount, NoDevice, DeviceOff, Exists, Same, Conflict}
use Rattle.page_markup.specs.Parts.{Part, html, Mark, Number}
use Rattle.page_pages.specs.declared.texts.TheConstants.{NOTHING, QUOTA_ADVICE, UNITS_HAD, UNITS_NEEDED, WHY_CLOSED, WHY_CONFLICT, WHY_DEVICE_OFF, WHY_DOCUMENT_FORMAT, WHY_DOCUMENT_TOO_LARGE, WHY_ENDED, WHY_EXISTS, WHY_IMPRESSIONS_UNKNOWN, WHY_INCOMPLETE, WHY_JOB_NAME_TOO_LONG, WHY_NOT_ACCEPTING, WHY_NO_DEVICE, WHY_NO_JOB, WHY_OTHER_DEVICE, WHY_PASSWORD, WHY_PASSWORD_TOO_LONG, WHY_PRINTING, WHY_PROTOCOL, WHY_RATE, WHY_STATE, WHY_STOPPING, WHY_TARGET, WHY_TEMPLATE, WHY_TOO_MANY_DOCUMENTS}

-- Words that no act of a page meets have a sentence too. That of the quota has numbers.
abbrev pub sentence_of : Word → List ℕ
sentence_of Version = WHY_PROTOCOL.now
sentence_of Operation = WHY_PROTOCOL.now
sentence_of Malformed = WHY_PROTOCOL.now
sentence_of CharsetAndLanguage = WHY_PROTOCOL.now
sentence_of Charset = WHY_PROTOCOL.now
sentence_of Target = WHY_TARGET.now
sentence_of TargetTooLong = WHY_TARGET.now
sentence_of NotThisQueue = WHY_TARGET.now
sentence_of Syntax = WHY_PROTOCOL.now
sentence_of Compression = WHY_PROTOCOL.now
sentence_of DocumentFormat = WHY_DOCUMENT_FORMAT.now
sentence_of WhichJobs = WHY_PROTOCOL.now
sentence_of PasswordEncryptionMissing = WHY_PROTOCOL.now
sentence_of PasswordEncryption = WHY_PROTOCOL.now
sentence_of PasswordTooLong = WHY_PASSWORD_TOO_LONG.now
sentence_of JobNameTooLong = WHY_JOB_NAME_TOO_LONG.now
sentence_of Template = WHY_TEMPLATE.now
sentence_of DocumentTooLarge = WHY_DOCUMENT_TOO_LARGE.now
sentence_of NoJob = WHY_NO_JOB.now
sentence_of NotAccepting = WHY_NOT_ACCEPTING.now
sentence_of Closed = WHY_CLOSED.now
sentence_of TooManyDocuments = WHY_TOO_MANY_DOCUMENTS.now
sentence_of Stopping = WHY_STOPPING.now
sentence_of Ended = WHY_ENDED.now
sentence_of Printing = WHY_PRINTING.now
sentence_of Incomplete = WHY_INCOMPLETE.now
sentence_of Password = WHY_PASSWORD.now
sentence_of ImpressionsUnknown = WHY_IMPRESSIONS_UNKNOWN.now
sentence_of (Quota need left) = NOTHING.now
sentence_of NotHeld = WHY_STATE.now
sentence_of NotPending = WHY_STATE.now
sentence_of NotProcessing = WHY_STATE.now
sentence_of OtherDevice = WHY_OTHER_DEVICE.now
sentence_of Rate = WHY_RATE.now
sentence_of NoAccount = WHY_TARGET.now
sentence_of NoDevice = WHY_NO_DEVICE.now
sentence_of DeviceOff = WHY_DEVICE_OFF.now
sentence_of Exists = WHY_EXISTS.now
sentence_of Same = WHY_EXISTS.now
sentence_of (Conflict held) = WHY_CONFLICT.now

-- what was needed, and what is left
unfoldable pub quota_reason : (need : ℕ) (left : List ℕ) → List Part
quota_reason need left =
    Mark UNITS_NEEDED.now
    ∷ Number need
    ∷ Mark UNITS_HAD.now
    ∷ Mark left
    ∷ Mark QUOTA_ADVICE.now
    ∷ []

abbrev pub reason : Word → List ℕ
reason (Quota need left) = html (quota_reason need (signed_decimal left))
reason Version = WHY_PROTOCOL.now
reason Operation = WHY_PROTOCOL.now
reason Malformed = WHY_PROTOCOL.now
reason CharsetAndLanguage = WHY_PROTOCOL.now
reason Charset = WHY_PROTOCOL.now
reason Target = WHY_TARGET.now
reason TargetTooLong = WHY_TARGET.now
reason NotThisQueue = WHY_TARGET.now
reason Syntax = WHY_PROTOCOL.now
reason Compression = WHY_PROTOCOL.now
reason DocumentFormat = WHY_DOCUMENT_FORMAT.now
reason WhichJobs = WHY_PROTOCOL.now
reason PasswordEncryptionMissing = WHY_PROTOCOL.now
reason PasswordEncryption = WHY_PROTOCOL.now
reason PasswordTooLong = WHY_PASSWORD_TOO_LONG.now
reason JobNameTooLong = WHY_JOB_NAME_TOO_LONG.now
reason Template = WHY_TEMPLATE.now
reason DocumentTooLarge = WHY_DOCUMENT_TOO_LARGE.now
reason NoJob = WHY_NO_JOB.now
reason NotAccepting = WHY_NOT_ACCEPTING.now
reason Closed = WHY_CLOSED.now
reason TooManyDocuments = WHY_TOO_MANY_DOCUMENTS.now
reason Stopping = WHY_STOPPING.now
reason Ended = WHY_ENDED.now
reason Printing = WHY_PRINTING.now
reason Incomplete = WHY_INCOMPLETE.now
reason Password = WHY_PASSWORD.now
reason ImpressionsUnknown = WHY_IMPRESSIONS_UNKNOWN.now
reason NotHeld = WHY_STATE.now
reason NotPending = WHY_STATE.now
reason NotProcessing = WHY_STATE.now
reason OtherDevice = WHY_OTHER_DEVICE.now
reason Rate = WHY_RATE.now
reason NoAccount = WHY_TARGET.now
reason NoDevice = WHY_NO_DEVICE.now
reason DeviceOff = WHY_DEVICE_OFF.now
reason Exists = WHY_EXISTS.now
reason Same = WHY_EXISTS.now
reason (Conflict held) = WHY_CONFLICT.now
