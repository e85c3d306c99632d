-- The status code of each refusal (the codes: RFC 8011 section B.1; which word has which of them:
-- this project's own).
use Rattle.std.specs.Prelude.{ℕ}
use Rattle.account_rules.specs.declared.refusal.Word.{Word}
use Rattle.account_rules.specs.declared.refusal.Word.TheVariants.{Version, Operation, Malformed, CharsetAndLanguage, Charset, Target, TargetTooLong, NotThisQueue, Syntax, Compression, DocumentFormat, WhichJobs, PasswordEncryptionMissing, PasswordEncryption, PasswordTooLong, JobNameTooLong, Template, DocumentTooLarge, NoJob, NotAccepting, TooManyDocuments}

abbrev pub code_of : Word → ℕ
-- client-error-bad-request (section B.1.4.1)
code_of Malformed = 0x0400
code_of CharsetAndLanguage = 0x0400
code_of Target = 0x0400
code_of Syntax = 0x0400
code_of PasswordEncryptionMissing = 0x0400
-- client-error-not-found (section B.1.4.7)
code_of NotThisQueue = 0x0406
code_of NoJob = 0x0406
-- client-error-request-entity-too-large (section B.1.4.9)
code_of DocumentTooLarge = 0x0408
-- client-error-request-value-too-long (section B.1.4.10)
code_of TargetTooLong = 0x0409
code_of PasswordTooLong = 0x0409
code_of JobNameTooLong = 0x0409
-- client-error-document-format-not-supported (section B.1.4.11)
code_of DocumentFormat = 0x040A
-- client-error-attributes-or-values-not-supported (section B.1.4.12)
code_of WhichJobs = 0x040B
code_of PasswordEncryption = 0x040B
code_of Template = 0x040B
-- client-error-charset-not-supported (section B.1.4.14)
code_of Charset = 0x040D
-- client-error-compression-not-supported (section B.1.4.16)
code_of Compression = 0x040F
-- server-error-operation-not-supported (section B.1.5.2)
code_of Operation = 0x0501
-- server-error-version-not-supported (section B.1.5.4)
code_of Version = 0x0503
-- server-error-not-accepting-jobs (section B.1.5.7)
code_of NotAccepting = 0x0506
-- server-error-multiple-document-jobs-not-supported (section B.1.5.10)
code_of TooManyDocuments = 0x0509
-- client-error-not-possible (section B.1.4.5): how the job stands, or what is left, forbids it
code_of _ = 0x0404
