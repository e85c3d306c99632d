-- The attributes that an account's printer shows, as the account was told (RFC 8011 sections 5.2
-- and 5.4; those on passwords are of PWG 5100.11).
use Rattle.std.specs.Prelude.{ℕ, Bool, true, false, ◌&&◌, nat_lt, List, [], ◌∷◌, Option, codes}
use Rattle.std.specs.FinMap.{values}
use Rattle.std.specs.Int.{to_be_bytes, w32}
use Rattle.std.specs.List.{list_any}
use Rattle.ipp_coding.specs.Plain.{PlainGroup, PlainValue}
use Rattle.account_laws.specs.AccountsTold.{AccountTold, unfinished_told}
use Rattle.account_laws.specs.JobsTold.{JobTold, is_printing}
use Rattle.account_laws.specs.ShownRows.{Row, attributes_shown, templated}
use Rattle.account_laws.specs.ShownValues.{boolean, charset, enum, integer, keyword, language, media_type, name_without_language, range, uri, value_under}
use Rattle.account_laws.specs.Views.{View, queue_uri, seconds}

-- ---- what the printer does

-- one of the account's jobs is printed
abbrev pub some_is_printed : AccountTold → Bool
some_is_printed told = list_any (λ (job : JobTold). is_printing job.stage) (values told.jobs)

-- one of the devices was switched on
abbrev pub some_is_on : AccountTold → Bool
some_is_on told = list_any (λ (on : Bool). on) (values told.on)

-- printer-state (section 5.4.11): processing, 4, while a job is printed; else idle, 3, while a
-- device is on; else stopped, 5 (which it is when is this project's own)
abbrev pub printer_state : (prints is_on : Bool) → ℕ
printer_state true is_on = 4
printer_state false true = 3
printer_state false false = 5

-- printer-state-reasons (section 5.4.12)
abbrev pub printer_reason : (prints is_on : Bool) → List ℕ
printer_reason true is_on = codes "none"
printer_reason false true = codes "none"
printer_reason false false = codes "other"

-- printer-is-accepting-jobs (section 5.4.23): while less than 100 jobs have not ended and a number
-- up to 999999 is left (both this project's own)
abbrev pub accepts_jobs : AccountTold → Bool
accepts_jobs told = nat_lt (unfinished_told told) 100 && nat_lt told.next 1000000

-- ---- the table

abbrev pub described : (name : List ℕ) (values : List PlainValue) → Row
described name values =
    record { name = name; group = codes "printer-description"; values = values }

abbrev pub version_values : List PlainValue
version_values = value_under 0x44 (codes "1.1") ∷ value_under 0x44 (codes "2.0") ∷ []

-- Print-Job, Validate-Job, Create-Job, Send-Document, Cancel-Job, Get-Job-Attributes, Get-Jobs,
-- Get-Printer-Attributes, Hold-Job, Release-Job (section 5.4.15)
abbrev pub operation_values : List PlainValue
operation_values =
    value_under 0x23 (to_be_bytes w32 0x02)
    ∷ value_under 0x23 (to_be_bytes w32 0x04)
    ∷ value_under 0x23 (to_be_bytes w32 0x05)
    ∷ value_under 0x23 (to_be_bytes w32 0x06)
    ∷ value_under 0x23 (to_be_bytes w32 0x08)
    ∷ value_under 0x23 (to_be_bytes w32 0x09)
    ∷ value_under 0x23 (to_be_bytes w32 0x0A)
    ∷ value_under 0x23 (to_be_bytes w32 0x0B)
    ∷ value_under 0x23 (to_be_bytes w32 0x0C)
    ∷ value_under 0x23 (to_be_bytes w32 0x0D)
    ∷ []

abbrev pub format_values : List PlainValue
format_values =
    value_under 0x49 (codes "application/octet-stream")
    ∷ value_under 0x49 (codes "application/pdf")
    ∷ value_under 0x49 (codes "application/postscript")
    ∷ value_under 0x49 (codes "image/jpeg")
    ∷ value_under 0x49 (codes "image/pwg-raster")
    ∷ value_under 0x49 (codes "image/urf")
    ∷ value_under 0x49 (codes "text/plain")
    ∷ []

-- passwords have at most 32 bytes, and a request asks for at most 999 copies (both this project's
-- own)
unfoldable pub printer_rows : (view : View) → AccountTold → List Row
printer_rows view told =
    let prints = some_is_printed told in
    let is_on = some_is_on told in
    described (codes "printer-uri-supported") (uri (queue_uri view))
    ∷ described (codes "uri-authentication-supported") (keyword (codes "none"))
    ∷ described (codes "uri-security-supported") (keyword (codes "none"))
    ∷ described (codes "printer-name") (name_without_language view.account)
    ∷ described (codes "printer-state") (enum (printer_state prints is_on))
    ∷ described (codes "printer-state-reasons") (keyword (printer_reason prints is_on))
    ∷ described (codes "ipp-versions-supported") version_values
    ∷ described (codes "operations-supported") operation_values
    ∷ described (codes "charset-configured") (charset (codes "utf-8"))
    ∷ described (codes "charset-supported") (charset (codes "utf-8"))
    ∷ described (codes "natural-language-configured") (language (codes "en"))
    ∷ described (codes "generated-natural-language-supported") (language (codes "en"))
    ∷ described (codes "document-format-default") (media_type (codes "application/octet-stream"))
    ∷ described (codes "document-format-supported") format_values
    ∷ described (codes "printer-is-accepting-jobs") (boolean (accepts_jobs told))
    ∷ described (codes "queued-job-count") (integer (unfinished_told told))
    ∷ described (codes "pdl-override-supported") (keyword (codes "not-attempted"))
    ∷ described (codes "printer-up-time") (integer (seconds view view.now))
    ∷ described (codes "compression-supported") (keyword (codes "none"))
    ∷ described (codes "multiple-document-jobs-supported") (boolean true)
    ∷ described (codes "job-password-supported") (integer 32)
    ∷ described (codes "job-password-encryption-supported") (keyword (codes "none"))
    ∷ templated (codes "copies-default") (integer 1)
    ∷ templated (codes "copies-supported") (range 1 999)
    ∷ templated (codes "job-hold-until-default") (keyword (codes "indefinite"))
    ∷ templated (codes "job-hold-until-supported") (keyword (codes "indefinite"))
    ∷ []

-- the group 0x04 of the printer (RFC 8010 section 3.5.1), with those of them that are wanted
abbrev pub printer_group_told : (view : View) (wanted : Option (List (List ℕ))) → AccountTold
    → PlainGroup
printer_group_told view wanted told =
    record { tag = 0x04; attributes = attributes_shown wanted (printer_rows view told) }
