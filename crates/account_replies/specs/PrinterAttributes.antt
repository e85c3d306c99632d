-- Rule: The attributes that a printer shows (RFC 8011 sections 5.2 and 5.4; those on passwords are
-- of PWG 5100.11).
use Rattle.std.specs.Prelude.{ℕ, true, ◌==◌, if◌then◌else◌, List, [], ◌∷◌, map, Option, codes}
use Rattle.account_replies.specs.PrinterStates.{stopped}
use Rattle.account_rules.specs.declared.format.Format.{Format}
use Rattle.account_rules.specs.declared.format.Format.TheVariants.{OctetStream}
use Rattle.ipp_coding.specs.Plain.{PlainValue, PlainGroup}
use Rattle.account_replies.specs.declared.printer.PrinterNow.{PrinterNow}
use Rattle.account_replies.specs.Attributes.{value_with, number_bytes, integer, boolean, enum, range, plain_name, keyword, uri, charset, language, media}
use Rattle.account_rules.specs.Formats.{media_type, formats}
use Rattle.account_rules.specs.Limits.{longest_password, most_copies}
use Rattle.account_replies.specs.Places.{PlainPlace, printer_uri}
use Rattle.account_replies.specs.Times.{up}
use Rattle.account_replies.specs.Tables.{ShownRow, shown}

-- Print-Job, Validate-Job, Create-Job, Send-Document, Cancel-Job, Get-Job-Attributes, Get-Jobs,
-- Get-Printer-Attributes, Hold-Job, Release-Job (RFC 8011 section 5.4.15)
abbrev pub operations : List ℕ
operations = 2 ∷ 4 ∷ 5 ∷ 6 ∷ 8 ∷ 9 ∷ 10 ∷ 11 ∷ 12 ∷ 13 ∷ []

abbrev pub operation_values : List PlainValue
operation_values = map (λ operation. value_with 0x23 (number_bytes operation)) operations

abbrev pub version_values : List PlainValue
version_values = value_with 0x44 (codes "1.1") ∷ value_with 0x44 (codes "2.0") ∷ []

abbrev pub format_values : List PlainValue
format_values = map (λ (format : Format). value_with 0x49 (media_type format)) formats

-- printer-state-reasons (RFC 8011 section 5.4.12): a printer is stopped for another reason
abbrev pub printer_state_reason : ℕ → List ℕ
printer_state_reason state = if state == stopped then codes "other" else codes "none"

abbrev pub described : (name : List ℕ) (values : PlainPlace → PrinterNow → List PlainValue)
    → ShownRow PrinterNow
described name values = record { name = name; group = codes "printer-description"; values = values }

abbrev pub templated : (name : List ℕ) (values : PlainPlace → PrinterNow → List PlainValue)
    → ShownRow PrinterNow
templated name values = record { name = name; group = codes "job-template"; values = values }

unfoldable pub printer_attributes : List (ShownRow PrinterNow)
printer_attributes =
    described (codes "printer-uri-supported") (λ at printer. uri (printer_uri at))
    ∷ described (codes "uri-authentication-supported") (λ at printer. keyword (codes "none"))
    ∷ described (codes "uri-security-supported") (λ at printer. keyword (codes "none"))
    ∷ described (codes "printer-name") (λ at printer. plain_name at.name)
    ∷ described (codes "printer-state") (λ at printer. enum printer.state)
    ∷ described (codes "printer-state-reasons")
    (λ at printer. keyword (printer_state_reason printer.state))
    ∷ described (codes "ipp-versions-supported") (λ at printer. version_values)
    ∷ described (codes "operations-supported") (λ at printer. operation_values)
    ∷ described (codes "charset-configured") (λ at printer. charset (codes "utf-8"))
    ∷ described (codes "charset-supported") (λ at printer. charset (codes "utf-8"))
    ∷ described (codes "natural-language-configured") (λ at printer. language (codes "en"))
    ∷ described (codes "generated-natural-language-supported") (λ at printer. language (codes "en"))
    ∷ described (codes "document-format-default") (λ at printer. media (media_type OctetStream))
    ∷ described (codes "document-format-supported") (λ at printer. format_values)
    ∷ described (codes "printer-is-accepting-jobs") (λ at printer. boolean printer.accepting)
    ∷ described (codes "queued-job-count") (λ at printer. integer printer.queued)
    ∷ described (codes "pdl-override-supported") (λ at printer. keyword (codes "not-attempted"))
    ∷ described (codes "printer-up-time") (λ at printer. integer (up at at.now))
    ∷ described (codes "compression-supported") (λ at printer. keyword (codes "none"))
    ∷ described (codes "multiple-document-jobs-supported") (λ at printer. boolean true)
    ∷ described (codes "job-password-supported") (λ at printer. integer longest_password)
    ∷ described (codes "job-password-encryption-supported") (λ at printer. keyword (codes "none"))
    ∷ templated (codes "copies-default") (λ at printer. integer 1)
    ∷ templated (codes "copies-supported") (λ at printer. range 1 most_copies)
    ∷ templated (codes "job-hold-until-default") (λ at printer. keyword (codes "indefinite"))
    ∷ templated (codes "job-hold-until-supported") (λ at printer. keyword (codes "indefinite"))
    ∷ []

-- the group of the printer, with the attributes of it that are wanted
abbrev pub printer_group : (at : PlainPlace) (printer : PrinterNow)
    (wanted : Option (List (List ℕ))) → PlainGroup
printer_group at printer wanted = record {
  tag = 0x04;
  attributes = shown printer_attributes wanted at printer;
}
