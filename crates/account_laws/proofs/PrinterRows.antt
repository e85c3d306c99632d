-- The machine shows the printer as was told, and the rows that it shows can be spelled.
use Rattle.std.proofs.Common.{◌≡◌, ℕ, ◌≤◌, Bool, true, false, List, [], ◌∷◌, map, length, Option, refl, ap, ◌∙◌, arith, codes}
use Rattle.std.specs.Int.{to_be_bytes, w32}
use Rattle.std.specs.List.{AllByRecursion}
use Rattle.ipp_coding.specs.Plain.{PlainAttribute, PlainGroup}
use Rattle.ipp_coding.specs.Spelling.{IsGroup, IsValue}
use Rattle.account_laws.proofs.JobRows.{IsWritable, integer_fits, place_of, queue_fits, seconds_alike}
use Rattle.account_laws.proofs.ShownRows.{◌&◌, IsSpelled, all_alike, as_row, group_spelled, one_spelled, shown_alike, shown_spelled}
use Rattle.account_laws.specs.AccountsTold.{AccountTold, unfinished_told}
use Rattle.account_laws.specs.PrinterRows as rows
use Rattle.account_laws.specs.PrinterRows.{accepts_jobs, described, format_values, operation_values, printer_reason, printer_rows, printer_group_told, some_is_on, some_is_printed, version_values}
use Rattle.account_laws.specs.ShownRows.{attributes_shown}
use Rattle.account_laws.specs.ShownValues.{boolean, enum, integer, keyword}
use Rattle.account_laws.specs.Views.{View, seconds}
use Rattle.account_replies.specs.PrinterAttributes.{printer_attributes, printer_group, printer_state_reason}
use Rattle.account_replies.specs.Queues.{printer_now, printer_state}
use Rattle.account_replies.specs.declared.printer.PrinterNow.{PrinterNow}

-- ---- what the machine shows is what was told

abbrev pub printer_told : AccountTold → PrinterNow
printer_told told = printer_now (unfinished_told told) told.next (some_is_printed told) (some_is_on told)

state_alike : (prints is_on : Bool) → printer_state prints is_on ≡ rows.printer_state prints is_on
state_alike true is_on = refl
state_alike false true = refl
state_alike false false = refl

reason_alike : (prints is_on : Bool) → printer_state_reason (printer_state prints is_on) ≡ printer_reason prints is_on
reason_alike true is_on = refl
reason_alike false true = refl
reason_alike false false = refl

rows_alike : (view : View) (told : AccountTold) → map (as_row (place_of view) (printer_told told)) printer_attributes ≡ printer_rows view told
unfolding printer_attributes printer_rows
rows_alike view told =
    all_alike _ (printer_rows view told)
    (refl & refl & refl & refl
    & ap (λ (state : ℕ). described (codes "printer-state") (enum state)) (state_alike (some_is_printed told) (some_is_on told))
    & ap (λ (reason : List ℕ). described (codes "printer-state-reasons") (keyword reason)) (reason_alike (some_is_printed told) (some_is_on told))
    & refl & refl & refl & refl & refl & refl & refl & refl & refl & refl & refl
    & ap (λ (moment : ℕ). described (codes "printer-up-time") (integer moment)) (seconds_alike view view.now)
    & refl & refl & refl & refl & refl & refl & refl & refl & tt)

pub printer_group_alike : (view : View) (told : AccountTold) (wanted : Option (List (List ℕ))) → printer_group (place_of view) (printer_told told) wanted ≡ printer_group_told view wanted told
printer_group_alike view told wanted =
    ap (λ (attributes : List PlainAttribute). let group : PlainGroup = record { tag = 0x04; attributes = attributes } in group)
    (shown_alike (place_of view) (printer_told told) wanted printer_attributes ∙ ap (attributes_shown wanted) (rows_alike view told))

-- ---- they can be spelled

accepting_spelled : (accepts : Bool) → IsSpelled (described (codes "printer-is-accepting-jobs") (boolean accepts))
accepting_spelled true = one_spelled (codes "printer-is-accepting-jobs") (codes "printer-description") 0x22 (1 ∷ []) refl (omega arith)
accepting_spelled false = one_spelled (codes "printer-is-accepting-jobs") (codes "printer-description") 0x22 (0 ∷ []) refl (omega arith)

reason_fits : (prints is_on : Bool) → length (printer_reason prints is_on) ≤ 32767
reason_fits true is_on = omega arith
reason_fits false true = omega arith
reason_fits false false = omega arith

value_spelled : (tag : ℕ) (bytes : List ℕ) → 0x10 ≤ tag → length bytes ≤ 32767 → IsValue (record { tag = tag; bytes = bytes })
value_spelled tag bytes is_value fits = record { tag = is_value; bytes = fits }

versions_spelled : IsSpelled (described (codes "ipp-versions-supported") version_values)
versions_spelled = record {
  named = omega arith;
  name = omega arith;
  values = (value_spelled 0x44 (codes "1.1") (omega arith) (omega arith), (value_spelled 0x44 (codes "2.0") (omega arith) (omega arith), tt));
}

enum_spelled : (n : ℕ) → IsValue (record { tag = 0x23; bytes = to_be_bytes w32 n })
enum_spelled n = value_spelled 0x23 (to_be_bytes w32 n) (omega arith) (integer_fits n)

operations_spelled : IsSpelled (described (codes "operations-supported") operation_values)
operations_spelled = record {
  named = omega arith;
  name = omega arith;
  values = enum_spelled 0x02 & enum_spelled 0x04 & enum_spelled 0x05 & enum_spelled 0x06 & enum_spelled 0x08 & enum_spelled 0x09 & enum_spelled 0x0A & enum_spelled 0x0B & enum_spelled 0x0C & enum_spelled 0x0D & tt;
}

format_spelled : (text : List ℕ) → length text ≤ 100 → IsValue (record { tag = 0x49; bytes = text })
format_spelled text fits = value_spelled 0x49 text (omega arith) (omega (arith, fits))

formats_spelled : IsSpelled (described (codes "document-format-supported") format_values)
formats_spelled = record {
  named = omega arith;
  name = omega arith;
  values = format_spelled (codes "application/octet-stream") (omega arith) & format_spelled (codes "application/pdf") (omega arith) & format_spelled (codes "application/postscript") (omega arith) & format_spelled (codes "image/jpeg") (omega arith) & format_spelled (codes "image/pwg-raster") (omega arith) & format_spelled (codes "image/urf") (omega arith) & format_spelled (codes "text/plain") (omega arith) & tt;
}

rows_spelled : (view : View) (told : AccountTold) → IsWritable view → AllByRecursion IsSpelled (printer_rows view told)
unfolding printer_rows
rows_spelled view told is =
    let one = λ (name : List ℕ). one_spelled name (codes "printer-description") in
    let other = λ (name : List ℕ). one_spelled name (codes "job-template") in
    one (codes "printer-uri-supported") 0x45 _ refl (omega (arith, queue_fits view is))
    & one (codes "uri-authentication-supported") 0x44 _ refl (omega arith)
    & one (codes "uri-security-supported") 0x44 _ refl (omega arith)
    & one (codes "printer-name") 0x42 _ refl (omega (arith, is.account))
    & one (codes "printer-state") 0x23 _ refl (integer_fits (rows.printer_state (some_is_printed told) (some_is_on told)))
    & one (codes "printer-state-reasons") 0x44 _ refl (reason_fits (some_is_printed told) (some_is_on told))
    & versions_spelled
    & operations_spelled
    & one (codes "charset-configured") 0x47 _ refl (omega arith)
    & one (codes "charset-supported") 0x47 _ refl (omega arith)
    & one (codes "natural-language-configured") 0x48 _ refl (omega arith)
    & one (codes "generated-natural-language-supported") 0x48 _ refl (omega arith)
    & one (codes "document-format-default") 0x49 _ refl (omega arith)
    & formats_spelled
    & accepting_spelled (accepts_jobs told)
    & one (codes "queued-job-count") 0x21 _ refl (integer_fits (unfinished_told told))
    & one (codes "pdl-override-supported") 0x44 _ refl (omega arith)
    & one (codes "printer-up-time") 0x21 _ refl (integer_fits (seconds view view.now))
    & one (codes "compression-supported") 0x44 _ refl (omega arith)
    & one (codes "multiple-document-jobs-supported") 0x22 _ refl (omega arith)
    & one (codes "job-password-supported") 0x21 _ refl (integer_fits 32)
    & one (codes "job-password-encryption-supported") 0x44 _ refl (omega arith)
    & other (codes "copies-default") 0x21 _ refl (integer_fits 1)
    & other (codes "copies-supported") 0x33 _ refl (omega arith)
    & other (codes "job-hold-until-default") 0x44 _ refl (omega arith)
    & other (codes "job-hold-until-supported") 0x44 _ refl (omega arith)
    & tt

pub printer_group_spelled : (view : View) (wanted : Option (List (List ℕ))) (told : AccountTold) → IsWritable view → IsGroup (printer_group_told view wanted told)
printer_group_spelled view wanted told is = group_spelled 0x04 (attributes_shown wanted (printer_rows view told)) refl (shown_spelled wanted (printer_rows view told) (rows_spelled view told is))
