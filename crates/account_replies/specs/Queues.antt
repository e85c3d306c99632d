-- Rule: Whether a queue takes jobs, and what its printer is doing.
use Rattle.std.specs.Prelude.{ℕ, Bool, true, false, ◌&&◌, nat_lt, if◌then◌else◌, Result, Ok, Err}
use Rattle.account_replies.specs.PrinterStates.{idle, processing, stopped}
use Rattle.account_rules.specs.Limits.{most_unfinished, last_next_job}
use Rattle.account_rules.specs.declared.refusal.Refusal.{Refusal}
use Rattle.account_rules.specs.declared.refusal.Word.TheVariants.{NotAccepting}
use Rattle.account_replies.specs.declared.printer.PrinterNow.{PrinterNow}

-- printer-is-accepting-jobs (RFC 8011 section 5.4.23): an account has few jobs that have not ended,
-- and after the last number it takes no more (both limits are this project's own)
abbrev pub is_accepting : (unfinished next : ℕ) → Bool
is_accepting unfinished next = nat_lt unfinished most_unfinished && nat_lt next last_next_job

-- server-error-not-accepting-jobs (RFC 8011 section B.1.5.7)
abbrev pub accepting_refusal : (unfinished next : ℕ) → Result (Unit {0}) Refusal
accepting_refusal unfinished next =
    if is_accepting unfinished next then Ok tt
    else Err (record { status = 0x0506; word = NotAccepting })

-- printer-state (RFC 8011 section 5.4.11): a printer is stopped while no device takes jobs (this
-- project's own)
abbrev pub printer_state : (is_processing is_device_on : Bool) → ℕ
printer_state true is_device_on = processing
printer_state false false = stopped
printer_state false true = idle

-- what the printer is doing: so many jobs have not ended, and the next has that number
abbrev pub printer_now : (unfinished next : ℕ) (is_processing is_device_on : Bool) → PrinterNow
printer_now unfinished next is_processing is_device_on = record {
  state = printer_state is_processing is_device_on;
  accepting = is_accepting unfinished next;
  queued = unfinished;
}
