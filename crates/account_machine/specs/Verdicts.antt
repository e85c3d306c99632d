-- Rule: What an event came to, beside the bytes of its reply.
use Rattle.std.specs.Prelude.{ℕ, ◌==◌, if◌then◌else◌, Option, Some, None, Result, Ok, Err}
use Rattle.account_machine.specs.declared.event.Reply.{Reply}
use Rattle.account_machine.specs.declared.verdict.Answered.{Answered}
use Rattle.account_machine.specs.declared.verdict.Verdict.{Verdict}
use Rattle.account_machine.specs.declared.verdict.Verdict.TheVariants.{Done, Refused}
use Rattle.account_rules.specs.declared.refusal.Refusal.{Refusal}
use Rattle.account_rules.specs.declared.refusal.Word.{Word}
use Rattle.account_rules.specs.declared.refusal.Word.TheVariants.{Malformed}

-- no job has the number 0
abbrev pub job_numbered : (number : ℕ) → Option ℕ
job_numbered number = if number == 0 then None else Some number

-- a line: successful-ok, or client-error-not-possible for a reason (RFC 8011 appendix B)
abbrev pub line_done : Verdict
line_done = Done 0x0000 None

abbrev pub line_refused : Word → Verdict
line_refused word = Refused (record { status = 0x0404; word = word }) None

-- a body that ends within its header: client-error-bad-request
abbrev pub short_refused : Verdict
short_refused = Refused (record { status = 0x0400; word = Malformed }) None

-- what is answered, without what it came to
abbrev pub reply_of : {F : Type 0} → Result Answered F → Result Reply F
reply_of (Ok it) = Ok it.reply
reply_of (Err fault) = Err fault
