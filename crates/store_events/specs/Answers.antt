-- The answers to events: a reply with its verdict, as the code builds them.
use Rattle.std.specs.Prelude.{ℕ, List}
use Rattle.ipp_coding.specs.Plain.{PlainGroup}
use Rattle.account_asks.specs.Asks.{PlainAsk}
use Rattle.account_machine.specs.DeviceEvents.{DeviceAnswer}
use Rattle.account_machine.specs.Machine.{Answer}
use Rattle.account_machine.specs.Requests.{Response, answer_to, refusal_to}
use Rattle.account_machine.specs.Steps.{Step}
use Rattle.account_machine.specs.Verdicts.{job_numbered, line_done, line_refused, short_refused}
use Rattle.account_machine.specs.declared.event.Reply.TheVariants as reply
use Rattle.account_machine.specs.declared.verdict.Answered.{Answered}
use Rattle.account_machine.specs.declared.verdict.Verdict.TheVariants.{Done, Refused}
use Rattle.account_replies.specs.Lines.{success_text}
use Rattle.account_replies.specs.Responses.{success_status}
use Rattle.account_replies.specs.Words.{word_text}
use Rattle.account_replies.specs.declared.station_line.Success.{Success}
use Rattle.account_rules.specs.declared.refusal.Refusal.{Refusal}
use Rattle.account_rules.specs.declared.refusal.Word.{Word}

-- ---- as the machine has it

abbrev pub of_step : Step → Answered
of_step step = record { reply = step.reply; verdict = step.verdict }

abbrev pub of_response : Response → Answered
of_response response = record { reply = reply.Ipp response.text; verdict = response.verdict }

abbrev pub of_answer : Answer → Answered
of_answer answer = record { reply = answer.reply; verdict = answer.verdict }

abbrev pub of_device_answer : DeviceAnswer → Answered
of_device_answer answer = record { reply = answer.reply; verdict = answer.verdict }

-- ---- by a line

abbrev pub refused_by : (word : Word) → Answered
refused_by word = record { reply = reply.Line (word_text word); verdict = line_refused word }

abbrev pub done_by : (success : Success) → Answered
done_by success = record { reply = reply.Line (success_text success); verdict = line_done }

-- ---- by a response

-- a body that ends within its header
abbrev pub short_answered : Answered
short_answered = record { reply = reply.Short; verdict = short_refused }

abbrev pub request_refused : (ask : PlainAsk) (refusal : Refusal) → Answered
request_refused ask refusal = record {
  reply = reply.Ipp (refusal_to ask refusal);
  verdict = Refused refusal (job_numbered ask.job);
}

-- with the job of this number, and these groups
abbrev pub request_done : (ask : PlainAsk) (number : ℕ) (groups : List PlainGroup) → Answered
request_done ask number groups = record {
  reply = reply.Ipp (answer_to ask groups);
  verdict = Done (success_status ask.unsupported) (job_numbered number);
}
