-- Rule: The job that the line of a request names.
use Rattle.std.specs.Prelude.{ℕ, nat_lt, if◌then◌else◌, List, length, Option, None, Result, Ok, Err}
use Rattle.ipp_coding.specs.Limits.{header_length}
use Rattle.account_asks.specs.Asks.{PlainAsk, PlainRefusal, ask_of}
use Rattle.account_machine.specs.declared.event.Reply.{Reply}
use Rattle.account_machine.specs.declared.event.Reply.TheVariants as reply_is
use Rattle.account_machine.specs.declared.verdict.Answered.{Answered}
use Rattle.account_machine.specs.declared.verdict.Verdict.{Verdict}
use Rattle.account_machine.specs.declared.verdict.Verdict.TheVariants.{Done, Refused}
use Rattle.account_machine.specs.Verdicts.{job_numbered}

-- ---- for which job it asks

-- none where the request fails a check of its own
abbrev pub job_wanted : Result PlainAsk PlainRefusal → Option ℕ
job_wanted (Ok ask) = job_numbered ask.job
job_wanted (Err refusal) = None

abbrev pub job_asked : (account body : List ℕ) → Option ℕ
job_asked account body =
    if nat_lt (length body) header_length then None else job_wanted (ask_of account body)

-- ---- which job it came to

abbrev pub job_in : Verdict → Option ℕ
job_in (Done status job) = job
job_in (Refused refusal job) = job

-- where the account is not open, the verdict has none
abbrev pub job_answered : (account body : List ℕ) → Reply → Verdict → Option ℕ
job_answered account body reply_is.NoAccount verdict = job_asked account body
job_answered account body _ verdict = job_in verdict

-- where the store failed, there is no verdict
abbrev pub job_of : {F : Type 0} → (account body : List ℕ) (told : Result Answered F) → Option ℕ
job_of account body (Ok it) = job_answered account body it.reply it.verdict
job_of account body (Err fault) = job_asked account body
