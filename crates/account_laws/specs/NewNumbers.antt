-- Which numbers an account is told of its new jobs (RFC 8011 section 5.3.2; that they are counted
-- from 1 is this project's own).
use Rattle.std.specs.Prelude.{◌≡◌, ◌≢◌, ℕ, ◌+◌, ◌≤◌, true, ◌∷◌, ◌++◌, length, Option, Some, None, option_and_then}
use Rattle.ipp_coding.specs.Plain.{PlainMessage}
use Rattle.ipp_coding.specs.Reading.{message_of}
use Rattle.account_asks.specs.Requests.{job_group_of}
use Rattle.account_asks.specs.Targets.{job_id}
use Rattle.account_machine.specs.Events.{OfAccount, Ipp}
use Rattle.account_machine.specs.declared.event.Reply.{Reply}
use Rattle.account_machine.specs.declared.event.Reply.TheVariants as reply
use Rattle.account_laws.specs.AccountsTold.{account_told}
use Rattle.account_laws.specs.AsksLieWithin.{AreBytes}
use Rattle.account_laws.specs.Deeds.{deed_of}
use Rattle.account_laws.specs.JobsMade.{is_making, jobs_made}
use Rattle.account_lives.specs.Lives.{Exchange, Life, OfLives}
use Rattle.account_rules.specs.Limits.{longest_name}

-- The message that an answer's bytes spell tells a number by the attribute job-id of its first
-- group of a job (0x02), which has one integer.
abbrev pub number_told : Reply → Option ℕ
number_told (reply.Ipp text) =
    option_and_then
    (λ (message : PlainMessage). option_and_then job_id (job_group_of message.groups))
    (message_of text)
number_told _ = None

-- a request comes as bytes, and the name of its account is no longer than names are
abbrev pub IsOfBytes : Exchange → Type 0
IsOfBytes ((now, OfAccount account (Ipp body)), told) =
    AreBytes body × (length account ≤ longest_name)
IsOfBytes _ = Unit {0}

-- ---- the laws

-- A request that made a job is told the number after those of all jobs that were made before: from
-- 1 on, and each one more than the last.
abbrev pub JobsAreCounted : Type 0
JobsAreCounted = OfLives (λ life.
    (past later : Life) (x : Exchange)
    → life ≡ past ++ x ∷ later → is_making (deed_of x) ≡ true → IsOfBytes x
    → number_told x.1 ≡ Some (jobs_made past + 1))

-- under that number the job stands in all that is told of the account
abbrev pub NumbersAreKept : Type 0
NumbersAreKept = (past : Life) → (account_told past).next ≡ jobs_made past + 1

-- so no number is told of two new jobs
abbrev pub NumbersDiffer : Type 0
NumbersDiffer = OfLives (λ life.
    (past between later : Life) (one other : Exchange)
    → life ≡ past ++ one ∷ (between ++ other ∷ later)
    → is_making (deed_of one) ≡ true → is_making (deed_of other) ≡ true
    → IsOfBytes one → IsOfBytes other
    → number_told one.1 ≢ number_told other.1)
