-- Rule: What every request shares: a response, what it came to, and the room after it.
use Rattle.std.specs.Prelude.{ℕ, List, Result, Ok, Err}
use Rattle.ipp_coding.specs.Plain.{PlainGroup}
use Rattle.account_replies.specs.Responses.{refused_text, done_text, success_status}
use Rattle.account_asks.specs.Asks.{PlainAsk}
use Rattle.account_machine.specs.declared.verdict.Verdict.{Verdict}
use Rattle.account_machine.specs.declared.verdict.Verdict.TheVariants.{Done, Refused}
use Rattle.account_machine.specs.Verdicts.{job_numbered}
use Rattle.account_rules.specs.declared.refusal.Refusal.{Refusal}
use Rattle.account_state.specs.Rooms.{RoomValue}
use Rattle.account_replies.specs.Places.{PlainPlace}

pub record Response : Type 0 where
  pub text : List ℕ
  pub verdict : Verdict
  pub room : RoomValue

-- the texts that refuse the request, and that tell what was done
abbrev pub refusal_to : (ask : PlainAsk) (refusal : Refusal) → List ℕ
refusal_to ask refusal = refused_text ask.header refusal ask.unsupported

abbrev pub answer_to : (ask : PlainAsk) (groups : List PlainGroup) → List ℕ
answer_to ask groups = done_text ask.header ask.unsupported groups

-- the request is refused, and nothing changes
abbrev pub refusing_ask : (room : RoomValue) (ask : PlainAsk) (refusal : Refusal) → Response
refusing_ask room ask refusal = record {
  text = refusal_to ask refusal;
  verdict = Refused refusal (job_numbered ask.job);
  room = room;
}

-- the request is done with the job of this number, and these groups
abbrev pub done_with :
    (room : RoomValue) (ask : PlainAsk) (number : ℕ) (groups : List PlainGroup) →
    Response
done_with room ask number groups = record {
  text = answer_to ask groups;
  verdict = Done (success_status ask.unsupported) (job_numbered number);
  room = room;
}

-- with the job for which it asked
abbrev pub doing_ask : (room : RoomValue) (ask : PlainAsk) (groups : List PlainGroup) → Response
doing_ask room ask groups = done_with room ask ask.job groups

-- the refusal, or what comes of a request that is not refused
abbrev pub refusing_ask_or :
    {A : Type 0} (room : RoomValue) (ask : PlainAsk) (decided : Result A Refusal)
    (next : A → Response) →
    Response
refusing_ask_or room ask (Err refusal) next = refusing_ask room ask refusal
refusing_ask_or room ask (Ok x) next = next x

-- where and when the request is answered
abbrev pub asked_at : (opened : ℕ) (account : List ℕ) (now : ℕ) (ask : PlainAsk) → PlainPlace
asked_at opened account now ask = record {
  base = ask.base;
  name = account;
  opened = opened;
  now = now;
}
