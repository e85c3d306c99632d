-- Rule: What an event does to an account that is open: a reply, what it came to, and the room after
-- it.
use Rattle.std.specs.Prelude.{ℕ, if◌then◌else◌, None, Result, Ok, Err}
use Rattle.account_rules.specs.JobStates.{is_unfinished}
use Rattle.account_machine.specs.declared.event.Reply.{Reply}
use Rattle.account_machine.specs.declared.event.Reply.TheVariants as reply
use Rattle.account_machine.specs.declared.verdict.Verdict.{Verdict}
use Rattle.account_machine.specs.Verdicts.{line_done, line_refused}
use Rattle.account_rules.specs.declared.job.Standing.{Standing}
use Rattle.account_rules.specs.declared.refusal.Word.{Word}
use Rattle.account_state.specs.Changes.{with_standing, with_ended}
use Rattle.account_state.specs.Rooms.{RoomValue}
use Rattle.account_replies.specs.declared.station_line.Success.{Success}
use Rattle.account_replies.specs.Lines.{success_text}
use Rattle.account_replies.specs.Words.{word_text}

pub record Step : Type 0 where
  pub reply : Reply
  pub verdict : Verdict
  pub room : RoomValue

-- a line that tells why, and nothing changes
abbrev pub refusing : (room : RoomValue) (word : Word) → Step
refusing room word = record {
  reply = reply.Line (word_text word);
  verdict = line_refused word;
  room = room;
}

-- a line that tells what was done
abbrev pub telling : (room : RoomValue) (success : Success) → Step
telling room success = record {
  reply = reply.Line (success_text success);
  verdict = line_done;
  room = room;
}

-- the line that tells why, or what comes of an event that is not refused
abbrev pub refusing_or :
    {A : Type 0} (room : RoomValue) (decided : Result A Word) (next : A → Step) →
    Step
refusing_or room (Err word) next = refusing room word
refusing_or room (Ok x) next = next x

-- one check after another: the first that fails is the answer
abbrev pub and_then : {A B E : Type 0} (checked : Result A E) (next : A → Result B E) → Result B E
and_then (Err e) next = Err e
and_then (Ok x) next = next x

-- an act on a job gives it another standing, and a job that ends loses its documents (RFC 8011
-- section 5.3.7; that documents go at once is this project's own)
abbrev pub with_moved : (room : RoomValue) (number : ℕ) (standing : Standing) → RoomValue
with_moved room number standing =
    if is_unfinished standing.state then with_standing room number standing None
    else with_ended room number standing
