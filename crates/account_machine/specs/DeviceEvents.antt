-- Rule: What an event of a device is answered, and the devices afterwards (all this project's own).
use Rattle.std.specs.Prelude.{ℕ, Bool, List, if◌then◌else◌}
use Rattle.std.specs.FinMap.{contains_key}
use Rattle.account_machine.specs.Events.{PlainEvent, OfAccount, OfDevice, Switch, Rate}
use Rattle.account_machine.specs.declared.event.Reply.{Reply}
use Rattle.account_machine.specs.declared.event.Reply.TheVariants as reply
use Rattle.account_machine.specs.declared.verdict.Verdict.{Verdict}
use Rattle.account_machine.specs.Verdicts.{line_done, line_refused}
use Rattle.account_rules.specs.declared.refusal.Word.TheVariants.{NoAccount, NoDevice}
use Rattle.account_rules.specs.Devices.{Devices, switched, rated}
use Rattle.account_replies.specs.declared.station_line.Success.TheVariants as success
use Rattle.account_replies.specs.Lines.{success_text}
use Rattle.account_replies.specs.Words.{word_text}

-- a reply, what the event came to, and what devices there are after it
pub record DeviceAnswer : Type 0 where
  pub reply : Reply
  pub verdict : Verdict
  pub devices : Devices

-- a device that is switched on or off is known from then on
abbrev pub switched_answer : (devices : Devices) (name : List ℕ) (on : Bool) → DeviceAnswer
switched_answer devices name on = record {
  reply = reply.Line (success_text success.Ok);
  verdict = line_done;
  devices = switched devices name on;
}

-- only a device that is known gets a rate
abbrev pub rated_answer : (devices : Devices) (name : List ℕ) (units : ℕ) → DeviceAnswer
rated_answer devices name units =
    if contains_key devices name then record {
      reply = reply.Line (success_text success.Ok);
      verdict = line_done;
      devices = rated devices name units;
    }
    else record {
      reply = reply.Line (word_text NoDevice);
      verdict = line_refused NoDevice;
      devices = devices;
    }

-- an event of an account is of no device
abbrev pub device_answered : (devices : Devices) (e : PlainEvent) → DeviceAnswer
device_answered devices (OfDevice device (Switch on)) = switched_answer devices device on
device_answered devices (OfDevice device (Rate units)) = rated_answer devices device units
device_answered devices (OfAccount account it) = record {
  reply = reply.NoAccount;
  verdict = line_refused NoAccount;
  devices = devices;
}
