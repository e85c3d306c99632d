-- Rule: What a line of the desk does, and what it came to, as its page tells it (all this project's own).
use Rattle.std.specs.Prelude.{Bool, Option, Some, None, true, false, Result, Ok, Err}
use Rattle.account_machine.specs.declared.event.Reply.{Reply}
use Rattle.account_machine.specs.declared.event.Reply.TheVariants.{NoAccount}
use Rattle.account_machine.specs.declared.verdict.Answered.{Answered}
use Rattle.account_machine.specs.declared.verdict.Verdict.{Verdict}
use Rattle.account_machine.specs.declared.verdict.Verdict.TheVariants as verdict_is
use Rattle.account_rules.specs.declared.refusal.Word.TheVariants as word_is
use Rattle.input_lines.specs.declared.action.Action.{Action}
use Rattle.input_lines.specs.declared.action.Action.TheVariants as action
use Rattle.input_lines.specs.declared.owner_request.OwnerAct.{OwnerAct}
use Rattle.input_lines.specs.declared.owner_request.OwnerAct.TheVariants as owner_act
use Rattle.page_pages.specs.declared.desk_told.Came.{Came}
use Rattle.page_pages.specs.declared.desk_told.Came.TheVariants as came_is
use Rattle.page_pages.specs.declared.desk_told.Deed.{Deed}
use Rattle.page_pages.specs.declared.desk_told.Deed.TheVariants.{Open, Grant, Cancel, Hold, TurnOn, TurnOff, Rate}
use Rattle.page_pages.specs.declared.desk_told.Onward.{Onward}
use Rattle.page_pages.specs.declared.desk_told.Onward.TheVariants.{Accounts, Devices, Account}
use Rattle.store_rounds.specs.declared.fault.StoreFault.{StoreFault}

abbrev pub owner_deed : OwnerAct → Deed
owner_deed owner_act.Cancel = Cancel
owner_deed owner_act.Hold = Hold

abbrev pub device_deed : (on : Bool) → Deed
device_deed true = TurnOn
device_deed false = TurnOff

-- None where no operator asks it
abbrev pub deed_of : Action → Option Deed
deed_of (action.Open account) = Some Open
deed_of (action.Grant account month pages) = Some Grant
deed_of (action.Device name on) = Some (device_deed on)
deed_of (action.Rate name units) = Some Rate
deed_of (action.Owner request) = Some (owner_deed request.act)
deed_of _ = None

-- the page of the account or of devices
abbrev pub onward_of : Action → Onward
onward_of (action.Open account) = Account account
onward_of (action.Grant account month pages) = Account account
onward_of (action.Owner request) = Account request.account
onward_of (action.Device name on) = Devices
onward_of (action.Rate name units) = Devices
onward_of _ = Accounts

abbrev pub came_by : Deed → Verdict → Came
came_by deed (verdict_is.Done status job) = came_is.Done deed
came_by deed (verdict_is.Refused refusal job) = came_is.Refused refusal.word

-- the word why not, also of an account that is not open
abbrev pub came_of : Deed → Reply → Verdict → Came
came_of deed NoAccount verdict = came_is.Refused word_is.NoAccount
came_of deed _ verdict = came_by deed verdict

abbrev pub came_told : Deed → Result Answered StoreFault → Came
came_told deed (Ok it) = came_of deed it.reply it.verdict
came_told deed (Err fault) = came_is.Failed
