-- Rule: Get-Printer-Attributes (RFC 8011 section 4.2.5): what the printer is doing.
use Rattle.std.specs.Prelude.{ℕ, List, [], ◌∷◌}
use Rattle.account_replies.specs.Queues.{printer_now}
use Rattle.account_asks.specs.Asks.{PlainAsk}
use Rattle.account_machine.specs.Requests.{Response, doing_ask, asked_at}
use Rattle.account_rules.specs.Devices.{Devices, is_some_on}
use Rattle.account_state.specs.RoomRules.{unfinished_count}
use Rattle.account_state.specs.Rooms.{RoomValue}
use Rattle.account_state.specs.Sums.{has_processing}
use Rattle.account_replies.specs.declared.printer.PrinterNow.{PrinterNow}
use Rattle.account_replies.specs.PrinterAttributes.{printer_group}

-- a printer with no job in hand is idle while some device takes jobs, of whatever account, and else
-- stopped
abbrev pub printer_of : (room : RoomValue) (devices : Devices) → PrinterNow
printer_of room devices =
    printer_now (unfinished_count room) room.next (has_processing room) (is_some_on devices)

abbrev pub printer_shown :
    (room : RoomValue) (devices : Devices) (account : List ℕ) (now : ℕ) (ask : PlainAsk) →
    Response
printer_shown room devices account now ask =
    let at = asked_at room.opened account now ask in
    doing_ask room ask (printer_group at (printer_of room devices) ask.wanted ∷ [])
