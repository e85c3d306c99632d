-- What a line is told, by the machine of the account of which it asks (all this project's own).
use Rattle.std.specs.Prelude.{◌≡◌, ℕ, List, Option, Some, Result, OnOk}
use Rattle.sqlite.specs.Held.{Held}
use Rattle.sqlite_trees.specs.declared.store.Store.{Ghosts}
use Rattle.account_machine.specs.Events.{AccountEvent, OfAccount}
use Rattle.account_machine.specs.Machine.{Answer, answered}
use Rattle.account_machine.specs.declared.verdict.Answered.{Answered}
use Rattle.account_rules.specs.Devices.{Devices}
use Rattle.account_state.specs.Rooms.{RoomValue}
use Rattle.store_rounds.specs.declared.fault.StoreFault.{StoreFault}
use Rattle.rows_tables.specs.Accounts.{Holds}
use Rattle.rows_tables.specs.Calls.{IfOurTables}
use Rattle.rows_tables.specs.Devices.{HoldsDevices}
use Rattle.serve_peers.specs.Applying.{AppliesAlone}
use Rattle.serve_peers.specs.Entries.{event_of_entry, moment_at}
use Rattle.serve_peers.specs.LineTexts.{line_text, reply_text}
use Rattle.serve_peers.specs.declared.entry.Entry.{Entry}

-- the reply of the machine, or the text of its verdict
abbrev pub told_by : Answer → List ℕ
told_by answer = reply_text (Some answer.verdict) answer.reply

-- so where a response answers it, `ok` where that was done, and else the word that tells why not
abbrev pub LinesTellVerdicts : {S : Type 0} → Ghosts S → Type 0
LinesTellVerdicts {S} store = (entry : Entry) (old new : Held S)
    (told : Result Answered StoreFault) → AppliesAlone store entry old new told
    → (name : List ℕ) (it : AccountEvent) → event_of_entry entry ≡ OfAccount name it
    → IfOurTables store old new (λ db. (room : Option RoomValue) (devices : Devices)
    → Holds db name room → HoldsDevices db devices → OnOk told
    (line_text told ≡ told_by (answered room devices (moment_at entry) (OfAccount name it))))
