-- Rule: The fault of a command for each fault of its lines, of its database and of its events (all
-- this project's own).
use Rattle.input_lines.specs.declared.fault.LineFault.{LineFault}
use Rattle.input_lines.specs.declared.fault.LineFault.TheVariants as lines
use Rattle.store_rounds.specs.declared.fault.StoreFault.{StoreFault}
use Rattle.store_rounds.specs.declared.fault.StoreFault.TheVariants as store
use Rattle.rows_tables.specs.declared.fault.OpenFault.{OpenFault}
use Rattle.rows_tables.specs.declared.fault.OpenFault.TheVariants as opening
use Rattle.cli_words.specs.declared.fault.Fault.{Fault}
use Rattle.cli_words.specs.declared.fault.Fault.TheVariants as command

-- lines that are not all of their grammar
abbrev pub line_fault : LineFault → Fault
line_fault (lines.Line number) = command.Line number
line_fault lines.Memory = command.Memory

-- a database that was not opened
abbrev pub open_fault : OpenFault → Fault
open_fault opening.NotOurs = command.Store
open_fault (opening.WrongVersion version) = command.Store
open_fault opening.Storage = command.Store
open_fault opening.Memory = command.Memory

-- an event that failed
abbrev pub event_fault : StoreFault → Fault
event_fault store.Storage = command.Store
event_fault store.Memory = command.Memory
event_fault store.Moment = command.Store
event_fault store.Damaged = command.Store
