-- Rule: The exit statuses of a run that ends early (this project's own).
use Rattle.std.specs.Prelude.{ℕ}
use Rattle.cli_words.specs.declared.fault.Fault.{Fault}
use Rattle.cli_words.specs.declared.fault.Fault.TheVariants.{Usage, Name, Input, Document, Pin, Line, Store, Memory, Io, Silent, Refused}

-- 1 for usage, 2 for bad input, of which nothing was run unless it was sent, 3 for the store and
-- for memory, 4 for reading and writing, 5 for what was refused
abbrev pub exit_status_of : Fault → ℕ
exit_status_of (Usage error) = 1
exit_status_of Name = 2
exit_status_of Input = 2
exit_status_of Document = 2
exit_status_of Pin = 2
exit_status_of (Line number) = 2
exit_status_of Store = 3
exit_status_of Memory = 3
exit_status_of Io = 4
exit_status_of Silent = 4
exit_status_of Refused = 5
