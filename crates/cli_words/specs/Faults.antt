-- Rule: The fault of a command for each fault of a stream, of grants, of a client or of the system
-- (all this project's own).
use Rattle.std.specs.declared.io.ErrorKind.{ErrorKind}
use Rattle.std.specs.declared.io.ErrorKind.TheVariants.{OutOfMemory}
use Rattle.clap.specs.declared.error.Error.{Error}
use Rattle.clap.specs.declared.error.kind.ErrorKind as parsing
use Rattle.clap.specs.declared.error.kind.ErrorKind.TheVariants as parse
use Rattle.client_lines.specs.declared.fault.ClientFault.{ClientFault}
use Rattle.client_lines.specs.declared.fault.ClientFault.TheVariants as client
use Rattle.input_fields.specs.declared.grant_fault.GrantFault.{GrantFault}
use Rattle.input_fields.specs.declared.grant_fault.GrantFault.TheVariants as grants
use Rattle.input_fields.specs.declared.stream_fault.StreamFault.{StreamFault}
use Rattle.input_fields.specs.declared.stream_fault.StreamFault.TheVariants as stream
use Rattle.cli_words.specs.declared.fault.Fault.{Fault}
use Rattle.cli_words.specs.declared.fault.Fault.TheVariants as command

-- a call that failed with an error of the kind
abbrev pub io_fault : ErrorKind → Fault
io_fault OutOfMemory = command.Memory
io_fault _ = command.Io

-- a command line that was not parsed, with an error of the kind
abbrev pub usage_fault : (kind : parsing.ErrorKind) → Error → Fault
usage_fault parse.OutOfMemory error = command.Memory
usage_fault _ error = command.Usage error

-- an input that was not read whole
abbrev pub stream_fault : StreamFault → Fault
stream_fault stream.Read = command.Io
stream_fault stream.Memory = command.Memory
stream_fault stream.TooLong = command.Input

-- a file of grants that was not read
abbrev pub grant_fault : GrantFault → Fault
grant_fault grants.Read = command.Io
grant_fault grants.Memory = command.Memory
grant_fault grants.TooMany = command.Input

-- what was not sent to its end
abbrev pub client_fault : ClientFault → Fault
client_fault client.Io = command.Io
client_fault client.Broken = command.Io
client_fault client.Silent = command.Silent
client_fault client.Failed = command.Store
client_fault client.Refused = command.Refused
client_fault client.TooLong = command.Input
client_fault client.Memory = command.Memory
