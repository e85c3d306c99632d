-- Rule: Which fault of the client an error of reading or writing, or of a file of grants, becomes
-- (all this project's own).
use Rattle.std.specs.declared.io.ErrorKind.{ErrorKind}
use Rattle.std.specs.declared.io.ErrorKind.TheVariants.{OutOfMemory, WouldBlock}
use Rattle.client_lines.specs.declared.fault.ClientFault.{ClientFault}
use Rattle.client_lines.specs.declared.fault.ClientFault.TheVariants as client
use Rattle.input_fields.specs.declared.grant_fault.GrantFault.{GrantFault}
use Rattle.input_fields.specs.declared.grant_fault.GrantFault.TheVariants as grants

-- a call that failed with an error of the kind
abbrev pub io_fault : ErrorKind → ClientFault
io_fault OutOfMemory = client.Memory
io_fault WouldBlock = client.Silent
io_fault _ = client.Io

-- a file of grants that was not read
abbrev pub grant_fault : GrantFault → ClientFault
grant_fault grants.Read = client.Io
grant_fault grants.Memory = client.Memory
grant_fault grants.TooMany = client.TooLong
