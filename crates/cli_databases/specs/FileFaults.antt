-- Rule: The fault of a file that can't be opened (all this project's own).
use Rattle.std.specs.IoError.{error_kind}
use Rattle.std.specs.declared.io.ErrorKind.{ErrorKind}
use Rattle.std.specs.declared.io.ErrorKind.TheVariants as kind
use Rattle.sqlite_std_file.specs.declared.pair.OpenError.{OpenError}
use Rattle.sqlite_std_file.specs.declared.pair.OpenError.TheVariants as file
use Rattle.rows_tables.specs.declared.fault.OpenFault.{OpenFault}
use Rattle.rows_tables.specs.declared.fault.OpenFault.TheVariants as opening

-- a call that failed with an error of the kind
abbrev pub call_fault : ErrorKind → OpenFault
call_fault kind.OutOfMemory = opening.Memory
call_fault _ = opening.Storage

abbrev pub file_fault : OpenError → OpenFault
file_fault (file.Io error) = call_fault (error_kind error)
file_fault file.OutOfMemory = opening.Memory
file_fault file.Busy = opening.Storage
file_fault file.HotJournal = opening.Storage
