-- Rule: Why a file of grants was not read.
use Rattle.std.specs.Prelude.{ℕ, Result, Ok, Err, ⊤}
use Rattle.csv.specs.declared.error.ErrorKind.{ErrorKind}
use Rattle.csv.specs.declared.error.ErrorKind.TheVariants as kind
use Rattle.input_fields.specs.declared.stream_fault.StreamFault.{StreamFault}
use Rattle.input_fields.specs.declared.stream_fault.StreamFault.TheVariants as stream
use Rattle.input_fields.specs.declared.grant_fault.GrantFault.{GrantFault}
use Rattle.input_fields.specs.declared.grant_fault.GrantFault.TheVariants as grants

-- the fault of a file that was not read whole
abbrev pub grant_fault_of : StreamFault → GrantFault
grant_fault_of stream.Read = grants.Read
grant_fault_of stream.Memory = grants.Memory
grant_fault_of stream.TooLong = grants.TooMany

-- the calls of the source that failed in a call that ended so: one where it tells of reading, else
-- none
abbrev pub read_faults : {A : Type 0} → Result A GrantFault → ℕ
read_faults (Ok lines) = 0
read_faults (Err grants.Read) = 1
read_faults (Err grants.Memory) = 0
read_faults (Err grants.TooMany) = 0

-- an error that tells of nothing that a record has, but of memory or of the reader underneath
abbrev pub IsNoLength : ErrorKind → Type 0
IsNoLength (kind.Io error) = ⊤
IsNoLength (kind.Utf8 place error) = ⊥
IsNoLength (kind.UnequalLengths place expected count) = ⊥
IsNoLength (kind.Serialize why) = ⊥
IsNoLength (kind.Deserialize place error) = ⊥
IsNoLength kind.OutOfMemory = ⊤
