-- Which fault of a statement, or of an opening, an error of the SQLite library becomes.
use Rattle.sqlite.specs.declared.error.Error.{Error}
use Rattle.sqlite.specs.declared.error.Error.TheVariants.{SqliteFailure}
use Rattle.sqlite.specs.declared.error.ErrorCode.TheVariants.{ConstraintViolation, OutOfMemory}
use Rattle.sqlite_schema.specs.declared.schema.Constraint.TheVariants.{Unique}
use Rattle.rows_tables.specs.declared.fault.TableFault.{TableFault}
use Rattle.rows_tables.specs.declared.fault.TableFault.TheVariants as table
use Rattle.rows_tables.specs.declared.fault.OpenFault.{OpenFault}
use Rattle.rows_tables.specs.declared.fault.OpenFault.TheVariants as opening

-- of a statement
abbrev pub statement_fault : Error → TableFault
statement_fault (SqliteFailure OutOfMemory) = table.Memory
statement_fault _ = table.Storage

-- of a statement that puts a row in: a second row of a key stands in no sound rows
abbrev pub put_fault : Error → TableFault
put_fault (SqliteFailure OutOfMemory) = table.Memory
put_fault (SqliteFailure (ConstraintViolation Unique)) = table.Damaged
put_fault _ = table.Storage

-- of a value that is read from a row
abbrev pub value_fault : Error → TableFault
value_fault (SqliteFailure OutOfMemory) = table.Memory
value_fault _ = table.Damaged

-- of a statement that makes, opens or migrates
abbrev pub opening_fault : Error → OpenFault
opening_fault (SqliteFailure OutOfMemory) = opening.Memory
opening_fault _ = opening.Storage
