-- For the proof of the code alone: the columns of a table, as it is made with them.
use Rattle.sqlite_schema.specs.declared.schema.Column.{Column}
use Rattle.rows_tables.specs.declared.schema.ColumnForm.{ColumnForm}
use Rattle.rows_tables.specs.Tables.{column_of}

abbrev pub column_formed : ColumnForm → Column
column_formed form = column_of form.kind form.name.now
