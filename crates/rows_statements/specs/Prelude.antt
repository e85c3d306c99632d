-- What most clauses of this crate use, from one place.
pub use Rattle.account_state.specs.Rooms.{RoomValue}
pub use Rattle.rows_statements.specs.SoundRows.{IsRowOf}
pub use Rattle.rows_statements.specs.Walks.{HasGathered, WalksStore}
pub use Rattle.rows_tables.specs.Accounts.{HoldsRoom}
pub use Rattle.rows_tables.specs.Calls.{Changes, ChangesWhole, GetsRow, IfOurTables, KeepsOpen, ReadsStore}
pub use Rattle.rows_tables.specs.Calls.{WritesInSavepoint}
pub use Rattle.rows_tables.specs.Cells.{number}
pub use Rattle.rows_tables.specs.Keyed.{SetsRow}
pub use Rattle.sqlite_value.specs.Order.{column}
