-- What most clauses of this crate use, from one place.
pub use Rattle.account_state.specs.Rooms.{RoomValue}
pub use Rattle.store_rounds.specs.Looks.{LooksUp, WasOpen}
pub use Rattle.rows_tables.specs.Accounts.{HoldsRoom}
pub use Rattle.rows_tables.specs.Calls.{IfOurTables}
