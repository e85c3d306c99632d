-- What most clauses of this crate use, from one place.
pub use Rattle.account_asks.specs.Asks.{IsAsk, plain_ask}
pub use Rattle.account_machine.specs.Machine.{answered}
pub use Rattle.account_rules.specs.Keeping.{Keeps}
pub use Rattle.account_rules.specs.Standings.{IsStanding}
pub use Rattle.account_state.specs.Rooms.{RoomValue}
pub use Rattle.rows_statements.specs.Queues.{IsNumbered}
pub use Rattle.store_rounds.specs.ProofKnown.{HasAccountRow, HasJobRow}
pub use Rattle.store_rounds.specs.Looks.{LooksUp, StaysOpen, WasOpen}
pub use Rattle.store_events.specs.Serving.{DoesAnswer, DoesAsRoom, DoesResponse, DoesStep}
pub use Rattle.rows_tables.specs.Accounts.{HoldsRoom, IsAccount}
pub use Rattle.rows_tables.specs.Calls.{IfOurTables}
