-- What most clauses of this crate use, from one place.
pub use Rattle.account_asks.specs.Asks.{IsAsk, plain_ask}
pub use Rattle.room_core.specs.Answers.{IsResponse, IsStep}
pub use Rattle.room_core.specs.Moving.{CanMove}
pub use Rattle.account_machine.specs.Events.{plain_event}
pub use Rattle.account_machine.specs.Fits.{fits}
pub use Rattle.account_machine.specs.Rates.{AreRated}
pub use Rattle.account_machine.specs.Steps.{with_moved}
pub use Rattle.account_rules.specs.Devices.{device_map}
pub use Rattle.account_rules.specs.Limits.{last_moment}
