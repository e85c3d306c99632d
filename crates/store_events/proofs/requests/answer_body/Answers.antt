use Rattle.std.proofs.Common.{Result, IfOk, sym, subst}
use Rattle.account_asks.specs.Asks.{PlainAsk, PlainRefusal}
use Rattle.account_machine.specs.Machine.{responded_to}
use Rattle.account_rules.specs.Devices.{Devices}
use Rattle.account_state.specs.Rooms.{RoomValue}
use Rattle.rows_statements.specs.Alone.{OnlyAccount}
use Rattle.rows_tables.specs.Accounts.{HoldsRoom}
use Rattle.store_events.specs.Answers.{of_response}
use Rattle.store_events.specs.Reading.{IsReadableFor}
use Rattle.store_events.specs.Serving.{DoesToTables, RowsHold}
use Rattle.store_events.proofs.requests.answer_body.Goals as goal

pub returns-in-Ok-clause-served : goal.returns-in-Ok-clause-served
returns-in-Ok-clause-served g c opened =
    let name = c.args.account in
    let now = c.args.now in
    subst
    (λ (asked : Result PlainAsk PlainRefusal). DoesToTables g.S.Store c.args.connection.now c.respond.new.connection (RowsHold name) (λ db. IfOk asked (λ ask. IsReadableFor name now ask db ask.operation)) (OnlyAccount name) (λ (of : RoomValue × Devices). of_response (responded_to of.0 of.1 name now c.args.header asked)) (λ of db. HoldsRoom db name (responded_to of.0 of.1 name now c.args.header asked).room) c.respond.result)
    (sym c.in-Ok.ensures.asked)
    (c.respond.ensures.served opened)
