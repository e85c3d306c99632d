use Rattle.std.proofs.Common.{◌≡◌, ℕ, List, Result, sym, ap, subst}
use Rattle.sqlite_trees.specs.declared.store.Store.{Ghosts}
use Rattle.sqlite.specs.Held.{Held}
use Rattle.account_machine.specs.Events.{AccountEvent, PlainEvent, OfAccount, plain_event}
use Rattle.account_machine.specs.Machine.{answered}
use Rattle.account_machine.specs.declared.verdict.Answered.{Answered}
use Rattle.rows_tables.specs.declared.fault.TableFault.{TableFault}
use Rattle.store_events.specs.Events.{IsShort}
use Rattle.store_events.specs.Reading.{IsReadableOf}
use Rattle.store_events.specs.Serving.{DoesAnswer, DoesEvent}
use Rattle.store_events.proofs.events.answer_event.Goals as goal

-- what a line of an account does, its event does
of_account : {S : Type 0} (store : Ghosts S) (old new : Held S) (now : ℕ) {account : List ℕ} {it : AccountEvent} {e : PlainEvent} (told : Result Answered TableFault) →
    e ≡ OfAccount account it → (IsShort (OfAccount account it) → ⊥) → DoesAnswer store old new account (IsReadableOf account now e) (λ room devices. answered room devices now e) told → DoesEvent store old new now e told
of_account store old new now {account} told is not_short =
    subst (λ e. DoesAnswer store old new account (IsReadableOf account now e) (λ room devices. answered room devices now e) told → DoesEvent store old new now e told) (sym is)
    (λ served. record {
      connection = served.connection;
      schema = served.schema;
      answer = served.answer;
      left = served.left;
      alone = served.alone;
      within = served.within;
      undone = served.undone;
      damaged = λ clean has e readable. served.damaged clean has e (readable not_short);
      crash = served.crash;
    })

pub returns-in-Ipp-clause-served : goal.returns-in-Ipp-clause-served
returns-in-Ipp-clause-served g c =
    subst (λ e. DoesEvent g.S.Store c.args.connection.now c.answer_request.new.connection c.args.now (plain_event e) c.answer_request.result) (sym c.in-Ipp.is) c.answer_request.ensures.served

pub returns-in-Device-clause-served : goal.returns-in-Device-clause-served
returns-in-Device-clause-served g c =
    subst (λ e. DoesEvent g.S.Store c.args.connection.now c.switch.new.connection c.args.now (plain_event e) c.switch.result) (sym c.in-Device.is) c.switch.ensures.served

pub returns-in-Rate-clause-served : goal.returns-in-Rate-clause-served
returns-in-Rate-clause-served g c =
    subst (λ e. DoesEvent g.S.Store c.args.connection.now c.rate.new.connection c.args.now (plain_event e) c.rate.result) (sym c.in-Rate.is) c.rate.ensures.served

pub returns-in-Release-clause-served : goal.returns-in-Release-clause-served
returns-in-Release-clause-served g c =
    of_account g.S.Store c.args.connection.now c.find_account_and_answer.new.connection c.args.now c.find_account_and_answer.result (ap plain_event c.in-Release.is) (λ short. short) c.find_account_and_answer.ensures.served

pub returns-in-Start-clause-served : goal.returns-in-Start-clause-served
returns-in-Start-clause-served g c =
    of_account g.S.Store c.args.connection.now c.find_account_and_answer-in-Start.new.connection c.args.now c.find_account_and_answer-in-Start.result (ap plain_event c.in-Start.is) (λ short. short) c.find_account_and_answer-in-Start.ensures.served

pub returns-in-Settle-clause-served : goal.returns-in-Settle-clause-served
returns-in-Settle-clause-served g c =
    of_account g.S.Store c.args.connection.now c.find_account_and_answer-in-Settle.new.connection c.args.now c.find_account_and_answer-in-Settle.result (ap plain_event c.in-Settle.is) (λ short. short) c.find_account_and_answer-in-Settle.ensures.served

pub returns-in-Grant-clause-served : goal.returns-in-Grant-clause-served
returns-in-Grant-clause-served g c =
    of_account g.S.Store c.args.connection.now c.find_account_and_answer-in-Grant.new.connection c.args.now c.find_account_and_answer-in-Grant.result (ap plain_event c.in-Grant.is) (λ short. short) c.find_account_and_answer-in-Grant.ensures.served
