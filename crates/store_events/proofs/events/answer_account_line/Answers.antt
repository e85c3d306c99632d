use Rattle.std.proofs.Common.{sym, subst}
use Rattle.account_machine.specs.Events.{plain_event}
use Rattle.account_machine.specs.Machine.{answered_open}
use Rattle.store_events.specs.Reading.{IsReadableOpen}
use Rattle.store_events.specs.Serving.{DoesStep}
use Rattle.store_events.proofs.events.answer_account_line.Goals as goal

pub returns-in-Release : goal.returns-in-Release
returns-in-Release g c =
    record {
      served = subst (λ e. DoesStep g.S.Store c.args.connection.now c.release_at.new.connection c.args.account (IsReadableOpen c.args.account c.args.now (plain_event e)) (λ room devices. answered_open room devices c.args.now (plain_event e)) c.release_at.result)
          (sym c.in-Release.is) c.release_at.ensures.served;
    }

pub returns-in-Start : goal.returns-in-Start
returns-in-Start g c =
    record {
      served = subst (λ e. DoesStep g.S.Store c.args.connection.now c.start.new.connection c.args.account (IsReadableOpen c.args.account c.args.now (plain_event e)) (λ room devices. answered_open room devices c.args.now (plain_event e)) c.start.result)
          (sym c.in-Start.is) c.start.ensures.served;
    }

pub returns-in-Settle : goal.returns-in-Settle
returns-in-Settle g c =
    record {
      served = subst (λ e. DoesStep g.S.Store c.args.connection.now c.settle.new.connection c.args.account (IsReadableOpen c.args.account c.args.now (plain_event e)) (λ room devices. answered_open room devices c.args.now (plain_event e)) c.settle.result)
          (sym c.in-Settle.is) c.settle.ensures.served;
    }

pub returns-in-Grant : goal.returns-in-Grant
returns-in-Grant g c =
    record {
      served = subst (λ e. DoesStep g.S.Store c.args.connection.now c.grant.new.connection c.args.account (IsReadableOpen c.args.account c.args.now (plain_event e)) (λ room devices. answered_open room devices c.args.now (plain_event e)) c.grant.result)
          (sym c.in-Grant.is) c.grant.ensures.served;
    }
