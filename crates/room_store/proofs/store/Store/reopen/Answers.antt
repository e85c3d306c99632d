use Rattle.std.proofs.Common.{ap, ◌∙◌}
use Rattle.sqlite.specs.Held.{state}
use Rattle.room_store.proofs.NumberedLemmas.{reopened_devices, reopened_rows}
use Rattle.room_store.proofs.store.Store.reopen.Goals as goal

pub returns-clause-rows : goal.returns-clause-rows
returns-clause-rows g c =
    reopened_rows (λ store. state g.S.Store store) (state g.S.Store c.args.self) (state g.S.Store c.in_ok-reopen.field-0)
    (λ clean. c.in_ok-reopen.ensures.rows clean ∙ ap (λ h. (state g.S.Store h).committed.trees) c.close.ensures.same)
    c.open_numbered.result c.open_numbered.ensures.clean c.open_numbered.ensures.opened

pub returns-clause-devices : goal.returns-clause-devices
returns-clause-devices g c =
    reopened_devices (λ store. state g.S.Store store) (state g.S.Store c.args.self) (state g.S.Store c.in_ok-reopen.field-0)
    (λ clean. c.in_ok-reopen.ensures.rows clean ∙ ap (λ h. (state g.S.Store h).committed.trees) c.close.ensures.same)
    c.open_numbered.result c.open_numbered.ensures.clean c.open_numbered.ensures.opened
