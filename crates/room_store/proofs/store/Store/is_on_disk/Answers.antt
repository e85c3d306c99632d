use Rattle.std.proofs.Common.{rules, subst}
use Rattle.sqlite.specs.Held.{state}
use Rattle.rows_tables.specs.Crashes.{IsOnDisk}
use Rattle.room_store.proofs.store.Store.is_on_disk.Goals as goal

pub returns-clause-on_disk : goal.returns-clause-on_disk
returns-clause-on_disk g c is = subst (λ h. IsOnDisk (state g.S.Store h)) c.self.view_is (c.is_under_way.ensures.on_disk (search rules))
