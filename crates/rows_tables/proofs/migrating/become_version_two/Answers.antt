use Rattle.std.proofs.Common.{arith}
use Rattle.sqlite.specs.State.{HasCleanDisk}
use Rattle.sqlite.specs.Held.{state}
use Rattle.rows_tables.proofs.Savepoints.{inside_then, then_changed}
use Rattle.rows_tables.proofs.VersionTwo.{becomes_two}
use Rattle.rows_tables.proofs.migrating.become_version_two.Goals as goal

pub returns-clause-migrated : goal.returns-clause-migrated
returns-clause-migrated g c clean =
    let was_rated : HasCleanDisk (state g.S.Store c.rate_devices.new.savepoint.conn.now) = omega (arith, c.note_version_two.ensures.inside.survives.clean, clean) in
    let was_made : HasCleanDisk (state g.S.Store c.extend_tables.new.savepoint.conn.now) = omega (arith, c.in_ok-rate_devices.ensures.inside.survives.clean, was_rated) in
    then_changed c.note_version_two.result _ _ (λ notes first.
    let adds = c.in_ok-extend_tables.ensures.adds was_made first.schema_is in
    let rated = c.in_ok-rate_devices.ensures.rates was_rated adds.schema_is adds.no_rate in
    becomes_two _ _ _ _ first adds rated (notes rated.schema_is))
    (c.note_version_two.ensures.notes clean)

pub returns-clause-inside : goal.returns-clause-inside
returns-clause-inside g c = inside_then _ _ _ _ _ (inside_then _ _ _ _ _ c.in_ok-extend_tables.ensures.inside c.in_ok-rate_devices.ensures.inside) c.note_version_two.ensures.inside
