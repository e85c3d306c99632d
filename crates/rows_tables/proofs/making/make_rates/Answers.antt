use Rattle.std.proofs.Common.{subst}
use Rattle.sqlite.specs.Held.{state}
use Rattle.rows_tables.specs.Tables.{first_schema, rates}
use Rattle.rows_tables.specs.Making.{IsBlank}
use Rattle.rows_tables.proofs.MakingTexts.{rates_text, makes_rates, rated_schema_is}
use Rattle.rows_tables.proofs.Created.{creates}
use Rattle.rows_tables.proofs.RatedLemmas.{adds_rates}
use Rattle.rows_tables.proofs.Savepoints.{then_changed}
use Rattle.rows_tables.proofs.making.make_rates.Goals as goal

pub returns-clause-made : goal.returns-clause-made
returns-clause-made g c clean =
    let old = state g.S.Store c.args.savepoint.now.conn.now in
    let new = state g.S.Store c.write.new.savepoint.conn.now in
    then_changed c.write.result _ _ (λ run blank. subst (λ s. IsBlank s new.now) rated_schema_is (creates first_schema rates_text rates makes_rates old new run.0 run.1 blank)) (c.write.ensures.runs clean)

pub returns-clause-adds : goal.returns-clause-adds
returns-clause-adds g c clean =
    let old = state g.S.Store c.args.savepoint.now.conn.now in
    let new = state g.S.Store c.write.new.savepoint.conn.now in
    then_changed c.write.result _ _ (λ run. adds_rates old new run.0 run.1) (c.write.ensures.runs clean)
