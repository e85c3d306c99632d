use Rattle.std.proofs.Common.{Result, OnErr, [], inl, inr, subst, sym}
use Rattle.sqlite.specs.Held.{state}
use Rattle.rows_tables.specs.Calls.{IsUndone}
use Rattle.store_rounds.proofs.EmptyTexts.{empty_fails, not_run_back, unchanged_by}
use Rattle.store_rounds.specs.Looks.{LooksUp}
use Rattle.rows_tables.proofs.Going.{goes_by}
use Rattle.rows_tables.specs.declared.fault.TableFault.{TableFault}
use Rattle.store_rounds.proofs.knocking.knock.Goals as goal
use Rattle.store_rounds.proofs.knocking.knock.Goals.{in-Ok, in-Err}

pub returns-clause-looks : goal.returns-clause-looks
returns-clause-looks g c = elim c.match-prepare.branch [
  | in-Ok w ↦ subst (λ (r : Result (Unit {0}) TableFault). LooksUp g.S.Store c.args.connection.now c.prepare.new.self r) (sym w.result-is) (record {
    connection = record {
      keeps = goes_by _ _ _ c.prepare.ensures.survives (λ clean is_open. (w.in-Ok.ensures.ok clean).1.0.was_open) (λ _. c.prepare.ensures.mode);
      opened = λ clean _. (w.in-Ok.ensures.ok clean).1.0.is_open;
    };
    same = λ clean has. unchanged_by _ _ (w.in-Ok.ensures.ok clean).1;
    undone = λ clean has. tt;
    crash = λ clean has found may. elim (c.prepare.ensures.survives.crash clean found may) [ inl before ↦ before | inr none ↦ absurd none ];
  })
  | in-Err w ↦ subst (λ (r : Result (Unit {0}) TableFault). LooksUp g.S.Store c.args.connection.now c.prepare.new.self r) (sym w.result-is) (record {
    connection = record {
      keeps = goes_by _ _ _ c.prepare.ensures.survives (λ clean. not_run_back [] [] _ _ _ (w.in-Err.ensures.err clean [])) (λ _. c.prepare.ensures.mode);
      opened = λ clean. tt;
    };
    same = λ clean has. tt;
    undone = λ clean has. inr (empty_fails _ _ _ (w.in-Err.ensures.err clean []));
    crash = λ clean has found may. elim (c.prepare.ensures.survives.crash clean found may) [ inl before ↦ before | inr none ↦ absurd none ];
  })
]

pub returns-clause-undone : goal.returns-clause-undone
returns-clause-undone g c clean = elim c.match-prepare.branch [
  | in-Ok w ↦ subst (λ (r : Result (Unit {0}) TableFault). OnErr r (IsUndone (state g.S.Store c.args.connection.now) (state g.S.Store c.prepare.new.self))) (sym w.result-is) tt
  | in-Err w ↦ subst (λ (r : Result (Unit {0}) TableFault). OnErr r (IsUndone (state g.S.Store c.args.connection.now) (state g.S.Store c.prepare.new.self))) (sym w.result-is) (empty_fails _ _ _ (w.in-Err.ensures.err clean []))
]
