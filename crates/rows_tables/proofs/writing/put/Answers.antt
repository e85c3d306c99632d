use Rattle.std.proofs.Common.{◌+◌, inl, inr, sym, subst}
use Rattle.std.proofs.lemmas.Bool.{cases_Bool}
use Rattle.sqlite.specs.Held.{Held, state}
use Rattle.rows_tables.specs.Calls.{StaysInSavepoint}
use Rattle.rows_tables.proofs.Savepoints.{refused_inside, stays_itself}
use Rattle.rows_tables.proofs.writing.put.Goals as goal

pub returns-in-Err-clause-inside : goal.returns-in-Err-clause-inside
returns-in-Err-clause-inside g c =
    let old = c.args.savepoint.now.conn.now in
    let held = c.args.savepoint.now.at + 1 in
    record {
      same_reference = c.in-Err.ensures.same_reference;
      place = c.in-Err.ensures.place;
      opened = λ clean. tt;
      inside = λ clean. tt;
      stays = λ clean. tt;
      undone = λ clean. elim (cases_Bool (state g.S.Store old).in_transaction) [
        | inl is ↦ refused_inside held _ _ _ _ _ (c.in-Err.ensures.runs clean is)
        | inr isnt ↦ inl (subst (λ (h : Held _). StaysInSavepoint held (state g.S.Store old) (state g.S.Store h)) (sym (c.in-Err.ensures.ended isnt).1) (stays_itself held (state g.S.Store old)))
      ];
      survives = c.in-Err.ensures.survives;
    }
