use Rattle.std.proofs.Common.{◌+◌, inl, inr, sym, subst}
use Rattle.std.proofs.lemmas.Result.{err_from_is_err_and}
use Rattle.std.proofs.lemmas.Bool.{cases_Bool}
use Rattle.sqlite.specs.Held.{Held, state}
use Rattle.rows_tables.specs.Calls.{StaysInSavepoint}
use Rattle.rows_tables.proofs.Savepoints.{refused_inside, stays_itself}
use Rattle.rows_tables.proofs.writing.write.Goals as goal

pub returns-in_err-execute-clause-inside : goal.returns-in_err-execute-clause-inside
returns-in_err-execute-clause-inside g c =
    let old = c.args.savepoint.now.conn.now in
    let held = c.args.savepoint.now.at + 1 in
    let told = err_from_is_err_and c.from_residual.result c.from_residual.ensures.1 in
    rw told.1 (record {
      same_reference = c.in_err-execute.ensures.same_reference;
      place = c.in_err-execute.ensures.place;
      opened = λ clean. tt;
      inside = λ clean. tt;
      stays = λ clean. tt;
      undone = λ clean. elim (cases_Bool (state g.S.Store old).in_transaction) [
        | inl is ↦ refused_inside held _ _ _ _ _ (c.in_err-execute.ensures.runs clean is)
        | inr isnt ↦ inl (subst (λ (h : Held _). StaysInSavepoint held (state g.S.Store old) (state g.S.Store h)) (sym (c.in_err-execute.ensures.ended isnt).1) (stays_itself held (state g.S.Store old)))
      ];
      survives = c.in_err-execute.ensures.survives;
    })
