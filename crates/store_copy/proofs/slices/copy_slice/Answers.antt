use Rattle.std.proofs.Common.{◌≡◌, Option, Result, Ok, IfOk, subst, rules, sym}
use Rattle.std.proofs.lemmas.Result.{err_from_is_err_and}
use Rattle.sqlite.specs.Effect.{Database}
use Rattle.sqlite.specs.Held.{state}
use Rattle.rows_tables.specs.Calls.{ChangesWhole, IfOurTables}
use Rattle.rows_tables.specs.declared.fault.TableFault.{TableFault}
use Rattle.rows_tables.proofs.SavepointChanges.{released_changed, unreleased_changed, unwritten_changed}
use Rattle.store_copy.specs.Slices.{CopiesSlice, IfNamed}
use Rattle.store_copy.specs.declared.slices.Progress.{Progress}
use Rattle.store_copy.proofs.SavepointKept.{write_of_kept}
use Rattle.store_copy.proofs.slices.copy_slice.Goals as goal

pub returns-in_err-further-clause-copies : goal.returns-in_err-further-clause-copies
returns-in_err-further-clause-copies g c =
    let Made : Database → Database → Type 0 = λ before after. IfOurTables g.S.Store c.args.source.now c.copy_part.new.source (λ db. IfNamed db (IfOk c.from_residual-in_err-further.result (λ to. CopiesSlice c.args.progress.now to db before after))) in
    let told = err_from_is_err_and c.from_residual-in_err-further.result c.from_residual-in_err-further.ensures.1 in
    let same : c.drop-savepoint.new.self.0 ≡ c.copy-in_err-further-1.given.0 = search rules in
    let writes = write_of_kept (state g.T.Store c.args.copy.now) c.in_ok-savepoint.savepoint c.copy_part.new.savepoint _ c.in_ok-savepoint.ensures.ok c.in_err-further.ensures.inside in
    subst (λ h. ChangesWhole g.T.Store c.args.copy.now h c.from_residual-in_err-further.result Made) same
    (unwritten_changed g.T.Store c.args.copy.now c.drop-savepoint.new.self.0 c.in_ok-savepoint.savepoint c.copy_part.new.savepoint c.in_ok-savepoint.ensures.ok c.in_ok-savepoint.ensures.survives c.in_err-further.field-0.0 writes c.drop-savepoint.ensures.survives c.drop-savepoint.ensures.undone _ _ told.1 Made)

pub returns-in_err-commit-clause-copies : goal.returns-in_err-commit-clause-copies
returns-in_err-commit-clause-copies g c =
    let source = (state g.S.Store c.args.source.now).now in
    let before = (state g.T.Store c.in_ok-savepoint.savepoint.conn.now).now in
    let after = (state g.T.Store c.copy_part.new.savepoint.conn.now).now in
    let Made : Database → Database → Type 0 = λ before after. IfOurTables g.S.Store c.args.source.now c.copy_part.new.source (λ db. IfNamed db (IfOk c.from_residual-in_err-commit.result (λ to. CopiesSlice c.args.progress.now to db before after))) in
    let told = err_from_is_err_and c.from_residual-in_err-commit.result c.from_residual-in_err-commit.ensures.1 in
    let same : c.commit.new.self.0 ≡ c.copy-2-1.given.0 = search rules in
    let writes = write_of_kept (state g.T.Store c.args.copy.now) c.in_ok-savepoint.savepoint c.copy_part.new.savepoint _ c.in_ok-savepoint.ensures.ok c.in_ok-further.ensures.inside in
    subst (λ h. ChangesWhole g.T.Store c.args.copy.now h c.from_residual-in_err-commit.result Made) same
    (unreleased_changed g.T.Store c.args.copy.now c.commit.new.self.0 c.in_ok-savepoint.savepoint c.copy_part.new.savepoint c.in_ok-savepoint.ensures.ok c.in_ok-savepoint.ensures.survives _ writes c.commit.ensures.survives c.in_err-commit.field-0.0 c.in_err-commit.ensures.err _ _ told.1 Made
    (λ clean has. ((c.in_ok-further.ensures.copies clean has).0, λ _ _ _ _ _. subst (λ (r : Result (Option Progress) TableFault). IfOk r (λ to. CopiesSlice c.args.progress.now to source before after)) (sym told.1) tt)))

pub returns-clause-copies : goal.returns-clause-copies
returns-clause-copies g c =
    let Made : Database → Database → Type 0 = λ before after. IfOurTables g.S.Store c.args.source.now c.copy_part.new.source (λ db. IfNamed db (CopiesSlice c.args.progress.now c.in_ok-further.further db before after)) in
    let same : c.commit.new.self.0 ≡ c.copy-2-1.given.0 = search rules in
    let writes = write_of_kept (state g.T.Store c.args.copy.now) c.in_ok-savepoint.savepoint c.copy_part.new.savepoint _ c.in_ok-savepoint.ensures.ok c.in_ok-further.ensures.inside in
    subst (λ h. ChangesWhole g.T.Store c.args.copy.now h {T = Option Progress} {E = TableFault} (Ok c.in_ok-further.further) Made) same
    (released_changed g.T.Store c.args.copy.now c.commit.new.self.0 c.in_ok-savepoint.savepoint c.copy_part.new.savepoint c.in_ok-savepoint.ensures.ok c.in_ok-savepoint.ensures.survives _ writes c.commit.ensures.survives _ c.in_ok-commit.ensures.ok Made c.in_ok-further.ensures.copies)
