use Rattle.std.proofs.Common.{◌≡◌, ◌∙◌, sym, ap, subst, option_map, Some, arith, Err}
use Rattle.std.proofs.lemmas.Result.{err_from_is_err_and}
use Rattle.sqlite.specs.Effect.{Database}
use Rattle.sqlite.specs.Held.{state}
use Rattle.sqlite.specs.State.{HasCleanDisk}
use Rattle.rows_tables.specs.Accounts.{account_at}
use Rattle.rows_tables.specs.Cells.{account_cells}
use Rattle.rows_tables.specs.Keyed.{HasSchema}
use Rattle.rows_tables.specs.declared.fault.TableFault.TheVariants.{Damaged}
use Rattle.rows_tables.proofs.KeyedRows.{same_fault}
use Rattle.rows_statements.specs.SoundRows.{AccountsRead}
use Rattle.store_copy.specs.Slices.{CopiesFurther}
use Rattle.store_copy.specs.declared.slices.Progress.TheVariants.{Within}
use Rattle.store_copy.proofs.AtMost.{begun_at_most, if_ok_both, none_begun}
use Rattle.store_copy.proofs.PartlyCopied.{begun_further, nobody_begun}
use Rattle.store_copy.proofs.ReadsKept.{if_ok_with, leaves_then, of_read, on_ok_with}
use Rattle.store_copy.proofs.SavepointKept.{kept_by_write, kept_then}
use Rattle.store_copy.proofs.accounts.begin_account.Goals as goal

pub returns-in_default-clause-copies : goal.returns-in_default-clause-copies
returns-in_default-clause-copies g c clean has =
    let source = (state g.S.Store c.args.source.now).now in
    (has, λ source_clean source_has. nobody_begun c.args.account source (state g.T.Store c.args.savepoint.now.conn.now).now (c.in_ok-row.ensures.found source_clean source_has ∙ ap (option_map (account_cells c.args.account)) c.in_default.is))

pub returns-clause-copies : goal.returns-clause-copies
returns-clause-copies g c clean =
    let name = c.args.account in
    let source = (state g.S.Store c.args.source.now).now in
    let before = (state g.T.Store c.args.savepoint.now.conn.now).now in
    let mid = state g.T.Store c.set_account.new.savepoint.conn.now in
    let after = (state g.T.Store c.go_on.new.savepoint.conn.now).now in
    let it = c.in-Some.row in
    let mid_clean : HasCleanDisk mid = omega (arith, c.go_on.ensures.inside.survives.clean, clean) in
    on_ok_with c.go_on.result (λ copies has.
    let set = c.in_ok-set_account.ensures.sets mid_clean has in
    let more = copies set.0 in (
      more.0,
      λ source_clean source_has.
          let found_clean : HasCleanDisk (state g.S.Store c.find_account.new.connection) = omega (arith, c.go_on.ensures.source.keeps.clean, source_clean) in
          let same = (c.in_ok-row.ensures.reads.same found_clean source_has).now in
          let there : account_at source name ≡ Some (account_cells name it) = c.in_ok-row.ensures.found found_clean source_has ∙ ap (option_map (account_cells name)) c.in-Some.is in
          if_ok_with c.go_on.result (λ to rest. begun_further name source before mid.now it there set.1 to after (subst (λ (db : Database). CopiesFurther name (Within name it.next_job 1) to db mid.now after) same rest)) (more.1 source_clean (subst HasSchema (sym same) source_has)),
    ))
    (c.go_on.ensures.copies clean)

pub returns-in_default-clause-at_most : goal.returns-in_default-clause-at_most
returns-in_default-clause-at_most g c clean has =
    none_begun c.args.account (state g.S.Store c.args.source.now).now c.args.most (c.in_ok-row.ensures.found clean has ∙ ap (option_map (account_cells c.args.account)) c.in_default.is)

pub returns-clause-at_most : goal.returns-clause-at_most
returns-clause-at_most g c clean has =
    let name = c.args.account in
    let found_clean : HasCleanDisk (state g.S.Store c.find_account.new.connection) = omega (arith, c.go_on.ensures.source.keeps.clean, clean) in
    let there = c.in_ok-row.ensures.found found_clean has ∙ ap (option_map (account_cells name)) c.in-Some.is in
    if_ok_both c.go_on.result (begun_at_most name (state g.S.Store c.args.source.now).now c.args.most c.in-Some.row there) c.go_on.ensures.account c.go_on.ensures.at_most

pub returns-clause-inside : goal.returns-clause-inside
returns-clause-inside g c = kept_then c.args.savepoint.now c.set_account.new.savepoint c.go_on.new.savepoint _ c.go_on.result (kept_by_write _ _ _ c.in_ok-set_account.ensures.inside) c.go_on.ensures.inside

pub returns-clause-source : goal.returns-clause-source
returns-clause-source g c = leaves_then g.S.Store c.args.source.now c.find_account.new.connection c.go_on.new.source _ c.go_on.result (of_read _ _ _ _ c.in_ok-row.ensures.reads) c.go_on.ensures.source

pub returns-in_err-row-clause-damaged : goal.returns-in_err-row-clause-damaged
returns-in_err-row-clause-damaged g c clean has is_damaged read =
    let told = err_from_is_err_and c.from_residual.result c.from_residual.ensures.1 in
    let fault : c.in_err-row.field-0.0 ≡ Damaged = sym told.2 ∙ same_fault (sym told.1 ∙ is_damaged) in
    c.in_err-row.ensures.damaged clean has (ap Err fault) read.account

pub returns-clause-damaged : goal.returns-clause-damaged
returns-clause-damaged g c clean has is_damaged read =
    let before : HasCleanDisk (state g.S.Store c.find_account.new.connection) = omega (arith, c.go_on.ensures.source.keeps.clean, clean) in
    let same = (c.in_ok-row.ensures.reads.same before has).now in
    c.go_on.ensures.damaged clean (subst HasSchema (sym same) has) is_damaged (subst (λ (db : Database). AccountsRead db c.args.account) (sym same) read)
