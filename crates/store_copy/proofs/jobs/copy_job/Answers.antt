use Rattle.std.proofs.Common.{◌≡◌, ◌∙◌, sym, ap, subst, option_map, pos, None, Some, arith, Err}
use Rattle.sqlite.specs.Effect.{Database}
use Rattle.sqlite.specs.Held.{state}
use Rattle.sqlite.specs.State.{HasCleanDisk}
use Rattle.rows_tables.specs.Accounts.{job_at}
use Rattle.rows_tables.specs.Cells.{job_cells}
use Rattle.rows_tables.specs.Keyed.{HasSchema}
use Rattle.rows_statements.proofs.ReadsAgain.{reads_again}
use Rattle.store_copy.specs.ProofParts.{CopiesMore, HasDocuments, HasJob, HasWholeJob}
use Rattle.store_copy.proofs.ReadsKept.{on_ok_with}
use Rattle.store_copy.proofs.PartRows.{copies_none, copies_then, job_copied, job_lasts, job_missing, with_documents}
use Rattle.store_copy.proofs.SavepointKept.{kept_by_write, kept_then}
use Rattle.std.proofs.lemmas.Result.{err_from_is_err_and}
use Rattle.rows_tables.specs.declared.fault.TableFault.TheVariants.{Damaged}
use Rattle.rows_tables.proofs.KeyedRows.{same_fault}
use Rattle.rows_statements.specs.SoundRows.{AccountsRead}
use Rattle.store_copy.proofs.jobs.copy_job.Goals as goal

pub returns-in_default-clause-copies : goal.returns-in_default-clause-copies
returns-in_default-clause-copies g c clean has =
    let source = (state g.S.Store c.args.source.now).now in
    let missing : HasCleanDisk (state g.S.Store c.find_job.new.connection) → HasSchema source → job_at source c.args.account (pos c.args.number) ≡ None = λ source_clean source_has.
    c.in_ok-job.ensures.found source_clean source_has ∙ ap (option_map (job_cells c.args.account)) c.in_default.is in
    (has, λ source_clean source_has. copies_none c.args.account source (state g.T.Store c.args.savepoint.now.conn.now).now (HasWholeJob c.args.number) (job_missing c.args.account source c.args.number (missing source_clean source_has)))

pub returns-clause-copies : goal.returns-clause-copies
returns-clause-copies g c clean =
    let source = (state g.S.Store c.args.source.now).now in
    let before = (state g.T.Store c.args.savepoint.now.conn.now).now in
    let mid = state g.T.Store c.put_job.new.savepoint.conn.now in
    let after = (state g.T.Store c.copy_documents.new.savepoint.conn.now).now in
    let name = c.args.account in
    let k = c.args.number in
    let mid_clean : HasCleanDisk mid = omega (arith, c.copy_documents.ensures.inside.survives.clean, clean) in
    on_ok_with c.copy_documents.result (λ copies has.
    let set = c.in_ok-put_job.ensures.sets mid_clean has in
    let more = copies set.0 in (
      more.0,
      λ source_clean source_has.
          let found_clean : HasCleanDisk (state g.S.Store c.find_job.new.connection) = omega (arith, c.copy_documents.ensures.reads.keeps.clean, source_clean) in
          let same = (c.in_ok-job.ensures.reads.same found_clean source_has).now in
          let there : job_at source name (pos k) ≡ Some (job_cells name c.in-Some.job) = c.in_ok-job.ensures.found found_clean source_has ∙ ap (option_map (job_cells name)) c.in-Some.is in
          let one : CopiesMore name (HasJob k) source before mid.now = job_copied name source before mid.now k c.in-Some.job there set.1 in
          let two : CopiesMore name (HasDocuments k) source mid.now after = subst (λ (db : Database). CopiesMore name (HasDocuments k) db mid.now after) same (more.1 source_clean (subst HasSchema (sym same) source_has)) in
          copies_then name source (HasJob k) (HasDocuments k) (HasWholeJob k) before mid.now after (job_lasts k) (with_documents k) one two,
    ))
    (c.copy_documents.ensures.copies clean)

pub returns-clause-inside : goal.returns-clause-inside
returns-clause-inside g c = kept_then c.args.savepoint.now c.put_job.new.savepoint c.copy_documents.new.savepoint _ c.copy_documents.result (kept_by_write _ _ _ c.in_ok-put_job.ensures.inside) c.copy_documents.ensures.inside

pub returns-clause-reads : goal.returns-clause-reads
returns-clause-reads g c = reads_again g.S.Store c.args.source.now c.find_job.new.connection c.copy_documents.new.source _ c.copy_documents.result c.in_ok-job.ensures.reads c.copy_documents.ensures.reads

pub returns-in_err-job-clause-damaged : goal.returns-in_err-job-clause-damaged
returns-in_err-job-clause-damaged g c clean has is_damaged read =
    let told = err_from_is_err_and c.from_residual.result c.from_residual.ensures.1 in
    let fault : c.in_err-job.field-0.0 ≡ Damaged = sym told.2 ∙ same_fault (sym told.1 ∙ is_damaged) in
    c.in_err-job.ensures.damaged clean has (ap Err fault) (read.jobs c.args.number)

pub returns-in_err-put_job-clause-damaged : goal.returns-in_err-put_job-clause-damaged
returns-in_err-put_job-clause-damaged g c clean has is_damaged read =
    let told = err_from_is_err_and c.from_residual-in_err-put_job.result c.from_residual-in_err-put_job.ensures.1 in
    let fault : c.in_err-put_job.field-0.0 ≡ Damaged = sym told.2 ∙ same_fault (sym told.1 ∙ is_damaged) in
    c.in_err-put_job.ensures.undamaged (ap Err fault)

pub returns-clause-damaged : goal.returns-clause-damaged
returns-clause-damaged g c clean has is_damaged read =
    let before : HasCleanDisk (state g.S.Store c.find_job.new.connection) = omega (arith, c.copy_documents.ensures.reads.keeps.clean, clean) in
    let same = (c.in_ok-job.ensures.reads.same before has).now in
    c.copy_documents.ensures.damaged clean (subst HasSchema (sym same) has) is_damaged (subst (λ (db : Database). AccountsRead db c.args.account) (sym same) read)
