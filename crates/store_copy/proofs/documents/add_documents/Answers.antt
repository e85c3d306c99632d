use Rattle.std.proofs.Common.{◌++◌, ◌∷◌, [], List, take, sym, ap, ◌∙◌, subst, refl, arith, ◌≡◌, Err}
use Rattle.std.proofs.lemmas.List.{take_more}
use Rattle.std.proofs.lemmas.Result.{err_from_is_err_and}
use Rattle.sqlite.specs.Held.{state}
use Rattle.sqlite.specs.State.{HasCleanDisk}
use Rattle.account_rules.specs.declared.job.Document.{Document}
use Rattle.rows_tables.specs.Cells.{document_cells}
use Rattle.rows_tables.specs.Keyed.{SetsRow}
use Rattle.rows_tables.specs.Tables.{document as document_table}
use Rattle.store_copy.specs.ProofRows.{AddsDocuments}
use Rattle.store_copy.proofs.PartRows.{document_added}
use Rattle.store_copy.proofs.SavepointKept.{kept_by_write, kept_itself, kept_then, kept_refused_as, kept_answered_as}
use Rattle.rows_tables.specs.declared.fault.TableFault.TheVariants.{Damaged}
use Rattle.rows_tables.proofs.KeyedRows.{same_fault}
use Rattle.store_copy.proofs.documents.add_documents.Goals as goal

pub loop-document-init : goal.loop-document-init
loop-document-init g c = (kept_itself tt c.args.savepoint.now, λ clean has. (has, refl))

pub returns-in_err-put_document-clause-inside : goal.returns-in_err-put_document-clause-inside
returns-in_err-put_document-clause-inside g c =
    let told = err_from_is_err_and c.from_residual.result c.from_residual.ensures.1 in
    kept_refused_as _ _ c.in_err-put_document.field-0.0 _ _ told.1 (kept_then _ _ _ _ _ c.loop-document.invariant.0 (kept_by_write _ _ _ c.in_err-put_document.ensures.inside))

pub loop-document-preserved : goal.loop-document-preserved
loop-document-preserved g c =
    let all = c.args.documents.now in
    let old = state g.T.Store c.args.savepoint.now.conn.now in
    let mid = state g.T.Store c.loop-document.savepoint.conn.now in
    let new = state g.T.Store c.put_document.new.savepoint.conn.now in
    let item : Document = c.document-item.result in
    let write = kept_by_write _ _ _ c.in_ok-put_document.ensures.inside in (
      kept_answered_as _ _ _ tt (kept_then _ _ _ _ _ c.loop-document.invariant.0 write),
      λ clean has.
          let before : HasCleanDisk mid = omega (arith, write.survives.clean, clean) in
          let so_far = c.loop-document.invariant.1 before has in
          let set = c.in_ok-put_document.ensures.sets clean so_far.0 in
          let sets : SetsRow document_table (document_cells c.args.account (record item { job = c.args.job })) mid.now new.now = set.1 in
          let added = document_added c.args.account c.args.job (take c.loop-document.document-index all) item old.now mid.now new.now so_far.1 sets in (
            set.0,
            subst (λ (l : List Document). AddsDocuments c.args.account c.args.job l old.now new.now)
                (ap (λ (it : Document). take c.loop-document.document-index all ++ it ∷ []) c.document-item.is ∙ sym (take_more all c.loop-document.document-index item c.loop-document-test.true)) added,
          ),
    )

pub returns-in_err-put_document-clause-undamaged : goal.returns-in_err-put_document-clause-undamaged
returns-in_err-put_document-clause-undamaged g c is_damaged =
    let told = err_from_is_err_and c.from_residual.result c.from_residual.ensures.1 in
    let fault : c.in_err-put_document.field-0.0 ≡ Damaged = sym told.2 ∙ same_fault (sym told.1 ∙ is_damaged) in
    c.in_err-put_document.ensures.undamaged (ap Err fault)
