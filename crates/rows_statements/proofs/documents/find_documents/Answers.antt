use Rattle.std.proofs.Common.{◌≡◌, ◌∙◌, List, sym, ap, subst, refl, Err, IfOk}
use Rattle.std.proofs.lemmas.Result.{err_from_is_err_and}
use Rattle.sqlite.specs.Held.{state}
use Rattle.account_rules.specs.declared.job.Document.{Document}
use Rattle.rows_statements.specs.declared.documents.Found.{Found}
use Rattle.rows_tables.specs.declared.fault.TableFault.TheVariants.{Damaged}
use Rattle.rows_tables.proofs.KeyedRows.{same_fault}
use Rattle.rows_statements.proofs.DocumentWalk.{lists_documents, documents_unsound, none_at}
use Rattle.rows_statements.proofs.documents.find_documents.Goals as goal

pub returns-in_err-walk_documents-clause-damaged : goal.returns-in_err-walk_documents-clause-damaged
returns-in_err-walk_documents-clause-damaged g c clean has is_damaged =
    let told = err_from_is_err_and c.from_residual.result c.from_residual.ensures.1 in
    let fault : c.in_err-walk_documents.field-0.0 ≡ Damaged = sym told.2 ∙ same_fault (sym told.1 ∙ is_damaged) in
    documents_unsound (λ (found : Found). found.job) (λ (found : Found). found.places) c.args.job (state g.R.S.Store (g.R.Reads.held c.args.connection.now)).now has c.args.account _ refl
    ((c.in_err-walk_documents.ensures.walks clean has).damaged (ap Err fault))

pub returns-clause-listed : goal.returns-clause-listed
returns-clause-listed g c clean has room held =
    let listed = lists_documents (λ (found : Found). found.job) (λ (found : Found). found.places) c.args.job (state g.R.S.Store (g.R.Reads.held c.args.connection.now)).now has c.args.account _ refl room held
    c.walk_documents.new.found refl (none_at 8) (c.in_ok-walk_documents.ensures.walks clean has).all in
    subst (λ (all : List Document). IfOk c.in_order.result (λ documents. documents ≡ all)) listed c.in_order.ensures.listed
