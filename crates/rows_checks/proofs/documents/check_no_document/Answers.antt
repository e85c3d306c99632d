use Rattle.std.proofs.Common.{◌≡◌, ℤ, None}
use Rattle.sqlite.specs.Held.{state}
use Rattle.rows_tables.specs.Accounts.{document_at}
use Rattle.rows_checks.proofs.NoKeys.{document_there, no_documents_there}
use Rattle.rows_checks.proofs.ReadsBefore.{on_ok_with}
use Rattle.rows_checks.proofs.documents.check_no_document.Goals as goal

pub returns-clause-none : goal.returns-clause-none
returns-clause-none g c clean has =
    let db = (state g.R.S.Store (g.R.Reads.held c.args.connection.now)).now in
    on_ok_with {Q = (y z : ℤ) → document_at db c.args.account y z ≡ None} c.walk_places.result (no_documents_there db has c.args.account _ _) (c.walk_places.ensures.walks clean has).all

pub returns-clause-damaged : goal.returns-clause-damaged
returns-clause-damaged g c clean has is_damaged =
    let db = (state g.R.S.Store (g.R.Reads.held c.args.connection.now)).now in
    document_there db has c.args.account _ _ _ ((c.walk_places.ensures.walks clean has).damaged is_damaged)
