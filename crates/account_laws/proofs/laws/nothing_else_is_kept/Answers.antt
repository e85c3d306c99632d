use Rattle.account_laws.proofs.DocumentsKept.{documents_go_with_their_jobs}
use Rattle.account_laws.proofs.laws.nothing_else_is_kept.Goals as goal

pub returns-clause-documents : goal.returns-clause-documents
returns-clause-documents c = documents_go_with_their_jobs
