use Rattle.account_laws.proofs.StatementsAddUp as proof
use Rattle.account_laws.proofs.quota_account.statements_add_up.Goals as goal

pub returns : goal.returns
returns c = proof.statements_add_up
