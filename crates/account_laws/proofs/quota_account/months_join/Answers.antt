use Rattle.account_laws.proofs.StatementsAddUp as proof
use Rattle.account_laws.proofs.quota_account.months_join.Goals as goal

pub returns : goal.returns
returns c = proof.months_join
