use Rattle.account_laws.proofs.ItsOwnJob as proof
use Rattle.account_laws.proofs.printing.its_own_job_only.Goals as goal

pub returns : goal.returns
returns c = record { own = proof.its_own_job_only; none = proof.reads_and_refusals_do_nothing }
