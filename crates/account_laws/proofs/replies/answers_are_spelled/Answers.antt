use Rattle.account_laws.proofs.ListedJobs.{jobs_are_in_order}
use Rattle.account_laws.proofs.SpelledAnswers as proof
use Rattle.account_laws.proofs.ToldIntegers.{integers_fit}
use Rattle.account_laws.proofs.replies.answers_are_spelled.Goals as goal

pub returns : goal.returns
returns c = record { spelled = proof.answers_are_spelled; order = jobs_are_in_order; integers = integers_fit; failures = proof.failures_are_spelled }
