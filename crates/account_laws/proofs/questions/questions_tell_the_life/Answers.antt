use Rattle.account_laws.proofs.AgainTold.{again_is_told}
use Rattle.account_laws.proofs.EachQuestion.{each_question_is_told}
use Rattle.account_laws.proofs.JobLinesTold.{ended_are_told, jobs_are_told, waiting_is_told}
use Rattle.account_laws.proofs.LinesTold.{accounts_are_listed, devices_are_told, grants_are_told, left_is_told, others_are_told}
use Rattle.account_laws.proofs.QuestionsTold as proof
use Rattle.account_laws.proofs.StatementsTold.{statements_are_told}
use Rattle.account_laws.proofs.questions.questions_tell_the_life.Goals as goal

pub returns : goal.returns
returns c = record {
  life = proof.questions_tell_the_life;
  left = left_is_told;
  statement = statements_are_told;
  jobs = jobs_are_told;
  ended = ended_are_told;
  grants = grants_are_told;
  devices = devices_are_told;
  waiting = waiting_is_told;
  again = again_is_told;
  others = others_are_told;
  accounts = accounts_are_listed;
  each = each_question_is_told;
}
