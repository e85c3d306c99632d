use Rattle.account_laws.proofs.PagesTold.{devices_pages_are_told}
use Rattle.account_laws.proofs.questions.pages_tell_the_life.Goals as goal

pub returns-clause-devices : goal.returns-clause-devices
returns-clause-devices c = devices_pages_are_told
