use Rattle.account_laws.proofs.HandedAgain.{handed_again_as_started}
use Rattle.account_laws.proofs.HandsAgain.{hands_again}
use Rattle.account_laws.proofs.printing.handed_again.Goals as goal

pub returns : goal.returns
returns c = record { alone = handed_again_as_started; always = hands_again }
