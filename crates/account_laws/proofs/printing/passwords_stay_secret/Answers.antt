use Rattle.account_laws.proofs.HiddenQuestions.{passwords_stay_secret_in_questions}
use Rattle.account_laws.proofs.OtherPasswords.{alike_but_for_password}
use Rattle.account_laws.proofs.PasswordsStaySecret as proof
use Rattle.account_laws.proofs.WrongGuesses.{wrong_passwords_open_nothing}
use Rattle.account_laws.proofs.printing.passwords_stay_secret.Goals as goal

pub returns : goal.returns
returns c = record {
  secret = proof.passwords_stay_secret;
  questions = passwords_stay_secret_in_questions;
  bodies = alike_but_for_password;
  wrong = wrong_passwords_open_nothing;
}
