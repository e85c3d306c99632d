use Rattle.account_laws.proofs.SpelledBytes as proof
use Rattle.account_laws.proofs.requests.messages_are_in_bytes.Goals as goal

pub returns-clause-messages : goal.returns-clause-messages
returns-clause-messages c = proof.messages_are_in_bytes

pub returns-clause-texts : goal.returns-clause-texts
returns-clause-texts c = proof.texts_are_in_bytes
