use Rattle.account_laws.proofs.SpelledAsks.{asks_are_spelled}
use Rattle.account_laws.proofs.TakenAsks.{spelled_asks_are_taken}
use Rattle.account_laws.proofs.requests.asks_are_spelled.Goals as goal

pub returns : goal.returns
returns c = record { spelled = asks_are_spelled; taken = spelled_asks_are_taken }
