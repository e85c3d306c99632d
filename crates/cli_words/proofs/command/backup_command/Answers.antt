use Rattle.std.proofs.Common.{◌∙◌, ap}
use Rattle.cli_words.proofs.Placed.{SaysBackingUp-of}
use Rattle.cli_words.specs.Words.{texts}
use Rattle.cli_words.proofs.command.backup_command.Goals as goal

pub returns-clause-said : goal.returns-clause-said
returns-clause-said c =
    SaysBackingUp-of c.as_slice.result.now _ _ _ _ (ap texts c.as_slice.ensures.value ∙ c.in_ok-placed.ensures)
    c.in-len3.len_at_least c.in_ok-of.ensures.address c.in_ok-of.ensures.file
