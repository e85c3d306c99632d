use Rattle.std.proofs.Common.{length}
use Rattle.cli_words.proofs.command.+ask_for_help.Given as goal

abbrev pub decreases-ask_for_help : goal.decreases-ask_for_help
decreases-ask_for_help l = length l.words.now
