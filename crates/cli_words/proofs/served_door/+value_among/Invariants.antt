use Rattle.std.proofs.Common.{length}
use Rattle.cli_words.proofs.served_door.+value_among.Given as goal

abbrev pub decreases-value_among : goal.decreases-value_among
decreases-value_among l = length l.options.now
