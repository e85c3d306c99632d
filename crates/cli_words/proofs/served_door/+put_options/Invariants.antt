use Rattle.std.proofs.Common.{length}
use Rattle.cli_words.proofs.served_door.+put_options.Given as goal

abbrev pub decreases-put_options : goal.decreases-put_options
decreases-put_options l = length l.options.now
