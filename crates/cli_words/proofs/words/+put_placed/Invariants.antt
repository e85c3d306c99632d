use Rattle.std.proofs.Common.{length}
use Rattle.cli_words.proofs.words.+put_placed.Given as goal

abbrev pub decreases-put_placed : goal.decreases-put_placed
decreases-put_placed l = length l.words.now
