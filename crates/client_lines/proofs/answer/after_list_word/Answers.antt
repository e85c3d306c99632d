use Rattle.std.proofs.Common.{rules}
use Rattle.client_lines.specs.Answers.{after_list_word}
use Rattle.client_lines.proofs.answer.after_list_word.Goals as goal

pub returns : goal.returns
unfolding after_list_word
returns c = search rules
