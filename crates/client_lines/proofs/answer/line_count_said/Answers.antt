use Rattle.client_lines.proofs.LineCounts.{line_count_is}
use Rattle.client_lines.proofs.answer.line_count_said.Goals as goal

pub returns : goal.returns
returns c = line_count_is c.number.result c.args.text.now c.number.ensures
