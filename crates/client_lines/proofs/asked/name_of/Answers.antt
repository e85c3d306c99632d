use Rattle.std.proofs.Common.{rules, append_assoc}
use Rattle.client_lines.proofs.asked.name_of.Goals as goal

pub returns : goal.returns
returns c = search (rules, append_assoc)
