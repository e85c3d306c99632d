use Rattle.std.proofs.Common.{sym, rules}
use Rattle.input_lines.proofs.Taken.{take_last, take_up_to}
use Rattle.input_lines.proofs.fields.Fields.take.Goals as goal

pub returns-in-Some : goal.returns-in-Some
returns-in-Some c = record { took = take_up_to _ c.in_ok-rest.rest.now c.in-Some.end (search rules) (sym c.in-Some.ensures.place) }

pub returns-in-None : goal.returns-in-None
returns-in-None c = record { took = take_last _ c.in_ok-rest.rest.now (search rules) (sym c.in-None.ensures.place) }
