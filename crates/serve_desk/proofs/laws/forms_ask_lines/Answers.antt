use Rattle.std.proofs.Common.{refl}
use Rattle.serve_desk.proofs.FormsAsk.{forms_ask_their_lines}
use Rattle.serve_desk.proofs.laws.forms_ask_lines.Goals as goal

pub returns-clause-asks : goal.returns-clause-asks
returns-clause-asks g c = forms_ask_their_lines g.S.Store

pub returns-clause-as_lines : goal.returns-clause-as_lines
returns-clause-as_lines g c = λ operator line. record { event = refl; moment = refl; by = refl }
