use Rattle.serve_sockets.proofs.LinesAsk.{lines_ask, messages_ask}
use Rattle.serve_sockets.proofs.laws.lines_ask_what_they_say.Goals as goal

pub returns : goal.returns
returns c = record { lines = lines_ask; messages = messages_ask }
