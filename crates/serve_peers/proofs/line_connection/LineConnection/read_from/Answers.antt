use Rattle.std.proofs.KnownBytes.{Keeps-refl}
use Rattle.serve_peers.proofs.LineEnds.{on_err}
use Rattle.serve_peers.proofs.line_connection.LineConnection.read_from.Goals as goal

pub returns-in_err-reserve-clause-left : goal.returns-in_err-reserve-clause-left
returns-in_err-reserve-clause-left g c = on_err _ _ (Keeps-refl (g.R.Read.remaining c.args.reader.now))
