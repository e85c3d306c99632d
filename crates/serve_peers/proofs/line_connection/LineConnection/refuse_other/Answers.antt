use Rattle.std.proofs.Common.{inr, subst, sym}
use Rattle.serve_peers.specs.ProofServices.{stays}
use Rattle.serve_peers.specs.Turns.{Continues}
use Rattle.serve_peers.specs.declared.served.Served.{Served}
use Rattle.serve_peers.proofs.LineEnds.{on_err, takes_refused}
use Rattle.serve_peers.proofs.line_connection.LineConnection.refuse_other.Goals as goal

pub returns-in_err-why-clause-continues : goal.returns-in_err-why-clause-continues
returns-in_err-why-clause-continues g c = stays g.S.Store c.args.served.now

pub returns-in_err-put_refused-clause-continues : goal.returns-in_err-put_refused-clause-continues
returns-in_err-put_refused-clause-continues g c = subst (λ (served : Served _). Continues g.S.Store c.args.served.now served) (sym c.log_refused_line.ensures) (stays g.S.Store c.args.served.now)

pub returns-clause-continues : goal.returns-clause-continues
returns-clause-continues g c = subst (λ (served : Served _). Continues g.S.Store c.args.served.now served) (sym c.log_refused_line.ensures) (stays g.S.Store c.args.served.now)

pub returns-in_err-put_refused-clause-lost : goal.returns-in_err-put_refused-clause-lost
returns-in_err-put_refused-clause-lost g c = on_err _ _ (inr (_, takes_refused g.S.Store _ _ _ _ _ c.in_ok-why.why c.requires.first c.requires.plain c.advance.ensures.items c.requires.other c.log_refused_line.ensures))

pub returns-clause-taken : goal.returns-clause-taken
returns-clause-taken g c = (_, takes_refused g.S.Store _ _ _ _ _ c.in_ok-why.why c.requires.first c.requires.plain c.advance.ensures.items c.requires.other c.log_refused_line.ensures, c.in_ok-put_refused.ensures)
