use Rattle.room_serve.specs.Connections.{TakesLivesOn}
use Rattle.cli_program.proofs.listening.serve_connections.Given as goal

abbrev pub invariant-connections : goal.invariant-connections
invariant-connections g l = TakesLivesOn g.S.Store l.fn.store l.store
