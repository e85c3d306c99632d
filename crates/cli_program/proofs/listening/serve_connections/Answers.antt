use Rattle.room_serve.proofs.Carried.{both_go_on, nothing_applied}
use Rattle.cli_program.proofs.listening.serve_connections.Goals as goal

pub returns-in_err-listener : goal.returns-in_err-listener
returns-in_err-listener g c = record { lives = nothing_applied g.S.Store c.args.store.now }

pub returns-in_err-writeln : goal.returns-in_err-writeln
returns-in_err-writeln g c = record { lives = nothing_applied g.S.Store c.args.store.now }

pub returns-in_err-flush : goal.returns-in_err-flush
returns-in_err-flush g c = record { lives = nothing_applied g.S.Store c.args.store.now }

pub connections-init : goal.connections-init
connections-init g c = nothing_applied g.S.Store c.args.store.now

pub connections-preserved : goal.connections-preserved
connections-preserved g c = both_go_on g.S.Store c.args.store.now c.connections.store c.serve_connection.new.store c.connections.invariant c.serve_connection.ensures.lives
