use Rattle.std.proofs.Common.{ℕ, Bool, List, Option}
use Rattle.sqlite.specs.Held.{Held}
use Rattle.sqlite_trees.specs.declared.store.Store.{Ghosts}
use Rattle.room_serve.proofs.Carried.{calls_go_on, nothing_applied}
use Rattle.room_serve.specs.Connections.{ServesMessages, TakesLivesOn}
use Rattle.room_serve.specs.declared.wire.Wire.{Wire}
use Rattle.cli_program.proofs.listening.serve_connection.Goals as goal

lives_on : {S R W : Type 0} (store : Ghosts S) (left : R → List ℕ → Type 0) (given : W → Option (List ℕ)) (most : ℕ) (went_well : Bool) (first last : Wire R W) (old new : Held S) → ServesMessages store left given most went_well first last old new → TakesLivesOn store old new
lives_on store left given most went_well first last old new is = calls_go_on store left given is.calls first last old new is.are

pub returns-in_err-set_nodelay : goal.returns-in_err-set_nodelay
returns-in_err-set_nodelay g c = record { lives = nothing_applied g.S.Store c.args.store.now }

pub returns-in_err-set_read_timeout : goal.returns-in_err-set_read_timeout
returns-in_err-set_read_timeout g c = record { lives = nothing_applied g.S.Store c.args.store.now }

pub returns-in_err-set_write_timeout : goal.returns-in_err-set_write_timeout
returns-in_err-set_write_timeout g c = record { lives = nothing_applied g.S.Store c.args.store.now }

pub returns-in_err-reader : goal.returns-in_err-reader
returns-in_err-reader g c = record { lives = nothing_applied g.S.Store c.args.store.now }

pub returns-then-serve_messages : goal.returns-then-serve_messages
returns-then-serve_messages g c = record { lives = lives_on g.S.Store _ _ _ _ _ _ _ _ c.serve_messages.ensures.calls }

pub returns : goal.returns
returns g c = record { lives = lives_on g.S.Store _ _ _ _ _ _ _ _ c.serve_messages.ensures.calls }
