-- That the log always tells what the journal has (all this project's own).
use Rattle.std.specs.Option.{ForSome}
use Rattle.sqlite_trees.specs.declared.store.Store.{Ghosts}
use Rattle.serve_log.specs.declared.waiting.Waiting.{Waiting}
use Rattle.serve_peers.specs.Journals.{open_of, rounds_of}
use Rattle.serve_peers.specs.Logged.{TellsRounds}
use Rattle.serve_peers.specs.declared.served.Served.{Served}

-- a log that is kept tells the rounds that are over, and drafts the one that is under way
abbrev pub IsLogged : {S : Type 0} → Served S → Type 0
IsLogged served = ForSome served.journal.log
    (λ (log : Waiting). TellsRounds log (rounds_of served) (open_of served))

-- whatever was served
abbrev pub AlwaysLogged : {S : Type 0} (store : Ghosts S) → Type 0
AlwaysLogged {S} store = (served : Served S) → IsLogged served
