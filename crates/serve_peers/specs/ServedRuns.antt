-- What was served is run as a list of events (all this project's own).
use Rattle.std.specs.Prelude.{List, IsTrue}
use Rattle.sqlite.specs.Held.{Held, state}
use Rattle.sqlite_trees.specs.declared.store.Store.{Ghosts}
use Rattle.rows_tables.specs.Calls.{IfOurTables, KeepsConnection}
use Rattle.rows_tables.specs.Keyed.{HasSchema}
use Rattle.room_serve.specs.Runs.{LeavesTheRest, RunsAlone, RunsDevices}
use Rattle.serve_peers.specs.Journals.{Round, Told, events_of, kept_in, outcomes_of}
use Rattle.serve_peers.specs.Rounds.{AllSettle}

module _ {S : Type 0} (store : Ghosts S) where
  -- from any tables on, as `run_events` has it
  pub record IsRunOf (more : List Told) (old new : Held S) : Type 0 where
    pub alone : IfOurTables store old new (λ db. RunsAlone (events_of more) (outcomes_of more)
        db (state store new).is_open (state store new).now)
    pub devices : IfOurTables store old new (λ db. RunsDevices (events_of more) (outcomes_of more)
        db (state store new).is_open (state store new).now)
    pub rest : IfOurTables store old new (λ db. IsTrue (state store new).is_open →
        LeavesTheRest (events_of more) (outcomes_of more) db (state store new).is_open
        (state store new).now)
    pub schema : IfOurTables store old new
        (λ db. IsTrue (state store new).is_open → HasSchema (state store new).now)
    pub connection : KeepsConnection (state store old) (state store new)

  -- kept rounds in a row are one list, and a lost one is nothing
  abbrev pub AlwaysRuns : Type 0
  AlwaysRuns = (rounds : List Round) (old new : Held S) → AllSettle store old rounds new
      → IsRunOf (kept_in rounds) old new
