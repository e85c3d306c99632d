use Rattle.std.proofs.Common.{◌≤◌, length, map, take}
use Rattle.std.specs.Vec.{vec_capacity}
use Rattle.sqlite.specs.Held.{state}
use Rattle.account_machine.specs.Events.{plain_timed}
use Rattle.room_serve.proofs.RunLemmas.{SoFar}
use Rattle.room_serve.specs.Runs.{AreApplied}
use Rattle.room_serve.proofs.run.run_events.Given as goal

-- the events so far are run, and there is room for the outcomes of all
pub record Runs (so_far : Type 0) (each : Type 0) (room : Type 0) : Type 0 where
  pub run : so_far
  pub applied : each
  pub fits : room

abbrev pub invariant-loop-now : goal.invariant-loop-now
invariant-loop-now g l = Runs (SoFar (map plain_timed (take l.now-index l.events)) l.outcomes.items (state g.S.Store l.fn.store) (state g.S.Store l.store)) (AreApplied g.S.Store (map plain_timed (take l.now-index l.events)) l.outcomes.items l.fn.store l.store) (length l.events ≤ vec_capacity l.outcomes)
