-- The headline: what others ask makes no difference to an account (all this project's own).
use Rattle.std.specs.Prelude.{◌≡◌, ℕ, Bool, List, length, IsTrue, true, ◌++◌}
use Rattle.sqlite.specs.Effect.{Database}
use Rattle.rows_tables.specs.Accounts.{IsSound}
use Rattle.rows_tables.specs.Devices.{AreSoundDevices}
use Rattle.room_serve.specs.declared.outcome.Outcome.{Outcome}
use Rattle.account_machine.specs.Events.{Timed}
use Rattle.room_serve.specs.Own.{is_of, own}
use Rattle.room_serve.specs.Outcomes.{NoneFailed, replies_to}
use Rattle.room_serve.specs.Runs.{RunsAlone}
use Rattle.rows_tables.specs.Agreement.{Agree}

-- a list of events, what each came to, and what that made of the database, as `run_events` has it
pub record IsRun (events : List Timed) (outcomes : List Outcome) (old : Database) (is_open : Bool)
    (new : Database) : Type 0 where
  pub each : length outcomes ≡ length events
  pub alone : RunsAlone events outcomes old is_open new

-- the account was told the same in both, and where both can still be seen they agree again
pub record AreTheSame (name : List ℕ) (first second : List Timed) (firsts seconds : List Outcome)
    (a_open b_open : Bool) (a b : Database) : Type 0 where
  pub replies : replies_to (is_of name) first firsts ≡ replies_to (is_of name) second seconds
  pub agree : IsTrue a_open → IsTrue b_open → Agree name a b

abbrev pub Isolation : Type 0
Isolation =
    (first second : List Timed) (firsts seconds : List Outcome)
    (a b a_new b_new : Database) (a_open b_open : Bool)
    → IsRun first firsts a a_open a_new → IsRun second seconds b b_open b_new
    → (name : List ℕ) → IsSound a name → AreSoundDevices a
    → Agree name a b → own name first ≡ own name second
    → NoneFailed name first firsts → NoneFailed name second seconds
    → AreTheSame name first second firsts seconds a_open b_open a_new b_new

-- Two runs in a row, of which the first left the connection open, are one run of both lists: so an
-- account's life goes on from run to run, as from process to process over one file.
abbrev pub RunsJoin : Type 0
RunsJoin =
    (first second : List Timed) (firsts seconds : List Outcome) (a b c : Database) (is_open : Bool)
    → IsRun first firsts a true b → IsRun second seconds b is_open c
    → IsRun (first ++ second) (firsts ++ seconds) a is_open c
