-- Connections of HTTP, one message after another, as `listen` serves them (all this project's own).
use Rattle.std.specs.List.{AllByRecursion}
use Rattle.std.specs.Prelude.{◌≡◌, ◌⊎◌, ℕ, ◌≤◌, Bool, true, false, List, [], ◌∷◌, ◌++◌, length, Option, Result, Ok, Err}
use Rattle.sqlite.specs.Held.{Held, state}
use Rattle.sqlite_trees.specs.declared.store.Store.{Ghosts}
use Rattle.account_machine.specs.Events.{Timed, OfAccount, Ipp}
use Rattle.listen_http.specs.declared.fault.WireFault.{WireFault}
use Rattle.account_lives.specs.Lives.{Life}
use Rattle.rows_tables.specs.Calls.{IfOurTables}
use Rattle.room_serve.specs.Exchanges.{Answers, Breaks}
use Rattle.room_serve.specs.LivesInFiles.{IsLifeIn, exchanges_of}
use Rattle.room_serve.specs.Runs.{AreApplied}
use Rattle.room_serve.specs.Wires.{reader_of, wire_has_ended, writer_of}
use Rattle.room_serve.specs.declared.outcome.Outcome.{Outcome}
use Rattle.room_serve.specs.declared.wire.After.{After}
use Rattle.room_serve.specs.declared.wire.Wire.{Wire}

-- a request of an account
abbrev pub IsMessage : Timed → Type 0
IsMessage (now, OfAccount account (Ipp body)) = Unit {0}
IsMessage _ = ⊥

module _ {S : Type 0} (store : Ghosts S) where
  module _ {R W : Type 0} (left : R → List ℕ → Type 0) (given : W → Option (List ℕ)) where
    -- what a call of `serve_one` came to, at a moment
    abbrev pub CameTo : (now : ℕ) → Result After WireFault → (first last : Wire R W)
        (old new : Held S) → Type 0
    CameTo now (Ok after) first last old new =
        Answers store now (left (reader_of first)) (left (reader_of last))
        (given (writer_of first)) (given (writer_of last)) old new after
    CameTo now (Err fault) first last old new =
        Breaks store now (left (reader_of first)) (left (reader_of last))
        (given (writer_of first)) (given (writer_of last)) old new fault

    -- Calls came to these, one after another. Each goes on from the connection and the tables as the
    -- one before left them, and finds that the connection has not ended.
    abbrev pub AreCalls : (calls : List (ℕ × Result After WireFault)) (first last : Wire R W)
        (old new : Held S) → Type 0
    AreCalls [] first last old new = (last ≡ first) × (new ≡ old)
    AreCalls ((now, result) ∷ calls) first last old new = (wire_has_ended first ≡ false)
        × ((wire : Wire R W) × (next : Held S)
        × CameTo now result first wire old next × AreCalls calls wire last next new)

    -- All that became of a connection and of the tables is such calls, of so many at most. Where all
    -- went well they are so many, or the connection has ended.
    pub record ServesMessages (most : ℕ) (went_well : Bool) (first last : Wire R W)
        (old new : Held S) : Type 0 where
      pub calls : List (ℕ × Result After WireFault)
      pub are : AreCalls calls first last old new
      pub at_most : length calls ≤ most
      pub to_the_end : went_well ≡ true
          → (wire_has_ended last ≡ true) ⊎ (length calls ≡ most)

  -- Messages were applied, each once, one after another, and nothing else. So what an account was
  -- told before, and behind it what it was told here, is a life, and the rows are what that left.
  pub record TakesLivesOn (old new : Held S) : Type 0 where
    pub events : List Timed
    pub outcomes : List Outcome
    pub messages : AllByRecursion IsMessage events
    pub applied : AreApplied store events outcomes old new
    pub lives : IfOurTables store old new (λ db. (name : List ℕ) (life : Life)
        → IsLifeIn db true name life
        → IsLifeIn (state store new).now (state store new).is_open name
        (life ++ exchanges_of name events outcomes))
