-- For the proof of the code alone: the steps of a peer that speaks lines, of which nothing is
-- applied in all but one.
use Rattle.std.specs.Prelude.{◌≡◌, ◌≢◌, ◌⊎◌, ◌<◌, ℕ, false, true, List, [], ◌++◌, length, None, Option, Some, IsTrue}
use Rattle.std.specs.Io.KnownBytes.{Appends, Consumes}
use Rattle.sqlite_trees.specs.declared.store.Store.{Ghosts}
use Rattle.serve_peers.specs.Lines.{BeginsNoText, ended_of, input_of, line_end, output_of, received_of, sent_of, side_of}
use Rattle.serve_peers.specs.LineTexts.{bad_line_text}
use Rattle.serve_peers.specs.declared.line_connection.LineConnection.{LineConnection}
use Rattle.serve_peers.specs.declared.served.Served.{Served}
use Rattle.serve_peers.specs.LinePeers.{TakesLines}
use Rattle.serve_peers.specs.Streams.{Ends}
use Rattle.serve_peers.specs.declared.step.Next.{Next}
use Rattle.serve_peers.specs.declared.step.Next.TheVariants.{Close}

-- bytes came
pub record ReceivesBytes (left left2 : Option (List ℕ)) (before after : LineConnection)
    : Type 0 where
  pub came : List ℕ
  pub reads : Consumes left left2 came
  pub input : input_of after ≡ input_of before ++ came
  pub output : output_of after ≡ output_of before
  pub side : side_of after ≡ side_of before
  pub received : received_of after ≡ received_of before ++ came
  pub sent : sent_of after ≡ sent_of before
  pub goes_on : ended_of before ≡ false

-- bytes went
pub record SendsBytes (given given2 : Option (List ℕ)) (before after : LineConnection)
    : Type 0 where
  pub went : List ℕ
  pub writes : Appends given given2 went
  pub input : input_of after ≡ input_of before
  pub output : output_of before ≡ went ++ output_of after
  pub side : side_of after ≡ side_of before
  pub received : received_of after ≡ received_of before
  pub sent : sent_of after ≡ sent_of before ++ went
  pub ended : ended_of after ≡ ended_of before

-- no line feed ends it, or its first line has a control character
abbrev pub IsNoLine : (input : List ℕ) → Type 0
IsNoLine input = (line_end input ≡ None) ⊎ BeginsNoText input

-- what is left is no line; a connection that is over may have lost what tells so
pub record RefusesRest (next : Option Next) (before after : LineConnection) : Type 0 where
  pub input : input_of after ≡ []
  pub output : next ≢ Some Close → output_of after ≡ output_of before ++ bad_line_text
  pub side : side_of after ≡ side_of before
  pub received : received_of after ≡ received_of before
  pub sent : sent_of after ≡ sent_of before
  pub some : 0 < length (input_of before)
  pub none : IsNoLine (input_of before)
  pub ended : IsTrue (ended_of after)

-- no more comes: all was said, or what is left is told to be no line
abbrev pub IsEnded : (next : Option Next) (before after : LineConnection) → Type 0
IsEnded next before after =
    (after ≡ record before { has_ended = true }) ⊎ RefusesRest next before after

module _ {S : Type 0} (store : Ghosts S) where
  -- what one step comes to; a connection that is over may lose what waits to go
  abbrev pub TakesStep : (ends ends2 : Ends) (next : Option Next) (before after : LineConnection)
      (old new : Served S) → Type 0
  TakesStep ends ends2 next before after old new =
      (waits : List ℕ) × TakesLines store ends ends2 before after waits old new
      × (next ≢ Some Close → waits ≡ output_of after)
