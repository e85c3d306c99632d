-- What a connection of lines has taken and answered (all this project's own).
use Rattle.std.specs.Prelude.{◌≡◌, ◌≢◌, ◌⊎◌, ◌==◌, ◌<◌, ⊤, ℕ, Bool, false, List, [], ◌∷◌, ◌++◌, length, None, IsTrue}
use Rattle.std.specs.List.{All, flat_map}
use Rattle.sqlite_trees.specs.declared.store.Store.{Ghosts}
use Rattle.serve_peers.specs.Patience.{doing_of}
use Rattle.serve_peers.specs.declared.patience.Doing.TheVariants.{Holds}
use Rattle.serve_peers.specs.Lines.{BeginsNoText, IsTold, ended_of, has_control, input_of, line_end, output_of, received_of, sent_of, side_of}
use Rattle.serve_peers.specs.LineTexts.{bad_line_text}
use Rattle.serve_peers.specs.declared.line_connection.LineConnection.{LineConnection}
use Rattle.serve_peers.specs.declared.line_connection.Side.{Side}
use Rattle.serve_peers.specs.declared.served.Served.{Served}
use Rattle.serve_peers.specs.declared.line_peer.LinePeer.{LinePeer}
use Rattle.serve_peers.specs.declared.patience.Patience.{Patience}
use Rattle.serve_peers.specs.declared.step.Next.{Next}
use Rattle.serve_peers.specs.declared.step.Next.TheVariants.{Close}
use Rattle.serve_peers.specs.Streams.{Carry, Ends}

abbrev pub lines_of : LinePeer → LineConnection
lines_of peer = peer.connection

abbrev pub patience_of : LinePeer → Patience
patience_of peer = peer.progress.patience

-- all was said, and what still comes is dropped
abbrev pub has_parted : LinePeer → Bool
has_parted peer = peer.progress.parts

-- it has to send something next: no answer waits to go, and no line waits for memory
abbrev pub HasToSend : LinePeer → Type 0
HasToSend peer = (output_of (lines_of peer) ≡ []) × (doing_of (patience_of peer) ≢ Holds)

-- a line as it came, with what ended it, and what was told
abbrev pub LineCall : Type 0
LineCall = List ℕ × List ℕ

abbrev pub taken : List LineCall → List ℕ
taken calls = flat_map (λ (call : LineCall). call.0) calls

abbrev pub bytes_told : List LineCall → List ℕ
bytes_told calls = flat_map (λ (call : LineCall). call.1) calls

-- ---- one answer for one line

-- no byte of it is a line feed
abbrev pub HasNoFeed : List ℕ → Type 0
HasNoFeed bytes = All (λ b. (b == 10) ≡ false) bytes

-- one line of text, with no control character, and the line feed that ends it
abbrev pub IsLine : (came : List ℕ) → Type 0
IsLine came = (line : List ℕ) × (came ≡ line ++ 10 ∷ []) × HasNoFeed line
    × (has_control line ≡ false)

-- what no line feed ends, or whose first line has a control character; told once to be no line
abbrev pub IsRest : LineCall → Type 0
IsRest call = (0 < length call.0) × (HasNoFeed call.0 ⊎ BeginsNoText call.0)
    × (call.1 ≡ bad_line_text)

-- Each is one line. Where nothing more comes the last may be a rest.
abbrev pub AreLines : (over : Type 0) → List LineCall → Type 0
AreLines over [] = ⊤
AreLines over (call ∷ calls) = (IsLine call.0 × AreLines over calls)
    ⊎ (IsRest call × (calls ≡ []) × over)

-- Each was taken once all that was told before had gone: but for what is told of the last, all went.
abbrev pub TakenBehind : (waited : List ℕ) (calls : List LineCall) (went : List ℕ) → Type 0
TakenBehind waited calls went = (calls ≡ []) ⊎ ((front : List LineCall) × (last : LineCall)
    × (rest : List ℕ) × (calls ≡ front ++ last ∷ [])
    × (went ≡ (waited ++ bytes_told front) ++ rest))

-- nothing more comes on it, and nothing that came is left
abbrev pub IsOver : LineConnection → Type 0
IsOver connection = IsTrue (ended_of connection) × (length (input_of connection) ≡ 0)

module _ {S : Type 0} (store : Ghosts S) (side : Side) where
  -- what each line says is applied, once, and told, or it asks a question, which is answered, or it is
  -- refused, which changes nothing, and is told of
  abbrev pub Chain : Served S → List LineCall → Served S → Type 0
  Chain old [] new = new ≡ old
  Chain old (call ∷ calls) new = (next : Served S)
      × IsTold store side call.0 old call.1 next × Chain next calls new

module _ {S : Type 0} (store : Ghosts S) where
  -- Bytes came, and the lines in them were taken in order; what was told of each goes after the
  -- others, in order, as far as it does not wait.
  pub record TakesLines (ends ends2 : Ends) (before after : LineConnection) (waits : List ℕ)
      (old new : Served S) : Type 0 where
    pub came : List ℕ
    pub calls : List LineCall
    pub went : List ℕ
    pub carry : Carry ends ends2 came went
    pub input : input_of before ++ came ≡ taken calls ++ input_of after
    pub output : output_of before ++ bytes_told calls ≡ went ++ waits
    pub chain : Chain store (side_of before) old calls new
    pub side : side_of after ≡ side_of before
    pub received : received_of after ≡ received_of before ++ came
    pub sent : sent_of after ≡ sent_of before ++ went
    pub lines : AreLines (IsOver after) calls
    pub ended : IsTrue (ended_of before) → IsTrue (ended_of after) × (came ≡ [])
    pub behind : TakenBehind (output_of before) calls went

  -- what still comes where all was said is dropped
  abbrev pub DropsBytes : (ends ends2 : Ends) (before after : LinePeer) (old new : Served S) → Type 0
  DropsBytes ends ends2 before after old new = (came : List ℕ) × IsTrue (has_parted before)
      × Carry ends ends2 came [] × (lines_of after ≡ lines_of before) × (new ≡ old)

  -- what a turn comes to; a connection that is over may lose what waits to go, and nothing else
  abbrev pub TakesTurn : (ends ends2 : Ends) (next : Next) (before after : LinePeer)
      (old new : Served S) → Type 0
  TakesTurn ends ends2 next before after old new = DropsBytes ends ends2 before after old new
      ⊎ ((waits : List ℕ) × TakesLines ends ends2 (lines_of before) (lines_of after) waits old new
      × (next ≢ Close → waits ≡ output_of (lines_of after)))

-- each line that came was taken, unless what was told before waits to go
abbrev pub HasTaken : LineConnection → Type 0
HasTaken connection = (output_of connection ≢ []) ⊎ (line_end (input_of connection) ≡ None)
