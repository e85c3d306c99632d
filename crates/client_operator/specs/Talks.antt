-- Rule: What is sent and heard over a connection, and printed meanwhile (this project's own).
use Rattle.std.specs.Prelude.{◌≡◌, ℕ, List, [], ◌∷◌, codes}
use Rattle.std.specs.Io.KnownBytes.{Appends, Consumes}
use Rattle.client_lines.specs.Asking.{HearsList, IsDone}
use Rattle.client_lines.specs.Peers.{reader_of, writer_of}
use Rattle.client_lines.specs.Replies.{Known, whole_line}
use Rattle.client_lines.specs.Sending.{IsAtKnownEnd}
use Rattle.client_lines.specs.declared.peer.Peer.{Peer}

-- what was sent and what is left to hear of a connection, and what was printed
pub record At : Type 0 where
  pub sent : Known
  pub left : Known
  pub printed : Known

abbrev pub at : {R W O : Type 0} → (contents : W → Known) → (remaining : R → Known)
    → (shown : O → Known) → Peer R W → O → At
at contents remaining shown peer output = record {
  sent = contents (writer_of peer);
  left = remaining (reader_of peer);
  printed = shown output;
}

-- the same where it is not said what was printed
abbrev pub over : {R W : Type 0} → (contents : W → Known) → (remaining : R → Known)
    → Peer R W → (printed : Known) → At
over contents remaining peer printed = record {
  sent = contents (writer_of peer);
  left = remaining (reader_of peer);
  printed = printed;
}

-- a line was sent, and this line answered it
pub record Asks (from to : At) (line answer : List ℕ) : Type 0 where
  pub sent : Appends from.sent to.sent (whole_line line)
  pub heard : Consumes from.left to.left (whole_line answer)
  pub same : to.printed ≡ from.printed

-- a line was sent, and a list of these lines answered it
pub record AsksList (from to : At) (line : List ℕ) (lines : List (List ℕ)) : Type 0 where
  pub sent : Appends from.sent to.sent (whole_line line)
  pub heard : HearsList from.left to.left lines
  pub same : to.printed ≡ from.printed

-- nothing was sent or heard, and this was printed
pub record Prints (from to : At) (text : List ℕ) : Type 0 where
  pub sent : to.sent ≡ from.sent
  pub left : to.left ≡ from.left
  pub printed : Appends from.printed to.printed text

-- a step for each of the list, one after another
abbrev pub InTurn : {X S : Type 0} → (Step : X → S → S → Type 0) → (from to : S) → List X → Type 0
InTurn Step from to [] = to ≡ from
InTurn {S = S} Step from to (first ∷ rest) = (mid : S) × Step first from mid × InTurn Step mid to rest

-- a line was sent, its answer was printed, and tells that it was done
pub record GetsDone (from to : At) (line : List ℕ) : Type 0 where
  pub answer : List ℕ
  pub mid : At
  pub asks : Asks from mid line answer
  pub prints : Prints mid to (whole_line answer)
  pub done : IsDone answer

-- the process was asked to end and answered, and then it closed the connection
pub record EndsProcess (from to : At) : Type 0 where
  pub mid : At
  pub tells : GetsDone from mid (codes "end")
  pub nothing : Consumes mid.left to.left []
  pub end : IsAtKnownEnd mid.left to.left
  pub sent : to.sent ≡ mid.sent
  pub printed : to.printed ≡ mid.printed
