-- An operator's requests at the desk, and what goes out in answer to them (this project's own).
use Rattle.std.specs.Prelude.{◌≡◌, ◌≤◌, ◌⊎◌, ℕ, Bool, false, suc, length, slice_get, take, List, [], ◌∷◌, ◌++◌, Ok, Some, Result}
use Rattle.std.specs.Result.{IsOkAnd}
use Rattle.http.specs.Request.{body_of}
use Rattle.http_server.specs.Connection.{config_of, history}
use Rattle.http_server.specs.Exchange.{Call}
use Rattle.http_server.specs.History as http
use Rattle.sqlite.specs.Held.{Held}
use Rattle.sqlite_trees.specs.declared.store.Store.{Ghosts}
use Rattle.account_machine.specs.declared.event.Reply.{Reply}
use Rattle.account_questions.specs.declared.question.Question.{Question}
use Rattle.input_lines.specs.Saying.{IsLineOf}
use Rattle.input_lines.specs.declared.line.Line.{Line}
use Rattle.input_lines.specs.declared.lines.Grammar.TheVariants.{Operator}
use Rattle.page_pages.specs.declared.desk_told.LineTold.{LineTold}
use Rattle.store_rounds.specs.declared.fault.StoreFault.{StoreFault}
use Rattle.serve_peers.specs.HttpPeers.{calls_of, connection_of}
use Rattle.serve_peers.specs.Journals.{Told}
use Rattle.serve_peers.specs.Requests.{has_long_body}
use Rattle.serve_peers.specs.declared.entry.Entry.TheVariants as entry
use Rattle.serve_peers.specs.declared.http_peer.HttpPeer.{HttpPeer}
use Rattle.page_pages.specs.declared.desk_told.Deed.{Deed}
use Rattle.serve_desk.specs.Acts.{came_told, deed_of, onward_of}
use Rattle.serve_desk.specs.Answers.{IsStill, IsTold}
use Rattle.serve_desk.specs.Lines.{line_of}
use Rattle.serve_desk.specs.Operators.{operator_of}
use Rattle.serve_desk.specs.Questions.{question_of}
use Rattle.serve_desk.specs.Requests.{WantsLine, asked as asks_of}
use Rattle.serve_web.specs.Questions.{kind_of}
use Rattle.serve_web.specs.Responses.{IsLost, IsShown}
use Rattle.serve_sockets.specs.Questions.{AnswersBy}

-- the line that the form spells was asked there, by the operator whom the request names, and the
-- response tells what that came to
pub record TellsLine (call : Call) (told : Told) : Type 0 where
  pub operator : List ℕ
  pub named : operator_of call.0 ≡ Some operator
  pub wants : WantsLine call.0
  pub moment : ℕ
  pub line : Line
  pub read : IsLineOf (Operator moment) (line_of (body_of call.0)) line
  pub asked : told.0 ≡ entry.Desk operator line
  pub deed : Deed
  pub does : deed_of line.action ≡ Some deed
  pub page : LineTold
  pub of_line : page.line.now ≡ line_of (body_of call.0)
  pub by : page.operator ≡ operator
  pub came : page.came ≡ came_told deed told.1
  pub onward : page.onward ≡ onward_of line.action
  pub tells : IsTold page (has_long_body call.0) call.1 ⊎ IsLost call.1

module _ {S : Type 0} (store : Ghosts S) (first last : Held S) where
  -- a page is answered by what stands there so far
  pub record TellsPage (call : Call) (so_far : List Told) : Type 0 where
    pub moment : ℕ
    pub question : Question
    pub wants : IsOkAnd (asks_of call.0) (λ asks. question ≡ question_of moment asks)
    pub told : Result Reply StoreFault
    pub shows : IsShown (kind_of question) (has_long_body call.0) told call.1 ⊎ IsLost call.1
    pub answers : AnswersBy store first last so_far question told

  -- Each line is told what stands in the journal at the next of these places, which rise from the least
  -- on. Others have no place: a page, which is answered by what stands there up to then, with all that
  -- was told on the connection before; a request that is refused; and one that asks nothing.
  abbrev pub AnswersDeskCalls : List Call → (least : ℕ) (places : List ℕ) (journal : List Told)
      → Type 0
  AnswersDeskCalls [] least places journal = places ≡ []
  AnswersDeskCalls (call ∷ calls) least places journal =
      ((told : Told) × TellsLine call told × (place : ℕ) × (rest : List ℕ)
      × (places ≡ place ∷ rest) × (least ≤ place) × (slice_get journal place ≡ Some told)
      × AnswersDeskCalls calls (suc place) rest journal)
      ⊎ (((n : ℕ) × (least ≤ n) × (n ≤ length journal) × TellsPage call (take n journal)
      × AnswersDeskCalls calls n places journal)
      ⊎ (IsStill (asks_of call.0) call.0 call.1
      × AnswersDeskCalls calls least places journal))

  -- The same of the requests of one turn that began with the journal as long as this. A page is
  -- answered where no round is under way, by what stood there then, with what the turn told before.
  abbrev pub AnswersDeskNow : (shares : Bool) → List Call
      → (long : ℕ) (places : List ℕ) (journal : List Told) → Type 0
  AnswersDeskNow shares [] long places journal = places ≡ []
  AnswersDeskNow shares (call ∷ calls) long places journal =
      ((told : Told) × TellsLine call told × (rest : List ℕ)
      × (places ≡ long ∷ rest) × (slice_get journal long ≡ Some told)
      × AnswersDeskNow shares calls (suc long) rest journal)
      ⊎ (((shares ≡ false) × (long ≤ length journal) × TellsPage call (take long journal)
      × AnswersDeskNow shares calls long places journal)
      ⊎ (IsStill (asks_of call.0) call.0 call.1
      × AnswersDeskNow shares calls long places journal))

  -- what a turn takes and tells on a connection at the desk
  pub record TellsDeskNow (shares : Bool) (before after : HttpPeer) (long : ℕ)
      (journal : List Told) : Type 0 where
    pub calls : List Call
    pub more : calls_of after ≡ calls_of before ++ calls
    pub places : List ℕ
    pub answered : AnswersDeskNow shares calls long places journal

  -- what came are these requests, and what goes out are their responses, in order
  pub record HasAnsweredDesk (peer : HttpPeer) (places : List ℕ) (journal : List Told)
      : Type 0 where
    pub served : ∥ http.IsServed (config_of (connection_of peer)) (history (connection_of peer)) ∥₁
    pub answered : AnswersDeskCalls (calls_of peer) 0 places journal
