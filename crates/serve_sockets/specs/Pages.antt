-- A browser's requests, and what goes out in answer to them (this project's own).
use Rattle.std.specs.Prelude.{◌≡◌, ◌≤◌, ◌⊎◌, ℕ, Bool, false, suc, length, slice_get, take, List, [], ◌∷◌, ◌++◌, Some, Result}
use Rattle.std.specs.Result.{IsOkAnd}
use Rattle.http_server.specs.Connection.{config_of, history}
use Rattle.http_server.specs.Exchange.{Call}
use Rattle.http_server.specs.History as http
use Rattle.sqlite.specs.Held.{Held}
use Rattle.sqlite_trees.specs.declared.store.Store.{Ghosts}
use Rattle.account_machine.specs.declared.event.Reply.{Reply}
use Rattle.account_questions.specs.declared.question.Question.{Question}
use Rattle.store_rounds.specs.declared.fault.StoreFault.{StoreFault}
use Rattle.serve_peers.specs.HttpPeers.{calls_of, connection_of}
use Rattle.serve_peers.specs.Journals.{Told}
use Rattle.serve_peers.specs.Requests.{has_long_body}
use Rattle.serve_peers.specs.declared.entry.Entry.TheVariants as entry
use Rattle.serve_peers.specs.declared.http_peer.HttpPeer.{HttpPeer}
use Rattle.page_pages.specs.declared.outcome.Act.{Act}
use Rattle.serve_web.specs.Answers.{IsMessage, IsStill}
use Rattle.serve_web.specs.Questions.{kind_of, question_of}
use Rattle.serve_web.specs.Requests.{asked as asks_of}
use Rattle.serve_web.specs.Responses.{IsDone, IsLost as IsLostPage, IsShown}
use Rattle.serve_sockets.specs.Questions.{AnswersBy}

-- the message that an act is, or a file, was asked there, and the response tells what that came to
pub record TellsAct (call : Call) (told : Told) : Type 0 where
  pub account : List ℕ
  pub act : Act
  pub job : ℕ
  pub message : List ℕ
  pub wants : IsOkAnd (asks_of call.0)
      (λ asks. IsMessage asks call.0 account act job message)
  pub moment : ℕ
  pub asked : told.0 ≡ entry.Message moment account message
  pub tells : IsDone account act job (has_long_body call.0) told.1 call.1 ⊎ IsLostPage call.1

module _ {S : Type 0} (store : Ghosts S) (first last : Held S) where
  -- a page is answered by what stands there so far
  pub record TellsPage (call : Call) (so_far : List Told) : Type 0 where
    pub needs_password : Bool
    pub moment : ℕ
    pub question : Question
    pub wants : IsOkAnd (asks_of call.0)
        (λ asks. question ≡ question_of needs_password moment asks)
    pub told : Result Reply StoreFault
    pub shows : IsShown (kind_of question) (has_long_body call.0) told call.1 ⊎ IsLostPage call.1
    pub answers : AnswersBy store first last so_far question told

  -- Each act, and each file, is told what stands in the journal at the next of these places, which
  -- rise from the least on. Others have no place: a page, which is answered by what stands there up to
  -- then, with all that was told on the connection before; a request that is refused; and one for the
  -- style sheet or the script.
  abbrev pub AnswersPageCalls : List Call → (least : ℕ) (places : List ℕ) (journal : List Told)
      → Type 0
  AnswersPageCalls [] least places journal = places ≡ []
  AnswersPageCalls (call ∷ calls) least places journal =
      ((told : Told) × TellsAct call told × (place : ℕ) × (rest : List ℕ)
      × (places ≡ place ∷ rest) × (least ≤ place) × (slice_get journal place ≡ Some told)
      × AnswersPageCalls calls (suc place) rest journal)
      ⊎ (((n : ℕ) × (least ≤ n) × (n ≤ length journal) × TellsPage call (take n journal)
      × AnswersPageCalls calls n places journal)
      ⊎ (IsStill (asks_of call.0) call.0 call.1
      × AnswersPageCalls calls least places journal))

  -- The same of the requests of one turn that began with the journal as long as this. A page is
  -- answered where no round is under way, by what stood there then, with what the turn told before.
  abbrev pub AnswersPagesNow : (shares : Bool) → List Call
      → (long : ℕ) (places : List ℕ) (journal : List Told) → Type 0
  AnswersPagesNow shares [] long places journal = places ≡ []
  AnswersPagesNow shares (call ∷ calls) long places journal =
      ((told : Told) × TellsAct call told × (rest : List ℕ)
      × (places ≡ long ∷ rest) × (slice_get journal long ≡ Some told)
      × AnswersPagesNow shares calls (suc long) rest journal)
      ⊎ (((shares ≡ false) × (long ≤ length journal) × TellsPage call (take long journal)
      × AnswersPagesNow shares calls long places journal)
      ⊎ (IsStill (asks_of call.0) call.0 call.1
      × AnswersPagesNow shares calls long places journal))

  -- what a turn takes and tells on a browser's connection
  pub record TellsPagesNow (shares : Bool) (before after : HttpPeer) (long : ℕ)
      (journal : List Told) : Type 0 where
    pub calls : List Call
    pub more : calls_of after ≡ calls_of before ++ calls
    pub places : List ℕ
    pub answered : AnswersPagesNow shares calls long places journal

  -- what came are these requests, and what goes out are their responses, in order
  pub record HasAnsweredPages (peer : HttpPeer) (places : List ℕ) (journal : List Told) : Type 0 where
    pub served : ∥ http.IsServed (config_of (connection_of peer)) (history (connection_of peer)) ∥₁
    pub answered : AnswersPageCalls (calls_of peer) 0 places journal
