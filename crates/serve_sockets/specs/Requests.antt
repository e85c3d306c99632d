-- Requests of IPP, and what goes out in answer to them (this project's own).
use Rattle.std.specs.Prelude.{◌≡◌, ◌⊎◌, ℕ, IsTrue, List, [], ◌∷◌, Result, Ok, Err}
use Rattle.http.specs.Request.{body_of}
use Rattle.http_server.specs.Connection.{config_of, history}
use Rattle.http_server.specs.Exchange.{Call}
use Rattle.http_server.specs.History as http
use Rattle.account_machine.specs.Verdicts.{reply_of}
use Rattle.ipp_coding.specs.Reading.{header_in}
use Rattle.input_http.specs.declared.refusal.Refusal.{Refusal}
use Rattle.input_http.specs.declared.refusal.Refusal.TheVariants.{NoSpace}
use Rattle.serve_peers.specs.Answers.{IsLost, IsRefusal, IsTold}
use Rattle.serve_peers.specs.HttpPeers.{calls_of, connection_of}
use Rattle.serve_peers.specs.Journals.{Told}
use Rattle.serve_peers.specs.Requests.{asked, has_long_body}
use Rattle.serve_peers.specs.Space.{needs_space}
use Rattle.serve_peers.specs.declared.entry.Entry.TheVariants as entry
use Rattle.serve_peers.specs.declared.http_peer.HttpPeer.{HttpPeer}
use Rattle.serve_sockets.specs.Places.{StandAt}

-- the account's message is what was asked there, and the response tells what that came to
pub record TellsCall (account : List ℕ) (call : Call) (told : Told) : Type 0 where
  pub moment : ℕ
  pub asked : told.0 ≡ entry.Message moment account (body_of call.0)
  pub tells : IsTold (header_in (body_of call.0)) (has_long_body call.0) (reply_of told.1) call.1
      ⊎ IsLost call.1

-- A request is refused and asks nothing, or it is answered by the first of these. One that needs space
-- may be refused for want of it.
abbrev pub AnswersCall : (wants : Result (List ℕ) Refusal) (call : Call) (mine rest : List Told)
    → Type 0
AnswersCall (Err why) call mine rest =
    IsRefusal why (has_long_body call.0) call.1 × (mine ≡ rest)
AnswersCall (Ok account) call mine rest =
    ((told : Told) × TellsCall account call told × (mine ≡ told ∷ rest))
    ⊎ (IsTrue (needs_space (body_of call.0)) × IsRefusal NoSpace (has_long_body call.0) call.1
    × (mine ≡ rest))

-- the requests are answered by these, in order
abbrev pub AnswersCalls : List Call → (mine : List Told) → Type 0
AnswersCalls [] mine = mine ≡ []
AnswersCalls (call ∷ calls) mine = (rest : List Told)
    × AnswersCall (asked call.0) call mine rest × AnswersCalls calls rest

-- What came are these requests, and what goes out are their responses, in order. What they tell stands
-- in the journal at these places, in the same order.
pub record HasAnsweredRequests (peer : HttpPeer) (places : List ℕ) (journal : List Told)
    : Type 0 where
  pub served : ∥ http.IsServed (config_of (connection_of peer)) (history (connection_of peer)) ∥₁
  pub mine : List Told
  pub answered : AnswersCalls (calls_of peer) mine
  pub stand : StandAt 0 places mine journal
