-- Who does not name an operator is refused.
use Rattle.std.proofs.Common.{◌≡◌, ◌⊎◌, ℕ, Bool, true, false, List, Option, None, inl, inr, subst}
use Rattle.http.specs.declared.request.Request.{Request}
use Rattle.http_server.specs.declared.response.Response.{Response}
use Rattle.sqlite_trees.specs.declared.store.Store.{Ghosts}
use Rattle.page_pages.specs.declared.refusal.Refusal.TheVariants.{Busy, Misdirected, NoOperator}
use Rattle.serve_peers.specs.Journals.{hosts_of, shares_of}
use Rattle.serve_peers.specs.Requests.{has_long_body}
use Rattle.serve_peers.specs.declared.served.Served.{Served}
use Rattle.serve_web.specs.Hosts.{is_answered}
use Rattle.serve_web.specs.Responses.{IsRefusal}
use Rattle.serve_desk.specs.Answers.{AnswersAt, AnswersBy, AnswersIf}
use Rattle.serve_desk.specs.Laws.{NobodyActsWithoutName}
use Rattle.serve_desk.specs.Operators.{operator_of}

module _ {S : Type 0} (store : Ghosts S) where
  abbrev IsRefused : (old : Served S) (request : Request (List ℕ)) (response : Response) (new : Served S) → Type 0
  IsRefused old request response new =
      (IsRefusal Busy (has_long_body request) response ⊎ (IsRefusal Misdirected (has_long_body request) response ⊎ IsRefusal NoOperator (has_long_body request) response)) × (new ≡ old)

  by_host : (answered : Bool) (old new : Served S) (request : Request (List ℕ)) (response : Response) → operator_of request ≡ None →
      AnswersAt store answered old request response new → IsRefused old request response new
  by_host false old new request response nobody is = (inr (inl is.0), is.1)
  by_host true old new request response nobody is =
      let refuses : AnswersBy store None old request response new = subst (λ (name : Option (List ℕ)). AnswersBy store name old request response new) nobody is in
      (inr (inr refuses.0), refuses.1)

  by_shares : (shares : Bool) (old new : Served S) (request : Request (List ℕ)) (response : Response) → operator_of request ≡ None →
      AnswersIf store shares old request response new → IsRefused old request response new
  by_shares true old new request response nobody is = (inl is.0, is.1)
  by_shares false old new request response nobody is = by_host (is_answered (hosts_of old) request) old new request response nobody is

  pub nobody_acts_without_name : NobodyActsWithoutName store
  nobody_acts_without_name old new request response nobody is = by_shares (shares_of old) old new request response nobody is
