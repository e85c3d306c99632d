-- A request of a Host that is not answered is refused.
use Rattle.std.proofs.Common.{◌≡◌, ◌⊎◌, ℕ, Bool, true, false, List, inl, inr, subst}
use Rattle.http.specs.declared.request.Request.{Request}
use Rattle.http_server.specs.declared.response.Response.{Response}
use Rattle.sqlite_trees.specs.declared.store.Store.{Ghosts}
use Rattle.serve_peers.specs.Journals.{shares_of}
use Rattle.serve_peers.specs.Requests.{has_long_body}
use Rattle.serve_peers.specs.declared.served.Served.{Served}
use Rattle.serve_web.specs.Answers.{AnswersAt, AnswersIf}
use Rattle.serve_web.specs.Laws.{OtherHostsAreRefused}
use Rattle.serve_web.specs.Responses.{IsRefusal}
use Rattle.page_pages.specs.declared.refusal.Refusal.TheVariants.{Busy, Misdirected}
use Rattle.serve_web.specs.Hosts.{is_answered}
use Rattle.serve_peers.specs.Journals.{hosts_of}

module _ {S : Type 0} (store : Ghosts S) where
  abbrev IsRefused : (old : Served S) (request : Request (List ℕ)) (response : Response) (new : Served S) → Type 0
  IsRefused old request response new = (IsRefusal Busy (has_long_body request) response ⊎ IsRefusal Misdirected (has_long_body request) response) × (new ≡ old)

  by_shares : (shares : Bool) (old new : Served S) (request : Request (List ℕ)) (response : Response) → is_answered (hosts_of old) request ≡ false →
      AnswersIf store shares old request response new → IsRefused old request response new
  by_shares true old new request response other is = (inl is.0, is.1)
  by_shares false old new request response other is =
      let refuses : AnswersAt store false old request response new = subst (λ (b : Bool). AnswersAt store b old request response new) other is in
      (inr refuses.0, refuses.1)

  pub other_hosts_are_refused : OtherHostsAreRefused store
  other_hosts_are_refused old new request response other is = by_shares (shares_of old) old new request response other is
