-- Laws: a form that another site may have sent does nothing, and a Host that is not answered is told
-- nothing (all this project's own).
use Rattle.std.specs.Prelude.{◌≡◌, ◌⊎◌, IsTrue, ℕ, false, List, None, bytes_eq, codes}
use Rattle.http.specs.Request.{head_of}
use Rattle.http.specs.declared.request.Request.{Request}
use Rattle.http_server.specs.declared.response.Response.{Response}
use Rattle.sqlite_trees.specs.declared.store.Store.{Ghosts}
use Rattle.serve_peers.specs.declared.served.Served.{Served}
use Rattle.serve_peers.specs.Journals.{hosts_of}
use Rattle.serve_peers.specs.Requests.{has_long_body}
use Rattle.serve_web.specs.Answers.{Answers}
use Rattle.serve_web.specs.Hosts.{is_answered}
use Rattle.serve_web.specs.Responses.{IsRefusal}
use Rattle.page_pages.specs.declared.refusal.Refusal.TheVariants.{Busy, Misdirected}
use Rattle.input_http.specs.Origins.{is_foreign, value_in}

-- neither field tells which site sent it
pub record HasNoOrigin (request : Request (List ℕ)) : Type 0 where
  pub post : IsTrue (bytes_eq (head_of request).method (codes "POST"))
  pub no_site : value_in request (codes "sec-fetch-site") ≡ None
  pub no_origin : value_in request (codes "origin") ≡ None

module _ {S : Type 0} (store : Ghosts S) where
  -- whatever it asks for, the rooms are as they were
  abbrev pub ForeignFormsDoNothing : Type 0
  ForeignFormsDoNothing = (old new : Served S) (request : Request (List ℕ)) (response : Response)
      → IsTrue (is_foreign request) → Answers store old request response new → new ≡ old

  abbrev pub WithoutOriginNothingIsApplied : Type 0
  WithoutOriginNothingIsApplied = (old new : Served S) (request : Request (List ℕ))
      (response : Response) → HasNoOrigin request → Answers store old request response new
      → new ≡ old

  -- A request of a Host that is not answered is refused, whatever it asks for: nothing of the rooms is
  -- shown, and they are as they were.
  abbrev pub OtherHostsAreRefused : Type 0
  OtherHostsAreRefused = (old new : Served S) (request : Request (List ℕ)) (response : Response)
      → is_answered (hosts_of old) request ≡ false → Answers store old request response new
      → (IsRefusal Busy (has_long_body request) response
      ⊎ IsRefusal Misdirected (has_long_body request) response) × (new ≡ old)
