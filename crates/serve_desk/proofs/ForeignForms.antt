-- A form that another site may have sent does nothing.
use Rattle.std.proofs.Common.{◌≡◌, ℕ, Bool, true, false, if◌then◌else◌, List, Option, None, Some, Result, Err, refl, subst}
use Rattle.http.specs.Request.{head_of}
use Rattle.http.specs.declared.request.Request.{Request}
use Rattle.http_server.specs.declared.response.Response.{Response}
use Rattle.http_uri.specs.Uri.{uri_path}
use Rattle.sqlite_trees.specs.declared.store.Store.{Ghosts}
use Rattle.input_http.specs.Origins.{is_foreign}
use Rattle.page_pages.specs.declared.refusal.Refusal.{Refusal}
use Rattle.page_pages.specs.declared.refusal.Refusal.TheVariants.{NotFound}
use Rattle.serve_peers.specs.Journals.{hosts_of, shares_of}
use Rattle.serve_peers.specs.declared.served.Served.{Served}
use Rattle.serve_web.specs.Hosts.{is_answered}
use Rattle.serve_web.specs.Requests.{foreign_or}
use Rattle.serve_desk.proofs.ForeignWish.{IsRefused, foreign_wish}
use Rattle.serve_desk.specs.Answers.{AnswersAt, AnswersBy, AnswersIf, Gives}
use Rattle.serve_desk.specs.Laws.{ForeignFormsDoNothing}
use Rattle.serve_desk.specs.Operators.{operator_of}
use Rattle.serve_desk.specs.Places.{place_of}
use Rattle.serve_desk.specs.Requests.{asked, asked_if, judged_if, other_method, takes, wish}
use Rattle.serve_desk.specs.declared.asked.Asked.{Asked}
use Rattle.serve_desk.specs.declared.place.Place.{Place}

-- ---- it is refused

module _ (request : Request (List ℕ)) (foreign : is_foreign request ≡ true) where
  at_place : (fits : Bool) (place : Place) (asks : Option Asked) → IsRefused (if fits then judged_if request asks else Err (foreign_or request (other_method place)))
  at_place true place asks = foreign_wish request foreign asks
  at_place false place asks = (foreign_or request (other_method place), refl)

  placed : (place : Option Place) → IsRefused (asked_if request place)
  placed None = (foreign_or request NotFound, refl)
  placed (Some place) = at_place (takes place (head_of request).method) place (wish request place)

  pub refused : IsRefused (asked request)
  refused = placed (place_of (uri_path (head_of request).uri))

-- ---- so nothing is applied

module _ {S : Type 0} (store : Ghosts S) where
  by_name : (name : Option (List ℕ)) (old new : Served S) (request : Request (List ℕ)) (response : Response) → is_foreign request ≡ true →
      AnswersBy store name old request response new → new ≡ old
  by_name None old new request response foreign is = is.1
  by_name (Some operator) old new request response foreign is =
      let never = refused request foreign in
      let gives : Gives store (Err never.0) operator old request response new = subst (λ (wants : Result Asked Refusal). Gives store wants operator old request response new) never.1 is in
      gives.1

  by_host : (answered : Bool) (old new : Served S) (request : Request (List ℕ)) (response : Response) → is_foreign request ≡ true →
      AnswersAt store answered old request response new → new ≡ old
  by_host false old new request response foreign is = is.1
  by_host true old new request response foreign is = by_name (operator_of request) old new request response foreign is

  by_shares : (shares : Bool) (old new : Served S) (request : Request (List ℕ)) (response : Response) → is_foreign request ≡ true →
      AnswersIf store shares old request response new → new ≡ old
  by_shares true old new request response foreign is = is.1
  by_shares false old new request response foreign is = by_host (is_answered (hosts_of old) request) old new request response foreign is

  pub foreign_forms_do_nothing : ForeignFormsDoNothing store
  foreign_forms_do_nothing old new request response foreign is = by_shares (shares_of old) old new request response foreign is
