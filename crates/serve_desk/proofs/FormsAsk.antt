-- A form that is taken asks its line, or nothing.
use Rattle.std.proofs.Common.{◌≡◌, ◌⊎◌, ℕ, Bool, true, false, List, Option, None, Some, Result, Ok, inl, inr, refl, subst}
use Rattle.http.specs.declared.request.Request.{Request}
use Rattle.http_server.specs.declared.response.Response.{Response}
use Rattle.sqlite_trees.specs.declared.store.Store.{Ghosts}
use Rattle.page_pages.specs.declared.refusal.Refusal.{Refusal}
use Rattle.serve_peers.specs.Journals.{hosts_of, shares_of}
use Rattle.serve_peers.specs.declared.served.Served.{Served}
use Rattle.serve_web.specs.Hosts.{is_answered}
use Rattle.serve_desk.specs.Answers.{AnswersAt, AnswersBy, AnswersIf, AsksLine, Gives}
use Rattle.serve_desk.specs.Laws.{AsksItsLine, FormsAskTheirLines}
use Rattle.serve_desk.specs.Operators.{operator_of}
use Rattle.serve_desk.specs.Requests.{asked}
use Rattle.serve_desk.specs.declared.asked.Asked.{Asked}
use Rattle.serve_desk.specs.declared.asked.Asked.TheVariants.{Line as LineForm}

module _ {S : Type 0} (store : Ghosts S) where
  abbrev Comes : (old new : Served S) (request : Request (List ℕ)) (response : Response) → Type 0
  Comes old new request response = AsksItsLine store old request response new ⊎ (new ≡ old)

  by_line : (operator : List ℕ) (old new : Served S) (request : Request (List ℕ)) (response : Response) → operator_of request ≡ Some operator → AsksLine store operator old request response new → Comes old new request response
  by_line operator old new request response named (inl is) = inl (record {
    operator = operator;
    named = named;
    line = is.line;
    spelled = is.read;
    told = is.applies.told;
    next = is.applies.next;
    deed = is.deed;
    does = is.does;
    page = is.applies.page;
    of_line = is.applies.of_line;
    by = is.applies.by;
    came = is.applies.came;
    tells = is.applies.tells;
  })
  by_line operator old new request response named (inr is) = inr is.same

  by_name : (name : Option (List ℕ)) (old new : Served S) (request : Request (List ℕ)) (response : Response) → operator_of request ≡ name → asked request ≡ Ok LineForm → AnswersBy store name old request response new → Comes old new request response
  by_name None old new request response named wants is = inr is.1
  by_name (Some operator) old new request response named wants is = by_line operator old new request response named (subst (λ (w : Result Asked Refusal). Gives store w operator old request response new) wants is)

  by_host : (answered : Bool) (old new : Served S) (request : Request (List ℕ)) (response : Response) → asked request ≡ Ok LineForm → AnswersAt store answered old request response new → Comes old new request response
  by_host false old new request response wants is = inr is.1
  by_host true old new request response wants is = by_name (operator_of request) old new request response refl wants is

  by_shares : (shares : Bool) (old new : Served S) (request : Request (List ℕ)) (response : Response) → asked request ≡ Ok LineForm → AnswersIf store shares old request response new → Comes old new request response
  by_shares true old new request response wants is = inr is.1
  by_shares false old new request response wants is = by_host (is_answered (hosts_of old) request) old new request response wants is

  pub forms_ask_their_lines : FormsAskTheirLines store
  forms_ask_their_lines old new request response wants is = by_shares (shares_of old) old new request response wants is
