-- What becomes of the rooms by the calls of a service, one after another.
use Rattle.std.proofs.Common.{ℕ, List, [], ◌∷◌, subst, sym}
use Rattle.http.specs.declared.request.Request.{Request}
use Rattle.http_server.specs.Exchange.{Call, Chain}
use Rattle.http_server.specs.declared.response.Response.{Response}
use Rattle.sqlite_trees.specs.declared.store.Store.{Ghosts}
use Rattle.serve_peers.specs.ProofServices.{stays}
use Rattle.serve_peers.proofs.Journaling.{then}
use Rattle.serve_peers.specs.Turns.{Continues}
use Rattle.serve_peers.specs.declared.served.Served.{Served}

module _ {S V : Type 0} (store : Ghosts S) (answers : V → Request (List ℕ) → Response → V → Type 0) (rooms : V → Served S)
    (law : (old new : V) (request : Request (List ℕ)) (response : Response) → answers old request response new → Continues store (rooms old) (rooms new)) where
  pub calls_continue : (calls : List Call) (old new : V) → Chain answers old calls new → Continues store (rooms old) (rooms new)
  calls_continue [] old new is = subst (λ (it : V). Continues store (rooms old) (rooms it)) (sym is) (stays store (rooms old))
  calls_continue (call ∷ calls) old new is = then store (rooms old) (rooms is.0) (rooms new) (law old is.0 call.0 call.1 is.1) (calls_continue calls is.0 new is.2)
