-- For the proof of the code alone: what the queues' service answers is noted, and nothing else becomes of the rooms.
use Rattle.std.specs.Prelude.{ℕ, Bool, true, false, List, [], ◌∷◌, Some, Result, Ok, Err}
use Rattle.std.proofs.Common.{ap, append-nil, refl, subst, sym}
use Rattle.http.specs.declared.request.Request.{Request}
use Rattle.http_server.specs.declared.response.Response.{Response}
use Rattle.sqlite.specs.Held.{Held}
use Rattle.sqlite_trees.specs.declared.store.Store.{Ghosts}
use Rattle.account_machine.specs.declared.verdict.Answered.{Answered}
use Rattle.store_rounds.specs.declared.fault.StoreFault.{StoreFault}
use Rattle.input_http.specs.declared.refusal.Refusal.{Refusal}
use Rattle.serve_peers.specs.Answers.{Answers, Gives}
use Rattle.serve_peers.specs.Applying.{AppliesEntry, DoesOne}
use Rattle.serve_peers.specs.Journals.{Notes, asked_of, open_of, rounds_of, shares_of, store_of}
use Rattle.serve_peers.specs.Turns.{AppliesNext, Continues}
use Rattle.serve_peers.specs.declared.background.Background.{Background}
use Rattle.serve_peers.specs.declared.entry.Entry.{Entry}
use Rattle.serve_peers.specs.Space.{wanted}
use Rattle.serve_peers.specs.declared.served.Served.{Served}

pub nothing_noted : {S : Type 0} → (shares : Bool) (served : Served S) → Notes shares [] served served
nothing_noted false served = (sym (append-nil (rounds_of served)), refl, refl)
nothing_noted true served = (refl, sym (append-nil (open_of served)), sym (append-nil (asked_of served)))

module _ {S : Type 0} (store : Ghosts S) where
  unfoldable pub stays : (served : Served S) → Continues store served served
  stays served = record { more = []; notes = nothing_noted (shares_of served) served; does = refl; shares = refl; is_lost = refl; page_rules = refl }

  pub does_one : (shares : Bool) (entry : Entry) (told : Result Answered StoreFault) (old new : Held S) → AppliesEntry store shares entry old new told → DoesOne store shares (Some (entry, told)) old new
  does_one false entry told old new is = is
  does_one true entry told old new is = is

  unfoldable pub one_more : (entry : Entry) (told : Result Answered StoreFault) (old new : Served S) → AppliesNext store entry told old new → Continues store old new
  one_more entry told old new next = record { more = Some (entry, told) ∷ []; notes = next.notes; does = (store_of new, does_one (shares_of old) entry told (store_of old) (store_of new) next.applies, refl); shares = next.shares; is_lost = next.is_lost; page_rules = ap (λ (background : Background). background.page_rules) next.background }

  gives : (wants : Result (List ℕ) Refusal) (old : Served S) (request : Request (List ℕ)) (response : Response) (new : Served S) → Gives store wants old request response new → Continues store old new
  gives (Ok account) old request response new is = one_more _ is.told old new is.next
  gives (Err why) old request response new is = subst (λ (served : Served S). Continues store old served) (sym is.1) (stays old)

  pub answer_continues : (old new : Served S) (request : Request (List ℕ)) (response : Response) → Answers store old request response new → Continues store old new
  answer_continues old new request response is = gives (wanted old request) old request response new is
