-- The calls of the desk's service, as calls over what is served.
use Rattle.std.proofs.Common.{◌≡◌, List, [], ◌∷◌, ap, ◌∙◌}
use Rattle.http_server.specs.Exchange.{Call, Calls, Chain}
use Rattle.sqlite_trees.specs.declared.store.Store.{Ghosts}
use Rattle.serve_desk.specs.Answers.{Answers, AnswersDesk, rooms_of}
use Rattle.serve_desk.specs.declared.desk.Desk.{Desk}

module _ {S : Type 0} (store : Ghosts S) where
  chain_rooms : (calls : List Call) (old new : Desk S) → Chain (AnswersDesk store) old calls new → Chain (Answers store) (rooms_of old) calls (rooms_of new)
  chain_rooms [] old new is = ap rooms_of is
  chain_rooms (call ∷ calls) old new is = (rooms_of is.0, is.1.answers, chain_rooms calls is.0 new is.2)

  chain_same : (calls : List Call) (old new : Desk S) → Chain (AnswersDesk store) old calls new → new.served.ghost_name ≡ old.served.ghost_name
  chain_same [] old new is = ap (λ (desk : Desk S). desk.served.ghost_name) is
  chain_same (call ∷ calls) old new is = chain_same calls is.0 new is.2 ∙ is.1.same

  pub calls_rooms : (before after : List Call) (old new : Desk S) → Calls (AnswersDesk store) old new before after → Calls (Answers store) (rooms_of old) (rooms_of new) before after
  calls_rooms before after old new is = (is.0, is.1, chain_rooms is.0 old new is.2)

  pub calls_same : (before after : List Call) (old new : Desk S) → Calls (AnswersDesk store) old new before after → new.served.ghost_name ≡ old.served.ghost_name
  calls_same before after old new is = chain_same is.0 old new is.2
