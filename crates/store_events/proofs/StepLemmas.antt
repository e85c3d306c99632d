-- Events of an account that is open, by the step that they make.
use Rattle.std.proofs.Common.{◌≡◌, ℕ, List, Result, IfErr, IfOk, sym, ap, subst}
use Rattle.sqlite_trees.specs.declared.store.Store.{Ghosts}
use Rattle.sqlite.specs.Effect.{Database}
use Rattle.sqlite.specs.State.{HasCleanDisk}
use Rattle.sqlite.specs.Held.{Held, state}
use Rattle.account_asks.specs.Asks.{PlainAsk}
use Rattle.account_machine.specs.Requests.{Response, refusing_ask}
use Rattle.account_machine.specs.Steps.{Step, refusing}
use Rattle.account_machine.specs.declared.verdict.Answered.{Answered}
use Rattle.account_rules.specs.Devices.{Devices}
use Rattle.account_rules.specs.declared.refusal.Refusal.{Refusal}
use Rattle.account_rules.specs.declared.refusal.Word.{Word}
use Rattle.account_state.specs.Rooms.{RoomValue}
use Rattle.rows_tables.specs.Accounts.{HoldsRoom}
use Rattle.rows_tables.specs.Keyed.{HasSchema}
use Rattle.rows_tables.specs.declared.fault.TableFault.{TableFault}
use Rattle.rows_tables.specs.declared.fault.TableFault.TheVariants as fault
use Rattle.rows_statements.proofs.LeftAlone.{same_rows}
use Rattle.store_events.specs.Answers.{of_response, of_step, refused_by, request_refused}
use Rattle.store_events.specs.Serving.{RowsHold, DoesResponse, DoesStep}
use Rattle.store_rounds.proofs.LookLemmas.{Passed}
use Rattle.store_events.proofs.ServingLemmas.{says, serves_as}

module _ {S : Type 0} (store : Ghosts S) (old new : Held S) (name : List ℕ) {Readable : Database → Type 0} where
  -- the step is that of what was found
  pub steps_as : (found step : RoomValue → Devices → Step) (r : Result Answered TableFault)
      → (HasCleanDisk (state store new) → HasSchema (state store old).now → (of : RoomValue × Devices) → RowsHold name of (state store old).now → found of.0 of.1 ≡ step of.0 of.1)
      → DoesStep store old new name Readable found r
      → DoesStep store old new name Readable step r
  steps_as found step r same serves =
      serves_as (λ (of : RoomValue × Devices). of_step (found of.0 of.1)) _ (λ (of : RoomValue × Devices) db. HoldsRoom db name (found of.0 of.1).room) _ store old new r
      (λ clean has of held. (of, held, ap of_step (same clean has of held), λ after holds. subst (λ (s : Step). HoldsRoom after name s.room) (same clean has of held) holds)) serves

  pub responds_as : (found step : RoomValue → Devices → Response) (r : Result Answered TableFault)
      → (HasCleanDisk (state store new) → HasSchema (state store old).now → (of : RoomValue × Devices) → RowsHold name of (state store old).now → found of.0 of.1 ≡ step of.0 of.1)
      → DoesResponse store old new name Readable found r
      → DoesResponse store old new name Readable step r
  responds_as found step r same serves =
      serves_as (λ (of : RoomValue × Devices). of_response (found of.0 of.1)) _ (λ (of : RoomValue × Devices) db. HoldsRoom db name (found of.0 of.1).room) _ store old new r
      (λ clean has of held. (of, held, ap of_response (same clean has of held), λ after holds. subst (λ (s : Response). HoldsRoom after name s.room) (same clean has of held) holds)) serves

  -- the request is refused
  pub refuses_ask_as : Passed (state store old) (state store new) → (response : RoomValue → Devices → Response) (ask : PlainAsk) (refusal : Refusal) (r : Result Answered TableFault) → IfOk r (λ it. it ≡ request_refused ask refusal) → IfErr r (λ e. e ≡ fault.Memory)
      → (HasCleanDisk (state store new) → HasSchema (state store old).now → (of : RoomValue × Devices) → RowsHold name of (state store old).now → response of.0 of.1 ≡ refusing_ask of.0 ask refusal)
      → DoesResponse store old new name Readable response r
  refuses_ask_as passed response ask refusal r answered memory is =
      says _ _ _ _ _ store old new passed (same_rows name) (request_refused ask refusal) r answered memory
      (λ clean has of held. (ap of_response (sym (is clean has of held)), subst (λ (s : Response). HoldsRoom (state store old).now name s.room) (sym (is clean has of held)) held.room))

  -- it is a refusal
  pub refuses_as : Passed (state store old) (state store new) → (step : RoomValue → Devices → Step) (word : Word) (r : Result Answered TableFault) → IfOk r (λ it. it ≡ refused_by word) → IfErr r (λ e. e ≡ fault.Memory)
      → (HasCleanDisk (state store new) → HasSchema (state store old).now → (of : RoomValue × Devices) → RowsHold name of (state store old).now → step of.0 of.1 ≡ refusing of.0 word)
      → DoesStep store old new name Readable step r
  refuses_as passed step word r answered memory is =
      says _ _ _ _ _ store old new passed (same_rows name) (refused_by word) r answered memory
      (λ clean has of held. (ap of_step (sym (is clean has of held)), subst (λ (s : Step). HoldsRoom (state store old).now name s.room) (sym (is clean has of held)) held.room))
