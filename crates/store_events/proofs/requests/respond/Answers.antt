use Rattle.std.proofs.Common.{◌≡◌, ℕ, List, [], ◌∷◌, Result, Ok, Err, inl, inr, refl, sym, subst}
use Rattle.sqlite_trees.specs.declared.store.Store.{Ghosts}
use Rattle.sqlite.specs.Held.{Held}
use Rattle.account_asks.specs.Asks.{PlainAsk, plain_ask}
use Rattle.account_asks.specs.declared.operation.Operation.{Operation}
use Rattle.account_asks.specs.declared.operation.Operation.TheVariants.{CreateJob, PrintJob}
use Rattle.account_rules.specs.declared.job.Job.{Job}
use Rattle.account_machine.specs.Machine.{responded}
use Rattle.account_machine.specs.NewJobs.{accepts, validated}
use Rattle.account_machine.specs.Requests.{Response, asked_at, doing_ask, refusing_ask_or}
use Rattle.account_machine.specs.JobActs.{job_in}
use Rattle.account_machine.specs.JobRequests.{job_shown}
use Rattle.account_replies.specs.JobAttributes.{job_group}
use Rattle.account_rules.specs.Devices.{Devices}
use Rattle.account_rules.specs.declared.refusal.Refusal.{Refusal}
use Rattle.account_state.specs.Rooms.{RoomValue}
use Rattle.rows_statements.specs.Alone.{OnlyAccount}
use Rattle.rows_tables.specs.Accounts.{HoldsRoom}
use Rattle.rows_tables.specs.declared.fault.TableFault.{TableFault}
use Rattle.account_machine.specs.declared.verdict.Answered.{Answered}
use Rattle.store_events.specs.Answers.{of_response}
use Rattle.store_events.specs.Reading.{IsReadableFor}
use Rattle.store_events.specs.Serving.{DoesToTables, RowsHold}
use Rattle.store_events.proofs.ServingLemmas.{serves_as}
use Rattle.store_events.proofs.requests.respond.Goals as goal

-- what is shown or refused changes nothing
stays : {A : Type 0} (room : RoomValue) (ask : PlainAsk) (decided : Result A Refusal) (next : A → Response) → ((it : A) → (next it).room ≡ room) → (refusing_ask_or room ask decided next).room ≡ room
stays room ask (Ok it) next same = same it
stays room ask (Err refusal) next same = refl

-- what is done for the operation that is asked for
module _ {S : Type 0} (store : Ghosts S) (old new : Held S) (name : List ℕ) (now : ℕ) (ask : PlainAsk) (result : Result Answered TableFault) where
  abbrev Does : Operation → Type 0
  Does operation = DoesToTables store old new (RowsHold name) (λ db. IsReadableFor name now ask db operation) (OnlyAccount name) (λ (of : RoomValue × Devices). of_response (responded of.0 of.1 name now ask operation)) (λ of db. HoldsRoom db name (responded of.0 of.1 name now ask operation).room) result

  does_asked : (asked operation : Operation) → asked ≡ operation → Does operation → Does asked
  does_asked asked operation is = subst Does (sym is)

pub returns-in-ValidateJob-clause-served : goal.returns-in-ValidateJob-clause-served
returns-in-ValidateJob-clause-served g c opened =
    let ask = plain_ask c.args.request.now.ask in
    let old = c.args.connection.now in
    let new = c.validate.new.connection in
    let name = c.args.request.now.account in
    let now = c.args.request.now.now in
    does_asked g.S.Store old new name now ask c.validate.result _ _ c.in-ValidateJob.is
    (serves_as (λ (of : RoomValue × Devices). of_response (validated of.0 ask)) (λ (of : RoomValue × Devices). of_response (validated of.0 ask)) (λ (of : RoomValue × Devices) db. HoldsRoom db name of.0) (λ (of : RoomValue × Devices) db. HoldsRoom db name (validated of.0 ask).room) g.S.Store old new c.validate.result
    (λ clean has of held. (of, held, refl, λ after holds. subst (HoldsRoom after name) (sym (stays of.0 ask (accepts of.0) (λ _. doing_ask of.0 ask []) (λ _. refl))) holds))
    (c.validate.ensures.served opened))

pub returns-in-PrintJob-clause-served : goal.returns-in-PrintJob-clause-served
returns-in-PrintJob-clause-served g c opened = elim c.in-PrintJob.is [
  | inl is ↦ does_asked g.S.Store c.args.connection.now c.make.new.connection c.args.request.now.account c.args.request.now.now (plain_ask c.args.request.now.ask) c.make.result _ PrintJob is (c.make.ensures.served opened)
  | inr is ↦ does_asked g.S.Store c.args.connection.now c.make.new.connection c.args.request.now.account c.args.request.now.now (plain_ask c.args.request.now.ask) c.make.result _ CreateJob is (c.make.ensures.served opened)
]

pub returns-in-SendDocument-clause-served : goal.returns-in-SendDocument-clause-served
returns-in-SendDocument-clause-served g c opened = does_asked g.S.Store c.args.connection.now c.send.new.connection c.args.request.now.account c.args.request.now.now (plain_ask c.args.request.now.ask) c.send.result _ _ c.in-SendDocument.is (c.send.ensures.served opened)

pub returns-in-GetJobAttributes-clause-served : goal.returns-in-GetJobAttributes-clause-served
returns-in-GetJobAttributes-clause-served g c opened =
    let ask = plain_ask c.args.request.now.ask in
    let old = c.args.connection.now in
    let new = c.describe.new.connection in
    let name = c.args.request.now.account in
    let now = c.args.request.now.now in
    does_asked g.S.Store old new name now ask c.describe.result _ _ c.in-GetJobAttributes.is
    (serves_as (λ (of : RoomValue × Devices). of_response (job_shown of.0 name now ask)) (λ (of : RoomValue × Devices). of_response (job_shown of.0 name now ask)) (λ (of : RoomValue × Devices) db. HoldsRoom db name of.0) (λ (of : RoomValue × Devices) db. HoldsRoom db name (job_shown of.0 name now ask).room) g.S.Store old new c.describe.result
    (λ clean has of held. (of, held, refl, λ after holds. subst (HoldsRoom after name) (sym (stays of.0 ask (job_in of.0 ask.job) (λ (job : Job). doing_ask of.0 ask (job_group (asked_at of.0.opened name now ask) job ask.wanted ∷ [])) (λ _. refl))) holds))
    (c.describe.ensures.served opened))

pub returns-in-GetJobs-clause-served : goal.returns-in-GetJobs-clause-served
returns-in-GetJobs-clause-served g c opened = does_asked g.S.Store c.args.connection.now c.list.new.connection c.args.request.now.account c.args.request.now.now (plain_ask c.args.request.now.ask) c.list.result _ _ c.in-GetJobs.is (c.list.ensures.served opened)

pub returns-in-GetPrinterAttributes-clause-served : goal.returns-in-GetPrinterAttributes-clause-served
returns-in-GetPrinterAttributes-clause-served g c opened = does_asked g.S.Store c.args.connection.now c.show.new.connection c.args.request.now.account c.args.request.now.now (plain_ask c.args.request.now.ask) c.show.result _ _ c.in-GetPrinterAttributes.is (c.show.ensures.served opened)
