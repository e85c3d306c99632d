-- An event of an account that is open, and of one that is not, is one of an account that may be.
use Rattle.std.proofs.Common.{◌≡◌, ℕ, ◌<◌, Bool, true, false, nat_lt, if◌then◌else◌, List, length, Option, Some, None, is_some, option_map, Result, IfErr, IfOk, IsSome, refl, sym, ap, subst, ◌∙◌, arith}
use Rattle.sqlite_trees.specs.declared.store.Store.{Ghosts}
use Rattle.sqlite.specs.Effect.{Database}
use Rattle.sqlite.specs.State.{HasCleanDisk}
use Rattle.sqlite.specs.Held.{Held, state}
use Rattle.std.proofs.lemmas.Bool.Decides.{nat_tests}
use Rattle.sqlite_value.specs.Order.{Row}
use Rattle.ipp_coding.specs.Limits.{header_length}
use Rattle.ipp_coding.specs.declared.message.Header.{Header}
use Rattle.ipp_coding.specs.Reading.{header_at, header_in}
use Rattle.account_asks.specs.Asks.{ask_of}
use Rattle.account_machine.specs.Machine.{Answer, answered, answered_unopened, requested, responded_to, stays_unopened}
use Rattle.account_machine.specs.Verdicts.{line_refused, short_refused}
use Rattle.account_machine.specs.Steps.{Step}
use Rattle.account_machine.specs.Events.{PlainEvent, OfAccount, OfDevice, Open, Ipp, Release, Start, Settle, Grant}
use Rattle.account_machine.specs.declared.event.Reply.TheVariants as reply
use Rattle.account_machine.specs.declared.verdict.Answered.{Answered}
use Rattle.account_rules.specs.declared.refusal.Word.TheVariants.{NoAccount}
use Rattle.account_rules.specs.Devices.{Devices}
use Rattle.account_rules.specs.declared.account.Account.{Account}
use Rattle.account_state.specs.Rooms.{RoomValue}
use Rattle.rows_tables.specs.Accounts.{account_at, Holds, HoldsRoom}
use Rattle.rows_tables.specs.Calls.{IfOurTables}
use Rattle.rows_tables.specs.Keyed.{HasSchema}
use Rattle.rows_tables.specs.declared.fault.TableFault.{TableFault}
use Rattle.rows_tables.specs.declared.fault.TableFault.TheVariants as fault
use Rattle.account_replies.specs.declared.station_line.Success.TheVariants as success
use Rattle.rows_statements.specs.Changed.{OpensAccount}
use Rattle.rows_tables.specs.Cells.{account_cells}
use Rattle.store_events.specs.Answers.{done_by, of_answer, refused_by}
use Rattle.store_events.specs.Events.{IsLine}
use Rattle.rows_statements.proofs.LeftAlone.{same_rows}
use Rattle.store_rounds.specs.ProofKnown.{HasAccountRow}
use Rattle.store_rounds.specs.Looks.{StaysOpen}
use Rattle.store_events.specs.Serving.{DoesAnswer, RowsHold, MayBeHeld, DoesAsRoom}
use Rattle.store_rounds.proofs.LookLemmas.{Passed}
use Rattle.store_events.proofs.ServingLemmas.{says, serves_after_so, serves_as}

module _ {S : Type 0} (store : Ghosts S) (name : List ℕ) (answered : Option RoomValue → Devices → Answer) where
  -- it is open
  module _ (old mid new : Held S) (passed : Passed (state store old) (state store mid)) (account : Account) (opened : HasCleanDisk (state store mid) → HasSchema (state store old).now → HasAccountRow name account (state store old).now)
      (told : RoomValue → Devices → Answered) (left : RoomValue → Devices → RoomValue)
      (is : (room : RoomValue) (devices : Devices) → (told room devices ≡ of_answer (answered (Some room) devices)) × (Some (left room devices) ≡ (answered (Some room) devices).room)) where
    is_that : HasAccountRow name account (state store old).now → (of : Option RoomValue × Devices) → MayBeHeld name of (state store old).now
        → (one : RoomValue × Devices) × RowsHold name one (state store old).now × (told one.0 one.1 ≡ of_answer (answered of.0 of.1)) × ((after : Database) → HoldsRoom after name (left one.0 one.1) → Holds after name (answered of.0 of.1).room)
    is_that found (None, devices) held = let same = sym held.room.no_account ∙ found in let no : ⊥ = cc in absurd no
    is_that found (Some room, devices) held =
        ((room, devices), record { room = held.room; devices = held.devices }, (is room devices).0, λ after holds. subst (Holds after name) (is room devices).1 holds)

    pub opened_answers : {Readable Rest : Database → Type 0} (result : Result Answered TableFault) → (HasAccountRow name account (state store old).now → Readable (state store old).now → Rest (state store old).now)
        → StaysOpen store mid new result → (IfOurTables store mid new (HasAccountRow name account) → DoesAsRoom store mid new name Rest told left result) → DoesAnswer store old new name Readable answered result
    opened_answers result rest_of going serves =
        serves_as (λ (of : RoomValue × Devices). told of.0 of.1) _ (λ (of : RoomValue × Devices) db. HoldsRoom db name (left of.0 of.1)) _ store old new result
        (λ clean has. is_that (opened (omega_clean clean) has))
        (serves_after_so _ _ _ _ _ store old mid passed new result (HasAccountRow name account) (λ clean has. rest_of (opened (omega_clean clean) has)) going (λ clean _ has. subst (HasAccountRow name account) (sym (passed.same clean has).now) (opened clean has)) serves)
      where
        omega_clean : HasCleanDisk (state store new) → HasCleanDisk (state store mid)
        omega_clean clean = omega (arith, going.keeps.clean, clean)

  -- it is not
  module _ (old mid : Held S) (passed : Passed (state store old) (state store mid)) (none : HasCleanDisk (state store mid) → HasSchema (state store old).now → account_at (state store old).now name ≡ None)
      (said : Answered) (is : (devices : Devices) → (said ≡ of_answer (answered None devices)) × ((answered None devices).room ≡ None)) where
    is_none : account_at (state store old).now name ≡ None → (of : Option RoomValue × Devices) → MayBeHeld name of (state store old).now
        → (said ≡ of_answer (answered of.0 of.1)) × Holds (state store old).now name (answered of.0 of.1).room
    is_none absent (None, devices) held = ((is devices).0, subst (Holds (state store old).now name) (sym (is devices).1) held.room)
    is_none absent (Some room, devices) held = let same = sym held.room.rows.account_row ∙ absent in let no : ⊥ = cc in absurd no

    pub unopened_answers : {Readable : Database → Type 0} (r : Result Answered TableFault) → IfOk r (λ it. it ≡ said) → IfErr r (λ e. e ≡ fault.Memory) → DoesAnswer store old mid name Readable answered r
    unopened_answers r line memory = says _ _ _ _ _ store old mid passed (same_rows name) said r line memory (λ clean has. is_none (none clean has))

-- the row of an account that is open is there
pub is_there : (name : List ℕ) (account : Account) (db : Database) → HasAccountRow name account db → IsSome (account_at db name)
is_there name account db found = subst (λ (o : Option Row). IsSome o) (sym found) refl

-- a line tells that the account is not open
pub unopened_line : (now : ℕ) (e : PlainEvent) → IsLine e → (refused_by NoAccount ≡ of_answer (answered_unopened now e)) × ((answered_unopened now e).room ≡ None)
unopened_line now (OfAccount account Open) is = absurd is
unopened_line now (OfAccount account (Ipp body)) is = absurd is
unopened_line now (OfAccount account (Release device job password impressions)) is = (refl, refl)
unopened_line now (OfAccount account (Start device job)) is = (refl, refl)
unopened_line now (OfAccount account (Settle device job impressions failed)) is = (refl, refl)
unopened_line now (OfAccount account (Grant month pages)) is = (refl, refl)
unopened_line now (OfDevice device it) is = absurd is

-- a request whose header was read is not short
pub not_short : (body : List ℕ) (header : Header) → header_at body ≡ Some header → length body < header_length → ⊥
not_short body header is short =
    let is_short : nat_lt (length body) 8 ≡ true = grind (arith, nat_tests) in
    let none = sym is ∙ ap (λ (b : Bool). if b then None else Some (header_in body)) is_short in
    let no : ⊥ = cc in absurd no

-- and of one the account is told that it is not open
abbrev closed_answer : Bool → Answer
closed_answer short = if short then stays_unopened reply.Short short_refused else stays_unopened reply.NoAccount (line_refused NoAccount)

pub unopened_request : (now : ℕ) (name body : List ℕ) (header : Header) → header_at body ≡ Some header → (◌≡◌ {A = Answered} (record { reply = reply.NoAccount; verdict = line_refused NoAccount }) (of_answer (answered_unopened now (OfAccount name (Ipp body))))) × ((answered_unopened now (OfAccount name (Ipp body))).room ≡ None)
unopened_request now name body header is = by_test (nat_lt (length body) 8) is
  where
    by_test : (b : Bool) → ◌≡◌ {A = Option Header} (if b then None else Some (header_in body)) (Some header) → (◌≡◌ {A = Answered} (record { reply = reply.NoAccount; verdict = line_refused NoAccount }) (of_answer (closed_answer b))) × ((closed_answer b).room ≡ None)
    by_test true is = let no : ⊥ = cc in absurd no
    by_test false is = (refl, refl)

-- a request of eight bytes is answered by its response
module _ (room : RoomValue) (devices : Devices) (now : ℕ) (name body : List ℕ) where
  step_of : Header → Step
  step_of header = record { reply = reply.Ipp (responded_to room devices name now header (ask_of name body)).text; verdict = (responded_to room devices name now header (ask_of name body)).verdict; room = (responded_to room devices name now header (ask_of name body)).room }

  pub requested_so : (header : Header) → header_at body ≡ Some header → ◌≡◌ {A = Step} (record { reply = reply.Ipp (responded_to room devices name now header (ask_of name body)).text; verdict = (responded_to room devices name now header (ask_of name body)).verdict; room = (responded_to room devices name now header (ask_of name body)).room }) (requested room devices now name body)
  unfolding step_of
  requested_so header =
      elim (nat_lt (length body) 8) as (λ b. (if b then None else Some (header_in body)) ≡ Some header → ◌≡◌ {A = Step} (step_of header) (if b then record { reply = reply.Short; verdict = short_refused; room = room } else step_of (header_in body)))
      [ true ↦ λ is. let no : ⊥ = cc in absurd no | false ↦ λ is. let same : header_in body ≡ header = cc in ap step_of (sym same) ]

-- ---- an account that is opened now

pub was_not_open : (name : List ℕ) (found : Option Account) → is_some found ≡ false → option_map (account_cells name) found ≡ None
was_not_open name None is = refl
was_not_open name (Some account) is = let no : ⊥ = cc in absurd no

pub opens_now : (name : List ℕ) (now : ℕ) (before after : Database) → account_at before name ≡ None → OpensAccount name now before after → (of : Option RoomValue × Devices) → MayBeHeld name of before
    → (done_by success.Ok ≡ of_answer (answered of.0 of.1 now (OfAccount name Open))) × Holds after name (answered of.0 of.1 now (OfAccount name Open)).room
opens_now name now before after none opens (None, devices) held = (refl, opens.room held.room)
opens_now name now before after none opens (Some room, devices) held = let is = sym none ∙ held.room.rows.account_row in let no : ⊥ = cc in absurd no
