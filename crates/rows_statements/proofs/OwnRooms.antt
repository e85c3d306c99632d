-- What a change makes of the room of its account.
use Rattle.std.proofs.Common.{◌≡◌, ℕ, ◌+◌, ◌≤◌, pos, List, Option, Some, option_map, sym, ap, subst, ◌∙◌}
use Rattle.std.specs.FinMap.{get, insert}
use Rattle.sqlite.specs.Effect.{Database}
use Rattle.account_rules.specs.declared.account.Account.{Account}
use Rattle.account_rules.specs.declared.job.Document.{Document}
use Rattle.account_rules.specs.declared.job.Job.{Job}
use Rattle.account_rules.specs.declared.job.Standing.{Standing}
use Rattle.account_rules.specs.Limits.{last_moment}
use Rattle.account_state.specs.Rooms.{RoomValue, empty_room}
use Rattle.account_state.specs.Changes.{with_new_job, with_standing, with_ended, with_grant, with_document, restood}
use Rattle.account_state.specs.Conditions.{CanAddJob, CanRestand, CanFinish, CanAddGrant}
use Rattle.account_state.proofs.KeptRooms.{job_there, restood_there, add_job_keeps, restand_keeps, finish_keeps, add_grant_keeps}
use Rattle.account_state.proofs.RoomLemmas.{empty_room_keeps}
use Rattle.rows_tables.specs.Tables.{account as account_table, grants as grants_table}
use Rattle.rows_tables.specs.Keyed.{SetsRow}
use Rattle.rows_tables.specs.Cells.{account_cells, job_cells, grant_cells}
use Rattle.rows_tables.specs.Accounts.{account_at, job_at, account_of_room, HoldsRows, HoldsRoom, HoldsNothing}
use Rattle.rows_statements.specs.Rows.{AddsJob, Restands, EndsJob}
use Rattle.rows_statements.specs.Updates.{SetsStanding}
use Rattle.rows_statements.proofs.LeftAlone.{account_row_kept, account_row_stays}
use Rattle.rows_statements.proofs.OwnRows.{account_held, account_is_set, job_held, documents_removed, grant_held, added_document_held, opened_held}

pub opened_room : (name : List ℕ) (old new : Database) (now : ℕ) → now ≤ last_moment → SetsRow account_table (account_cells name (record { opened = now; next_job = 1 })) old new → HoldsNothing old name → HoldsRoom new name (empty_room now)
opened_room name old new now in_range sets held = record { is_room = empty_room_keeps now in_range; rows = opened_held name old new now held sets }

pub added_job_room : (name : List ℕ) (it : Job) (first : Option Document) (old new : Database) → AddsJob name it first old new → (room : RoomValue) → HoldsRoom old name room → CanAddJob room it first
    → HoldsRoom new name (with_new_job room it first)
added_job_room name it first old new adds room held can =
    let one : RoomValue = record room { jobs = insert room.jobs it.job it } in
    let two : RoomValue = record one { documents = with_document room.documents first } in
    let with_job : HoldsRows adds.with_job name one = job_held name old adds.with_job room held.rows it adds.job_row in
    let with_document : HoldsRows adds.with_document name two = added_document_held name first adds.with_job adds.with_document one with_job adds.document_row in
    let last : HoldsRows new name (record two { opened = room.opened; next = it.job + 1 }) =
    account_held name adds.with_document new two with_document (record { opened = room.opened; next_job = it.job + 1 }) (adds.account_row (account_of_room two) with_document.account_row) in
    record {
      is_room = add_job_keeps room it first held.is_room can;
      rows = subst (λ n. HoldsRows new name (record two { next = n + 1 })) can.numbered last;
    }

-- the number of the next job is the one after it, in the account's row
pub added_job_account : (name : List ℕ) (it : Job) (first : Option Document) (old new : Database) → AddsJob name it first old new → (of : Account) → account_at old name ≡ Some (account_cells name of)
    → account_at new name ≡ Some (account_cells name (record of { next_job = it.job + 1 }))
added_job_account name it first old new adds of there =
    let mid = adds.with_job in
    let last = adds.with_document in
    let still : account_at last name ≡ Some (account_cells name of) = account_row_stays name first mid last adds.document_row ∙ account_row_kept name old mid (pos it.job) _ adds.job_row ∙ there in
    account_is_set name last new (record of { next_job = it.job + 1 }) (adds.account_row of still)

-- a job's standing changes, in its row as in the room
module _ (name : List ℕ) (number : ℕ) (standing : Standing) (old new : Database) (room : RoomValue) (held : HoldsRows old name room) (was : Job) (there : get room.jobs number ≡ Some was) (numbered : was.job ≡ number) where
  standing_held : SetsStanding name number standing old new → HoldsRows new name (record room { jobs = restood room.jobs number standing })
  standing_held sets =
      let row : job_at old name (pos number) ≡ Some (job_cells name was) = held.job_rows (pos number) ∙ ap (option_map (job_cells name)) there in
      let at_its_number : HoldsRows new name (record room { jobs = insert room.jobs number (record was { standing = standing }) }) =
      subst (λ n. HoldsRows new name (record room { jobs = insert room.jobs n (record was { standing = standing }) })) numbered (job_held name old new room held (record was { standing = standing }) (sets was row)) in
      subst (λ jobs. HoldsRows new name (record room { jobs = jobs })) (sym (restood_there room.jobs number standing was there)) at_its_number

pub restood_room : (name : List ℕ) (number : ℕ) (standing : Standing) (next : Option Document) (old new : Database) → Restands name number standing next old new → (room : RoomValue) → HoldsRoom old name room
    → CanRestand room number standing next → HoldsRoom new name (with_standing room number standing next)
restood_room name number standing next old new stands room held can =
    let there = job_there (get room.jobs number) can.is_there in
    let mid : RoomValue = record room { documents = with_document room.documents next } in
    let with_next : HoldsRows stands.with_document name mid = added_document_held name next old stands.with_document room held.rows stands.document_row in
    record {
      is_room = restand_keeps room number standing next held.is_room can;
      rows = standing_held name number standing stands.with_document new mid with_next there.0 there.1 (held.is_room.jobs number there.0 there.1).numbered stands.job_row;
    }

pub ended_room : (name : List ℕ) (number : ℕ) (standing : Standing) (old new : Database) → EndsJob name number standing old new → (room : RoomValue) → HoldsRoom old name room
    → CanFinish room number standing → HoldsRoom new name (with_ended room number standing)
ended_room name number standing old new ends room held can =
    let there = job_there (get room.jobs number) can.is_there in
    record {
      is_room = finish_keeps room number standing held.is_room can;
      rows = documents_removed name ends.with_standing new (record room { jobs = restood room.jobs number standing })
          (standing_held name number standing old ends.with_standing room held.rows there.0 there.1 (held.is_room.jobs number there.0 there.1).numbered ends.job_row) number ends.document_rows;
    }

pub granted_room : (name : List ℕ) (month pages : ℕ) (old new : Database) → SetsRow grants_table (grant_cells name month pages) old new → (room : RoomValue) → HoldsRoom old name room
    → CanAddGrant room month pages → HoldsRoom new name (with_grant room month pages)
granted_room name month pages old new sets room held can = record {
  is_room = add_grant_keeps room month pages held.is_room can;
  rows = grant_held name old new room held.rows month pages sets;
}
