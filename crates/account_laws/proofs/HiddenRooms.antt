-- What a room comes to, and what becomes of it, is the same where the passwords of its jobs are hidden.
use Rattle.std.proofs.Common.{◌≡◌, ℕ, ◌+◌, pos, true, false, cond, Option, Some, None, option_map, count_by, sym, ap, ◌∙◌}
use Rattle.std.specs.List.{list_any, sum_by}
use Rattle.std.specs.Option.{option_map_or}
use Rattle.std.specs.Ordering.{nat_cmp}
use Rattle.std.specs.FinMap.{FinMap, get, insert, values}
use Rattle.std.proofs.lemmas.List.Folds.{fold-map}
use Rattle.account_machine.specs.Steps.{with_moved}
use Rattle.account_rules.specs.JobStates.{is_unfinished, is_processing}
use Rattle.account_rules.specs.Months.{month_at}
use Rattle.account_rules.specs.Quota.{left_of}
use Rattle.account_rules.specs.declared.job.Document.{Document}
use Rattle.account_rules.specs.declared.job.Job.{Job}
use Rattle.account_rules.specs.declared.job.Standing.{Standing}
use Rattle.account_state.specs.Changes.{restood, with_ended, with_grant, with_new_job, with_standing}
use Rattle.account_state.specs.RoomRules.{unfinished_count}
use Rattle.account_state.specs.Rooms.{RoomValue}
use Rattle.account_state.specs.Sums.{charged_in, granted_to, has_processing, left_in, reserved_in}
use Rattle.account_laws.proofs.HiddenPasswords.{hidden, hidden_once}
use Rattle.account_laws.proofs.MappedValues.{any_changed, get-with_each, insert-with_each, values-with_each, with_each, with_each-once}

-- the jobs, and the room, with the passwords hidden
abbrev pub hide : FinMap nat_cmp Job → FinMap nat_cmp Job
hide = with_each hidden

abbrev pub hidden_room : RoomValue → RoomValue
hidden_room room = record room { jobs = hide room.jobs }

hide_once : (jobs : FinMap nat_cmp Job) → hide (hide jobs) ≡ hide jobs
hide_once = with_each-once hidden hidden_once

pub room_once : (room : RoomValue) → hidden_room (hidden_room room) ≡ hidden_room room
room_once room = ap (λ jobs. record room { jobs = jobs }) (hide_once room.jobs)

-- ---- what its jobs come to

pub unfinished_hidden : (room : RoomValue) → unfinished_count (hidden_room room) ≡ unfinished_count room
unfinished_hidden room =
    ap (count_by (λ (job : Job). is_unfinished job.standing.state)) (values-with_each hidden room.jobs)
    ∙ fold-map (λ (n : ℕ) (job : Job). n + cond (is_unfinished job.standing.state) 1 0) hidden 0 (values room.jobs)

pub processing_hidden : (room : RoomValue) → has_processing (hidden_room room) ≡ has_processing room
processing_hidden room =
    ap (list_any (λ (job : Job). is_processing job.standing.state)) (values-with_each hidden room.jobs)
    ∙ any_changed hidden (λ (job : Job). is_processing job.standing.state) (values room.jobs)

pub reserved_hidden : (room : RoomValue) → reserved_in (hidden_room room) ≡ reserved_in room
reserved_hidden room =
    ap (sum_by (λ (job : Job). job.standing.reserved)) (values-with_each hidden room.jobs)
    ∙ fold-map (λ (n : ℕ) (job : Job). n + job.standing.reserved) hidden 0 (values room.jobs)

pub charged_hidden : (room : RoomValue) → charged_in (hidden_room room) ≡ charged_in room
charged_hidden room =
    ap (sum_by (λ (job : Job). job.standing.charged)) (values-with_each hidden room.jobs)
    ∙ fold-map (λ (n : ℕ) (job : Job). n + job.standing.charged) hidden 0 (values room.jobs)

pub left_hidden : (room : RoomValue) (now : ℕ) → left_in (hidden_room room) now ≡ left_in room now
left_hidden room now = λ i. left_of (pos (granted_to room (month_at now))) (pos (reserved_hidden room i)) (pos (charged_hidden room i))

-- two rooms that are alike have as much left
pub left_alike : (a b : RoomValue) (now : ℕ) → hidden_room a ≡ hidden_room b → left_in a now ≡ left_in b now
left_alike a b now same = sym (left_hidden a now) ∙ ap (λ room. left_in room now) same ∙ left_hidden b now

-- ---- as it changes

restood_found : (jobs : FinMap nat_cmp Job) (number : ℕ) (standing : Standing) (found : Option Job) →
    hide (option_map_or (λ job. insert (hide jobs) number (record job { standing = standing })) (option_map hidden found) (hide jobs))
    ≡ hide (option_map_or (λ job. insert jobs number (record job { standing = standing })) found jobs)
restood_found jobs number standing None = hide_once jobs
restood_found jobs number standing (Some job) =
    let now : Job = record job { standing = standing } in
    insert-with_each hidden (hide jobs) number (hidden now)
    ∙ (λ i. insert (hide_once jobs i) number (hidden_once now i))
    ∙ sym (insert-with_each hidden jobs number now)

restood_hidden : (jobs : FinMap nat_cmp Job) (number : ℕ) (standing : Standing) → hide (restood (hide jobs) number standing) ≡ hide (restood jobs number standing)
restood_hidden jobs number standing =
    ap (λ found. hide (option_map_or (λ job. insert (hide jobs) number (record job { standing = standing })) found (hide jobs))) (get-with_each hidden jobs number)
    ∙ restood_found jobs number standing (get jobs number)

pub standing_hidden : (room : RoomValue) (number : ℕ) (standing : Standing) (document : Option Document) → hidden_room (with_standing (hidden_room room) number standing document) ≡ hidden_room (with_standing room number standing document)
standing_hidden room number standing document = ap (λ jobs. record (with_standing room number standing document) { jobs = jobs }) (restood_hidden room.jobs number standing)

ended_hidden : (room : RoomValue) (number : ℕ) (standing : Standing) → hidden_room (with_ended (hidden_room room) number standing) ≡ hidden_room (with_ended room number standing)
ended_hidden room number standing = ap (λ jobs. record (with_ended room number standing) { jobs = jobs }) (restood_hidden room.jobs number standing)

pub moved_hidden : (room : RoomValue) (number : ℕ) (standing : Standing) → hidden_room (with_moved (hidden_room room) number standing) ≡ hidden_room (with_moved room number standing)
moved_hidden room number standing =
    elim (is_unfinished standing.state) as (λ b.
    hidden_room (cond b (with_standing (hidden_room room) number standing None) (with_ended (hidden_room room) number standing))
    ≡ hidden_room (cond b (with_standing room number standing None) (with_ended room number standing)))
    [ true ↦ standing_hidden room number standing None | false ↦ ended_hidden room number standing ]

pub new_hidden : (room : RoomValue) (job : Job) (document : Option Document) → hidden_room (with_new_job (hidden_room room) job document) ≡ hidden_room (with_new_job room job document)
new_hidden room job document =
    ap (λ jobs. record (with_new_job room job document) { jobs = jobs })
    (insert-with_each hidden (hide room.jobs) job.job job
    ∙ ap (λ jobs. insert jobs job.job (hidden job)) (hide_once room.jobs)
    ∙ sym (insert-with_each hidden room.jobs job.job job))

pub grant_hidden : (room : RoomValue) (month pages : ℕ) → hidden_room (with_grant (hidden_room room) month pages) ≡ hidden_room (with_grant room month pages)
grant_hidden room month pages = ap (λ jobs. record (with_grant room month pages) { jobs = jobs }) (hide_once room.jobs)
