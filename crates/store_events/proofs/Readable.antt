-- Of sound rows every event can read what it reads.
use Rattle.std.proofs.Common.{◌≡◌, ℕ, pos, List, Option, Some, None, Result, Ok, Err, IfOk, OnOk, IsSome, option_map, sym, refl, subst, ◌∙◌}
use Rattle.sqlite.specs.Effect.{Database}
use Rattle.sqlite_rules.proofs.ListLemmas.{has_filtered}
use Rattle.sqlite_value.specs.Order.{Row}
use Rattle.account_asks.specs.Asks.{PlainAsk, ask_of}
use Rattle.account_asks.specs.declared.ask.Which.{Which}
use Rattle.account_asks.specs.declared.ask.Which.TheVariants.{NotCompleted, Completed}
use Rattle.account_asks.specs.declared.operation.Operation.{Operation}
use Rattle.account_asks.specs.declared.operation.Operation.TheVariants.{PrintJob, ValidateJob, CreateJob, SendDocument, CancelJob, GetJobAttributes, GetJobs, GetPrinterAttributes, HoldJob, ReleaseJob}
use Rattle.account_machine.specs.Events.{AccountEvent, OfAccount, OfDevice, Open, Ipp, Release, Start, Settle, Grant}
use Rattle.account_machine.specs.JobRequests.{has_data, sent_document}
use Rattle.account_machine.specs.NewJobs.{new_document}
use Rattle.account_rules.specs.Acts.{SendDocument as SendDocumentAct, StationSettle, StationStart}
use Rattle.account_rules.specs.Limits.{IsRate}
use Rattle.account_rules.specs.Moves.{move}
use Rattle.account_rules.specs.declared.device.Device.{Device}
use Rattle.account_rules.specs.declared.job.Job.{Job}
use Rattle.account_state.specs.Rooms.{RoomValue}
use Rattle.rows_statements.proofs.SoundReads.{sound_rows_are_read}
use Rattle.rows_statements.specs.Rows.{IsFree}
use Rattle.rows_statements.specs.Queues.{by_falling_end, by_rising_number}
use Rattle.rows_statements.specs.Shown.{IsJob}
use Rattle.rows_statements.specs.SoundRows.{AccountsRead, IsRowOf, tells_ended, tells_unfinished}
use Rattle.rows_statements.proofs.QueueJobs.{has_first}
use Rattle.store_events.specs.Reading.{ActIsReadable, IsReadableFor, IsReadableOpen, JobsAreReadable, NextPlaceIsFree, QuotaIsReadable, SendingIsReadable, SoundRowsAreReadable, StationIsReadable}
use Rattle.store_events.proofs.Found.{job_under}
use Rattle.store_events.proofs.Made.{account_in_room, is_free}
use Rattle.store_events.proofs.Sent.{next_place_is_free}
use Rattle.rows_tables.specs.Accounts.{job_at, Holds, IsSound}
use Rattle.rows_tables.specs.Cells.{device_cells, job_cells, rate_cells, units_cells}
use Rattle.rows_tables.specs.Devices.{device_at, rate_at, AreSoundDevices}
use Rattle.rows_tables.specs.Keyed.{HasSchema}

if_ok : {X E : Type 0} {P : X → Type 0} (r : Result X E) → ((x : X) → P x) → IfOk r P
if_ok (Ok x) all = all x
if_ok (Err e) all = tt

on_ok : {X E P : Type 0} (r : Result X E) → P → OnOk r P
on_ok (Ok x) p = p
on_ok (Err e) p = tt

rated_none : {o : Option Row} → o ≡ None → IsSome o → ⊥
rated_none {o} none some = let is = subst (λ (o : Option Row). IsSome o) none some in let no : ⊥ = cc in no

module _ (db : Database) (has : HasSchema db) where
  -- ---- the devices

  rated : (name : List ℕ) (o : Option Device) → device_at db name ≡ option_map device_cells o → rate_at db name ≡ option_map rate_cells o → IsSome (device_at db name) → IsSome (rate_at db name)
  rated name None device rate is = let none = subst (λ (o : Option Row). IsSome o) device is in let no : ⊥ = cc in absurd no
  rated name (Some it) device rate is = subst (λ (o : Option Row). IsSome o) (sym rate) refl

  with_rate : (name : List ℕ) → IsRowOf (units_cells name) IsRate (rate_at db name) → IsSome (rate_at db name) → (rate : ℕ) × IsRate rate × (rate_at db name ≡ Some (units_cells name rate))
  with_rate name (None, in_range, there) some = let no : ⊥ = rated_none there some in absurd no
  with_rate name (Some rate, in_range, there) some = (rate, in_range, there)

  station_readable : (name : List ℕ) → AreSoundDevices db → StationIsReadable name db
  station_readable name (devices, held) =
      let read = sound_rows_are_read.of_devices db has (devices, held) in
      record { device = read.devices name; rate = λ on. with_rate name (read.rates name) (rated name _ (held.device_rows name) (held.rate_rows name) (subst (λ (o : Option Row). IsSome o) (sym on) refl)) }

  -- ---- an account

  module _ (name : List ℕ) (sound : IsSound db name) where
    read : AccountsRead db name
    read = sound_rows_are_read.accounts db name has sound

    pub jobs_readable : (which : Which) (limit : Option ℕ) → JobsAreReadable name which limit db
    jobs_readable NotCompleted limit = λ first they row there. read.queues row (has_filtered tells_unfinished _ row (has_first by_rising_number limit _ first they row there)).0
    jobs_readable Completed limit = λ first they row there. read.queues row (has_filtered tells_ended _ row (has_first by_falling_end limit _ first they row there)).0

    pub act_readable : (number : ℕ) (Reads : Job → Type 0) → ((it : Job) → IsJob it → job_at db name (pos number) ≡ Some (job_cells name it) → Reads it) → ActIsReadable name number Reads db
    act_readable number Reads reads = record { job = λ may. read.jobs number; act = λ may. reads }

    next_place : (ask : PlainAsk) → NextPlaceIsFree name ask db
    next_place ask it there takes = by_sound sound.0 sound.1
      where
        by_sound : (room : Option RoomValue) → Holds db name room → (job_at db name (pos it.next_job) ≡ None) × IsFree name (new_document it.next_job ask) db
        by_sound None holds = let same = sym holds.no_account ∙ there in let no : ⊥ = cc in absurd no
        by_sound (Some room) holds = is_free db name it room (account_in_room db name it there room holds) holds ask

    document_place : (ask : PlainAsk) (job : Job) → IsJob job → job_at db name (pos ask.job) ≡ Some (job_cells name job) → IsFree name (sent_document ask job) db
    document_place ask job is there = by_sound sound.0 sound.1
      where
        by_sound : (room : Option RoomValue) → Holds db name room → IsFree name (sent_document ask job) db
        by_sound None holds = let same = sym (holds.no_job (pos ask.job)) ∙ there in let no : ⊥ = cc in absurd no
        by_sound (Some room) holds = next_place_is_free room ask job (job_under db name ask.job job there is.standing room holds) db name holds

    sending_readable : (ask : PlainAsk) → SendingIsReadable name ask db
    sending_readable ask = act_readable ask.job _ (λ job is there. on_ok (move (SendDocumentAct ask.last (has_data ask)) job.standing) (document_place ask job is there))

    quota_readable : (now : ℕ) → QuotaIsReadable name now db
    quota_readable now = record { jobs = read.counted; grants = read.added _ }

    operation_readable : (now : ℕ) (ask : PlainAsk) → AreSoundDevices db → (operation : Operation) → IsReadableFor name now ask db operation
    operation_readable now ask devices PrintJob = (read.few, next_place ask)
    operation_readable now ask devices ValidateJob = read.few
    operation_readable now ask devices CreateJob = (read.few, next_place ask)
    operation_readable now ask devices SendDocument = sending_readable ask
    operation_readable now ask devices CancelJob = λ may. read.jobs ask.job
    operation_readable now ask devices GetJobAttributes = λ may. read.jobs ask.job
    operation_readable now ask devices GetJobs = jobs_readable ask.which ask.limit
    operation_readable now ask devices GetPrinterAttributes = (read.queued, (sound_rows_are_read.of_devices db has devices).all)
    operation_readable now ask devices HoldJob = λ may. read.jobs ask.job
    operation_readable now ask devices ReleaseJob = act_readable ask.job _ (λ it is there goes. quota_readable now)

    open_readable : (now : ℕ) → AreSoundDevices db → (it : AccountEvent) → IsReadableOpen name now (OfAccount name it) db
    open_readable now devices Open = tt
    open_readable now devices (Ipp body) = if_ok (ask_of name body) (λ ask. operation_readable now ask devices ask.operation)
    open_readable now devices (Release device job password impressions) = (station_readable device devices, λ rate ready. act_readable job _ (λ it is there goes. quota_readable now))
    open_readable now devices (Start device job) = (station_readable device devices, λ rate ready. act_readable job _ (λ it is there. on_ok (move (StationStart device rate now) it.standing) (read.documents job)))
    open_readable now devices (Settle device job impressions failed) = ((sound_rows_are_read.of_devices db has devices).devices device, λ known. act_readable job _ (λ it is there. on_ok (move (StationSettle device impressions failed now) it.standing) (quota_readable now)))
    open_readable now devices (Grant month pages) = read.grants month

pub sound_rows_are_readable : SoundRowsAreReadable
sound_rows_are_readable now (OfAccount name it) db has sound = λ not_short.
    let account = sound.0 in
    let devices = sound.1 in
    record { account = (sound_rows_are_read.accounts db name has account).account; where_open = λ is_open. open_readable db has name account now devices it }
sound_rows_are_readable now (OfDevice device it) db has sound = (sound_rows_are_read.of_devices db has sound).devices device
