-- What a station is answered, of the device and the job that were found.
use Rattle.std.proofs.Common.{◌≡◌, ℕ, ℤ, pos, negsuc, Bool, true, false, if◌then◌else◌, List, Option, Some, None, IsSome, option_map, Result, Ok, Err, IfOk, OnOk, refl, sym, ap, subst, ◌∙◌, arith}
use Rattle.std.proofs.lemmas.Bool.Decides.{nat_tests}
use Rattle.sqlite_value.specs.Order.{Row}
use Rattle.std.specs.FinMap.{get}
use Rattle.sqlite.specs.Effect.{Database}
use Rattle.account_rules.specs.JobStates.{is_released}
use Rattle.account_replies.specs.Stations.{check_on, known_device, left_after, ready_device}
use Rattle.account_machine.specs.JobActs.{job_or_refusal}
use Rattle.account_machine.specs.Stations.{PlainStation, by_word, station_release, release_told, station_settle, settling_told, station_start}
use Rattle.account_machine.proofs.Sums.{left_moved}
use Rattle.account_machine.specs.Steps.{and_then, telling, with_moved}
use Rattle.account_rules.specs.Acts.{Act, ReleaseJob, StationRelease, StationSettle, StationStart}
use Rattle.account_rules.specs.declared.device.Device.{Device}
use Rattle.account_rules.specs.declared.job.Job.{Job}
use Rattle.account_rules.specs.declared.job.Standing.{Standing}
use Rattle.account_rules.specs.declared.refusal.Refusal.{Refusal}
use Rattle.account_rules.specs.declared.refusal.Word.{Word}
use Rattle.account_rules.specs.declared.refusal.Word.TheVariants.{NoDevice, NoJob, Quota}
use Rattle.account_rules.specs.Moves.{move}
use Rattle.account_rules.specs.Effects.{refused}
use Rattle.account_rules.specs.Quota.{exceeds}
use Rattle.account_rules.specs.StateLaws.{kept_to_quota, within_quota}
use Rattle.account_rules.specs.declared.job.JobState.{JobState}
use Rattle.account_rules.specs.declared.job.JobState.TheVariants.{Held, Pending, Processing, Canceled, Aborted, Completed}
use Rattle.account_replies.specs.declared.station_line.Success.TheVariants.{Released, Settled}
use Rattle.account_state.specs.Rooms.{RoomValue}
use Rattle.account_state.specs.Sums.{left_in}
use Rattle.rows_tables.specs.Cells.{device_cells, on_cells}
use Rattle.rows_tables.specs.Devices.{device_at, HoldsDevices}
use Rattle.store_events.specs.ProofKnown.{ready_rate}
use Rattle.store_events.specs.Reading.{GoesByQuota}

within_itself : (n : ℕ) → exceeds n (pos n) ≡ false
within_itself n = grind (arith, nat_tests)

-- a job is released as it was asked, or not at all
within_is : (standing : Standing) (left : ℤ) (kept : Standing) → within_quota standing left ≡ Ok kept → within_quota standing left ≡ Ok standing
within_is standing left kept =
    elim (exceeds standing.reserved left) as (λ b. (if b then refused (Quota standing.reserved left) else Ok standing) ≡ Ok kept → (if b then refused (Quota standing.reserved left) else Ok standing) ≡ Ok standing)
    [ true ↦ λ is. let no : ⊥ = cc in absurd no | false ↦ λ is. refl ]

pub within_same : (asked : Result Standing Refusal) (standing : Standing) (left : ℤ) (kept : Result Standing Refusal) → kept ≡ within_quota standing left → asked ≡ Ok standing → IfOk kept (λ released. asked ≡ Ok released)
within_same asked standing left kept is same =
    subst (λ (r : Result Standing Refusal). IfOk r (λ released. asked ≡ Ok released)) (sym is)
    (elim (exceeds standing.reserved left) as (λ b. IfOk (if b then refused (Quota standing.reserved left) else Ok standing) (λ released. asked ≡ Ok released)) [ true ↦ tt | false ↦ same ])

kept_is : (before : JobState) (left : ℤ) (standing kept : Standing) → kept_to_quota before left (Ok standing) ≡ Ok kept → kept_to_quota before left (Ok standing) ≡ Ok standing
kept_is before left standing kept =
    elim (is_released before) as (λ b. (if b then Ok standing else within_quota standing left) ≡ Ok kept → (if b then Ok standing else within_quota standing left) ≡ Ok standing)
    [ true ↦ λ is. refl | false ↦ within_is standing left kept ]

-- ---- what is read for an act

-- a release that all but the quota lets go on goes by what is left
pub goes_by_quota : (release : ℤ → Act) (s next : Standing) → is_released s.state ≡ false → ((left : ℤ) → move (release left) s ≡ kept_to_quota s.state left (Ok next)) → GoesByQuota release s
goes_by_quota release s next isnt moved = (pos next.reserved, negsuc 0, λ same. differs (sym enough ∙ same ∙ less))
  where
    enough : move (release (pos next.reserved)) s ≡ Ok next
    enough = moved (pos next.reserved) ∙ rw (isnt, within_itself next.reserved) refl

    less : move (release (negsuc 0)) s ≡ refused (Quota next.reserved (negsuc 0))
    less = moved (negsuc 0) ∙ rw isnt refl

    differs : ◌≡◌ {A = Result Standing Refusal} (Ok next) (refused (Quota next.reserved (negsuc 0))) → ⊥
    differs is = cc

-- no job is released at a station that was released before
station_held : (s next : Standing) (kept device given : List ℕ) (impressions rate : ℕ) → ((left : ℤ) → move (StationRelease kept device given impressions rate left) s ≡ kept_to_quota s.state left (Ok next)) → (state : JobState) → s.state ≡ state
    → is_released state ≡ false
station_held s next kept device given impressions rate moved Held is = refl
station_held s next kept device given impressions rate moved Pending is = let e = rw is at (moved (pos 0)) in let no : ⊥ = cc in absurd no
station_held s next kept device given impressions rate moved Processing is = let e = rw is at (moved (pos 0)) in let no : ⊥ = cc in absurd no
station_held s next kept device given impressions rate moved Canceled is = refl
station_held s next kept device given impressions rate moved Aborted is = refl
station_held s next kept device given impressions rate moved Completed is = refl

pub station_reads : {Q : Type 0} (s : Standing) (kept device given : List ℕ) (impressions rate : ℕ) (asked : Result Standing Refusal) → ((left : ℤ) → move (StationRelease kept device given impressions rate left) s ≡ kept_to_quota s.state left asked)
    → (GoesByQuota (StationRelease kept device given impressions rate) s → Q) → OnOk asked Q
station_reads s kept device given impressions rate (Err refusal) moved reads = tt
station_reads s kept device given impressions rate (Ok next) moved reads =
    reads (goes_by_quota (StationRelease kept device given impressions rate) s next (station_held s next kept device given impressions rate moved s.state refl) moved)

pub owner_reads : {Q : Type 0} (s : Standing) (has_password : Bool) (asked : Result Standing Refusal) → ((left : ℤ) → move (ReleaseJob has_password left) s ≡ kept_to_quota s.state left asked)
    → (GoesByQuota (ReleaseJob has_password) s → Q) → OnOk asked (is_released s.state ≡ false → Q)
owner_reads s has_password (Err refusal) moved reads = tt
owner_reads s has_password (Ok next) moved reads = λ isnt. reads (goes_by_quota (ReleaseJob has_password) s next isnt moved)

-- what is read where an act is done, also where a station is told the word alone
pub told_reads : (Q : Type 0) (moved : Result Standing Refusal) (decided : Result Standing Word) → decided ≡ by_word moved → OnOk moved Q → OnOk decided Q
told_reads Q (Ok standing) decided is reads = subst (λ (d : Result Standing Word). OnOk d Q) (sym is) reads
told_reads Q (Err refusal) decided is reads = subst (λ (d : Result Standing Word). OnOk d Q) (sym is) tt

-- a device that takes jobs has a row that says so
pub on_row : (device : List ℕ) (found : Option Bool) (on : Bool) (row : Option Row) → row ≡ option_map (on_cells device) found → known_device found ≡ Ok on → check_on on ≡ Ok tt → row ≡ Some (on_cells device true)
on_row device None on row there known takes = let no : ⊥ = cc in absurd no
on_row device (Some b) on row there known takes = there ∙ ap (λ (b : Bool). Some (on_cells device b)) ((let same : b ≡ on = cc in same) ∙ on_only on takes)
  where
    on_only : (on : Bool) → check_on on ≡ Ok tt → on ≡ true
    on_only true takes = refl
    on_only false takes = let no : ⊥ = cc in absurd no

-- a device that is known has its row
pub known_row : (device : List ℕ) (found : Option Bool) (on : Bool) (row : Option Row) → known_device found ≡ Ok on → row ≡ option_map (on_cells device) found → IsSome row
known_row device None on row known there = let no : ⊥ = cc in absurd no
known_row device (Some b) on row known there = subst (λ (o : Option Row). IsSome o) (sym there) refl

-- ---- one check after another

module _ (of_device : Result Device Word) (next : ℕ → Job → Act) (o : Option Job) where
  abbrev decide : Result Standing Word
  decide = and_then of_device (λ (ready : Device). by_word (and_then (job_or_refusal o) (λ (job : Job). move (next ready.rate job) job.standing)))

by_rate : (r : Result Device Word) (next : ℕ → Job → Act) (o : Option Job) (rate : ℕ) (job : Job) → and_then r (λ (ready : Device). Ok ready.rate) ≡ Ok rate → o ≡ Some job → decide r next o ≡ by_word (move (next rate job) job.standing)
by_rate (Ok device) next o rate job is there = rw there (let same : device.rate ≡ rate = cc in ap (λ (n : ℕ). by_word (move (next n job) job.standing)) same)
by_rate (Err word) next o rate job is there = let no : ⊥ = cc in absurd no

by_device : (r : Result Device Word) (next : ℕ → Job → Act) (o : Option Job) (word : Word) → and_then r (λ (ready : Device). Ok ready.rate) ≡ Err word → decide r next o ≡ Err word
by_device (Ok device) next o word is = let no : ⊥ = cc in absurd no
by_device (Err other) next o word is = let same : other ≡ word = cc in ap (λ (w : Word). Err w) same

by_missing : (r : Result Device Word) (next : ℕ → Job → Act) (o : Option Job) (rate : ℕ) → and_then r (λ (ready : Device). Ok ready.rate) ≡ Ok rate → o ≡ None → decide r next o ≡ Err NoJob
by_missing (Ok device) next o rate is none = rw none refl
by_missing (Err word) next o rate is none = let no : ⊥ = cc in absurd no

-- ---- what a station may ask of a job that was found

module _ (room : RoomValue) (at : PlainStation) (number : ℕ) where
  module _ (password : List ℕ) (impressions : ℕ) where
    release_by : ℕ → Job → Act
    release_by rate job = StationRelease job.password at.device password impressions rate (left_in room at.now)

    pub release_found : (rate : ℕ) (job : Job) → ready_rate (get at.devices at.device) ≡ Ok rate → get room.jobs number ≡ Some job → (asked : Result Standing Refusal)
        → ((left : ℤ) → move (StationRelease job.password at.device password impressions rate left) job.standing ≡ kept_to_quota job.standing.state left asked)
        → by_word (kept_to_quota job.standing.state (left_in room at.now) asked) ≡ station_release room at number password impressions
    unfolding release_by
    release_found rate job ready there asked moved =
        ap by_word (sym (moved (left_in room at.now))) ∙ sym (by_rate (ready_device (get at.devices at.device)) release_by (get room.jobs number) rate job ready there)

    pub release_refused : (word : Word) → ready_rate (get at.devices at.device) ≡ Err word → station_release room at number password impressions ≡ Err word
    unfolding release_by
    release_refused word ready = by_device (ready_device (get at.devices at.device)) release_by (get room.jobs number) word ready

    pub release_missing : (rate : ℕ) → ready_rate (get at.devices at.device) ≡ Ok rate → get room.jobs number ≡ None → station_release room at number password impressions ≡ Err NoJob
    unfolding release_by
    release_missing rate ready none = by_missing (ready_device (get at.devices at.device)) release_by (get room.jobs number) rate ready none

  start_by : ℕ → Job → Act
  start_by rate job = StationStart at.device rate at.now

  pub start_found : (rate : ℕ) (job : Job) → ready_rate (get at.devices at.device) ≡ Ok rate → get room.jobs number ≡ Some job → (decided : Result Standing Word) → decided ≡ by_word (move (StationStart at.device rate at.now) job.standing)
      → decided ≡ station_start room at number
  unfolding start_by
  start_found rate job ready there decided moved = moved ∙ sym (by_rate (ready_device (get at.devices at.device)) start_by (get room.jobs number) rate job ready there)

  pub start_refused : (word : Word) → ready_rate (get at.devices at.device) ≡ Err word → station_start room at number ≡ Err word
  unfolding start_by
  start_refused word ready = by_device (ready_device (get at.devices at.device)) start_by (get room.jobs number) word ready

  pub start_missing : (rate : ℕ) → ready_rate (get at.devices at.device) ≡ Ok rate → get room.jobs number ≡ None → station_start room at number ≡ Err NoJob
  unfolding start_by
  start_missing rate ready none = by_missing (ready_device (get at.devices at.device)) start_by (get room.jobs number) rate ready none

-- a device is known where its row is
known_as : (device : List ℕ) (found : Option Bool) (o : Option Device) → option_map (on_cells device) found ≡ option_map device_cells o → (on : Bool) → known_device found ≡ Ok on → (it : Device) × (known_device o ≡ Ok it)
known_as device found (Some it) rows on known = (it, refl)
known_as device (Some b) None rows on known = let no : ⊥ = cc in absurd no
known_as device None None rows on known = let no : ⊥ = cc in absurd no

unknown_as : (device : List ℕ) (found : Option Bool) (o : Option Device) → option_map (on_cells device) found ≡ option_map device_cells o → (word : Word) → known_device found ≡ Err word → known_device o ≡ Err word
unknown_as device None None rows word known = let same : NoDevice ≡ word = cc in ap (λ (w : Word). Err w) same
unknown_as device None (Some it) rows word known = let no : ⊥ = cc in absurd no
unknown_as device (Some b) o rows word known = let no : ⊥ = cc in absurd no

module _ (room : RoomValue) (at : PlainStation) (number impressions : ℕ) (failed : Bool) (db : Database) (held : HoldsDevices db at.devices) (found : Option Bool) (its_row : device_at db at.device ≡ option_map (on_cells at.device) found) where
  rows : option_map (on_cells at.device) found ≡ option_map device_cells (get at.devices at.device)
  rows = sym its_row ∙ held.device_rows at.device

  pub settle_refused : (word : Word) → known_device found ≡ Err word → station_settle room at number impressions failed ≡ Err word
  settle_refused word known = ap (λ (r : Result Device Word). and_then r (λ (it : Device). by_word (and_then (job_or_refusal (get room.jobs number)) (λ (job : Job). move (StationSettle at.device impressions failed at.now) job.standing)))) (unknown_as at.device found (get at.devices at.device) rows word known)

  with_known : (on : Bool) → known_device found ≡ Ok on → (o : Option Job) → get room.jobs number ≡ o → station_settle room at number impressions failed ≡ by_word (and_then (job_or_refusal o) (λ (job : Job). move (StationSettle at.device impressions failed at.now) job.standing))
  with_known on known o there =
      ap (λ (r : Result Device Word). and_then r (λ (it : Device). by_word (and_then (job_or_refusal (get room.jobs number)) (λ (job : Job). move (StationSettle at.device impressions failed at.now) job.standing)))) (known_as at.device found (get at.devices at.device) rows on known).1
      ∙ ap (λ (p : Option Job). by_word (and_then (job_or_refusal p) (λ (job : Job). move (StationSettle at.device impressions failed at.now) job.standing))) there

  pub settle_found : (on : Bool) → known_device found ≡ Ok on → (job : Job) → get room.jobs number ≡ Some job → (decided : Result Standing Word) → decided ≡ by_word (move (StationSettle at.device impressions failed at.now) job.standing)
      → decided ≡ station_settle room at number impressions failed
  settle_found on known job there decided moved = moved ∙ sym (with_known on known (Some job) there)

  pub settle_missing : (on : Bool) → known_device found ≡ Ok on → get room.jobs number ≡ None → station_settle room at number impressions failed ≡ Err NoJob
  settle_missing on known none = with_known on known None none

-- ---- what is told of the quota

module _ (room : RoomValue) (now : ℕ) (job : Job) (there : get room.jobs job.job ≡ Some job) (standing : Standing) (left left_then : ℤ) (was : left ≡ left_in room now) (after : left_then ≡ left_after left job.standing standing) where
  told_left : left_then ≡ left_in (with_moved room job.job standing) now
  told_left = after ∙ ap (λ units. left_after units job.standing standing) was ∙ left_moved room now job.job job standing there

  pub settled_so : (decided : Result Standing Word) → decided ≡ Ok standing → telling (with_moved room job.job standing) (Settled standing.charged left_then) ≡ settling_told room now job.job decided
  settled_so decided is = ap (λ units. telling (with_moved room job.job standing) (Settled standing.charged units)) told_left ∙ ap (settling_told room now job.job) (sym is)

  pub released_so : (asked : Result Standing Refusal) → asked ≡ Ok standing → (kept : Standing) → kept_to_quota job.standing.state left (Ok standing) ≡ Ok kept
      → telling (with_moved room job.job standing) (Released standing.reserved left_then) ≡ release_told room now job.job (by_word (kept_to_quota job.standing.state (left_in room now) asked))
  released_so asked is kept stays =
      ap (λ units. telling (with_moved room job.job standing) (Released standing.reserved units)) told_left
      ∙ ap (λ (d : Result Standing Refusal). release_told room now job.job (by_word d)) (sym (ap (λ (a : Result Standing Refusal). kept_to_quota job.standing.state (left_in room now) a) is ∙ ap (λ units. kept_to_quota job.standing.state units (Ok standing)) (sym was) ∙ kept_is job.standing.state left standing kept stays))
