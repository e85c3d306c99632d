-- A station's line is answered by what was told before it.
use Rattle.std.proofs.Common.{◌≡◌, ◌*◌, ℕ, ℤ, pos, negsuc, Bool, true, false, cond, ◌==◌, ◌||◌, ◌&&◌, is_none, not, List, [], ◌∷◌, ◌++◌, map, length, bytes_eq, codes, Option, Some, None, Result, Ok, refl, sym, ap, ◌∙◌, arith}
use Rattle.std.specs.FinMap.{get}
use Rattle.std.specs.Fmt.{decimal, signed_decimal}
use Rattle.std.proofs.lemmas.Grind.{common_steps}
use Rattle.account_machine.specs.Verdicts.{line_done}
use Rattle.account_machine.specs.Events.{OfAccount, Release, Start, Settle}
use Rattle.account_machine.specs.Machine.{answered}
use Rattle.account_machine.specs.Stations.{by_word}
use Rattle.account_machine.specs.Steps.{Step, refusing_or, telling, with_moved}
use Rattle.account_machine.specs.declared.event.Reply.{Reply}
use Rattle.account_machine.specs.declared.event.Reply.TheVariants as reply
use Rattle.account_laws.proofs.AsTold.{AccountKeeps, Keeps, all_keep, counts_alike, each_keeps}
use Rattle.account_laws.proofs.AsToldSums.{left_as_told}
use Rattle.account_laws.proofs.Changes.{releases, settles}
use Rattle.account_laws.proofs.DocumentsOfJobs.{AreOfJobs, RoomHasOfJobs, handed_as_sent, has_of_jobs}
use Rattle.account_lives.proofs.LifeLemmas.{front_of_life}
use Rattle.account_laws.proofs.LineChecks.{acted_on, job_stands, known_stands, opened_stands, ready_stands, refusal_in, told_by, unopened_stands}
use Rattle.account_laws.proofs.Moved.{ended_is, none_ended, same_copies, was_unfinished}
use Rattle.account_laws.specs.AccountsTold.{AccountTold, account_told, after_deed, left_told, rate_told}
use Rattle.account_laws.specs.Deeds.{Released, Settled}
use Rattle.account_laws.specs.JobsTold.{JobTold, Sent, Stage, Waits, IsFree, Prints, HasEnded}
use Rattle.account_laws.specs.Refusals.{Check, first_refusal}
use Rattle.account_laws.specs.StandsAsTold.{IsAsTold, IsAt, device_told}
use Rattle.account_laws.specs.StationAnswers.{ReleasesAreAnswered, SettlementsAreAnswered, StartsAreAnswered, charge_of, device_checks, is_past, is_waiting, is_wrong, line_of, job_checks, need_at, part_told, ready_checks, release_answer, release_checks, settle_answer, settle_checks, start_answer, start_checks, with_its_job}
use Rattle.account_replies.specs.Lines.{success_text}
use Rattle.account_replies.specs.Parts.{part_of}
use Rattle.account_replies.specs.Stations.{ready_device}
use Rattle.account_replies.specs.declared.part.Part.{Part}
use Rattle.account_replies.specs.declared.station_line.Success.TheVariants as success
use Rattle.account_rules.specs.Acts.{Act, StationRelease, StationSettle, StationStart}
use Rattle.account_rules.specs.Devices.{Devices}
use Rattle.account_rules.specs.Effects.{after_settling, after_start, after_station_release, impressions_of, is_bound_elsewhere, is_incomplete, is_wrong_password, refused}
use Rattle.account_rules.specs.JobStates.{has_ended, is_unfinished}
use Rattle.account_rules.specs.Moves.{cell, move}
use Rattle.account_rules.specs.Quota.{exceeds}
use Rattle.account_rules.specs.declared.device.Device.{Device}
use Rattle.account_rules.specs.declared.job.Job.{Job}
use Rattle.account_rules.specs.declared.job.JobState.{JobState}
use Rattle.account_rules.specs.declared.job.JobState.TheVariants.{Held, Pending, Processing}
use Rattle.account_rules.specs.declared.job.Standing.{Standing}
use Rattle.account_rules.specs.declared.refusal.Refusal.{Refusal}
use Rattle.account_rules.specs.declared.refusal.Word.{Word}
use Rattle.account_rules.specs.declared.refusal.Word.TheVariants.{ImpressionsUnknown, Incomplete, NotHeld, NotPending, NotProcessing, OtherDevice, Password, Quota, Rate}
use Rattle.account_state.specs.Documents.{documents_of}
use Rattle.account_state.specs.Rooms.{RoomValue}
use Rattle.account_state.specs.Sums.{left_in}

-- ---- a release

same_past : (need : ℕ) (left : ℤ) → exceeds need left ≡ is_past need left
same_past need (pos left) = refl
same_past need (negsuc below) = refl

-- one check after another
first_of_five : (incomplete wrong unknown past : Bool) (need : ℕ) (left : ℤ) (next : Standing)
    → refusal_in (by_word (cond incomplete (refused Incomplete) (cond wrong (refused Password) (cond unknown (refused ImpressionsUnknown) (cond past (refused (Quota need left)) (Ok next))))))
    ≡ first_refusal ((false, NotHeld) ∷ (incomplete, Incomplete) ∷ (wrong, Password) ∷ (unknown, ImpressionsUnknown) ∷ (past, Quota need left) ∷ [])
first_of_five true wrong unknown past need left next = refl
first_of_five false true unknown past need left next = refl
first_of_five false false true past need left next = refl
first_of_five false false false true need left next = refl
first_of_five false false false false need left next = refl

-- by all of it
abbrev told_checks : (stage : Stage) (incomplete : Bool) (password given : List ℕ) (impressions need : ℕ) (left : ℤ) → Option Word
told_checks stage incomplete password given impressions need left =
    first_refusal ((not (is_waiting stage), NotHeld) ∷ (incomplete, Incomplete) ∷ (is_wrong password given, Password) ∷ (impressions == 0, ImpressionsUnknown) ∷ (is_past need left, Quota need left) ∷ [])

waiting_release : (s : Standing) (kept device given : List ℕ) (handed_in rate : ℕ) (left : ℤ) → refusal_in (by_word (after_station_release s kept device given handed_in rate left)) ≡ told_checks Waits (is_incomplete s) kept given (impressions_of s handed_in) (impressions_of s handed_in * s.copies * rate) left
waiting_release s kept device given handed_in rate left =
    let need = impressions_of s handed_in * s.copies * rate in
    first_of_five (is_incomplete s) (is_wrong_password kept given) (impressions_of s handed_in == 0) (exceeds need left) need left _
    ∙ ap (λ (past : Bool). first_refusal ((false, NotHeld) ∷ (is_incomplete s, Incomplete) ∷ (is_wrong kept given, Password) ∷ (impressions_of s handed_in == 0, ImpressionsUnknown) ∷ (past, Quota need left) ∷ [])) (same_past need left)

reserved_by : (kept device given : List ℕ) (handed_in rate : ℕ) (left : ℤ) (s next : Standing) → move (StationRelease kept device given handed_in rate left) s ≡ Ok next → next.reserved ≡ impressions_of s handed_in * s.copies * rate
reserved_by kept device given handed_in rate left s next goes = grind (arith, common_steps)

-- a job that is bound goes to its device alone, another to devices with rate 1
abbrev bound_checks : (bound : Option (List ℕ)) (device : List ℕ) (rate : ℕ) → List (Check Word)
bound_checks None device rate = (not (rate == 1), Rate) ∷ []
bound_checks (Some name) device rate = (not (bytes_eq name device), OtherDevice) ∷ []

first_of_two : (other wrong : Bool) (next : Standing) → refusal_in (by_word (cond other (refused OtherDevice) (cond wrong (refused Rate) (Ok next)))) ≡ first_refusal ((other, OtherDevice) ∷ (wrong, Rate) ∷ [])
first_of_two true wrong next = refl
first_of_two false true next = refl
first_of_two false false next = refl

bound_first : (bound : Option (List ℕ)) (device : List ℕ) (rate : ℕ) (next : Standing)
    → refusal_in (by_word (cond (is_bound_elsewhere bound device) (refused OtherDevice) (cond (is_none bound && not (rate == 1)) (refused Rate) (Ok next)))) ≡ first_refusal (bound_checks bound device rate)
bound_first None device rate next = first_of_two false (not (rate == 1)) next
bound_first (Some name) device rate next = first_of_two (not (bytes_eq name device)) false next

other_first : (bound : Option (List ℕ)) (device : List ℕ) (next : Standing) → refusal_in (by_word (cond (is_bound_elsewhere bound device) (refused OtherDevice) (Ok next))) ≡ first_refusal ((is_bound_elsewhere bound device, OtherDevice) ∷ [])
other_first bound device next = one (is_bound_elsewhere bound device)
  where
    one : (other : Bool) → refusal_in (by_word (cond other (refused OtherDevice) (Ok next))) ≡ first_refusal ((other, OtherDevice) ∷ [])
    one true = refl
    one false = refl

-- what a settlement charges is the count at the rate of the release
charged_by : (device : List ℕ) (count : ℕ) (failed : Bool) (now : ℕ) (stage : Stage) (s next : Standing) → IsAt stage s → move (StationSettle device count failed now) s ≡ Ok next → next.charged ≡ charge_of count stage
charged_by device count failed now Waits s next at goes = absurd (grind (arith, common_steps))
charged_by device count failed now (IsFree for at_rate units) s next at goes = absurd (grind (arith, common_steps))
charged_by device count failed now (Prints by at_rate units since is_canceled) s next at goes = let is : next.charged ≡ count * s.rate = grind (arith, common_steps) in is ∙ ap (λ (r : ℕ). count * r) at.rated
charged_by device count failed now (HasEnded how counted units since ended) s next at goes = absurd (none_ended (StationSettle device count failed now) s next goes (ap has_ended at.state ∙ at.is_end))

module _ (told : AccountTold) (room : RoomValue) (devices : Devices) (known : (name : List ℕ) → get devices name ≡ device_told told name) (keeps : Keeps told room) (now : ℕ) (account device : List ℕ) (number : ℕ) where
  module _ (password : List ℕ) (handed_in : ℕ) where
    abbrev release_of : Device → Job → Act
    release_of ready job = StationRelease job.password device password handed_in ready.rate (left_in room now)

    abbrev tells_released : Standing → Step
    tells_released standing = telling (with_moved room number standing) (success.Released standing.reserved (left_in (with_moved room number standing) now))

    abbrev released_as_told : JobTold → Reply
    released_as_told ticket =
        reply.Line (codes "ok reserved " ++ (decimal (need_at told device handed_in ticket) ++ (codes " left " ++ signed_decimal (left_told (after_deed now told (Released device number handed_in)) now))))

    module _ (ticket : JobTold) (job : Job) (ready : Device) (is_ready : ready_device (get devices device) ≡ Ok ready) (rate : ready.rate ≡ rate_told told device) (there : get room.jobs number ≡ Some job) (is : IsAsTold number ticket room job) where
      abbrev release : Act
      release = release_of ready job

      needs : impressions_of job.standing handed_in * job.standing.copies * ready.rate ≡ need_at told device handed_in ticket
      needs = λ i. counts_alike job.standing handed_in ticket is.impressions i * is.copies i * rate i

      told_alike : (stage : Stage) → ticket.stage ≡ stage → (incomplete : Bool) → incomplete ≡ (ticket.is_open || length ticket.documents == 0)
          → told_checks stage incomplete job.password password (impressions_of job.standing handed_in) (impressions_of job.standing handed_in * job.standing.copies * ready.rate) (left_in room now) ≡ first_refusal (release_checks told now device password handed_in ticket)
      told_alike stage at incomplete whole = λ i. told_checks (sym at i) (whole i) (is.password i) password (counts_alike job.standing handed_in ticket is.impressions i) (needs i) (left_as_told told room keeps.stands now i)

      at_state : (state : JobState) → job.standing.state ≡ state
          → refusal_in (by_word (move release job.standing)) ≡ refusal_in (by_word (cell state (after_station_release job.standing job.password device password handed_in ready.rate (left_in room now)) (refused NotHeld) (refused NotHeld) (refused NotHeld)))
      at_state state same = ap (λ (state : JobState). refusal_in (by_word (cell state (after_station_release job.standing job.password device password handed_in ready.rate (left_in room now)) (refused NotHeld) (refused NotHeld) (refused NotHeld)))) same

      release_by_stage : (stage : Stage) → ticket.stage ≡ stage → IsAt stage job.standing → refusal_in (by_word (move release job.standing)) ≡ first_refusal (release_checks told now device password handed_in ticket)
      release_by_stage Waits at it =
          let opens : job.standing.is_open ≡ ticket.is_open = is.is_open (ap is_unfinished it.state) in
          at_state Held it.state
          ∙ waiting_release job.standing job.password device password handed_in ready.rate (left_in room now)
          ∙ told_alike Waits at (is_incomplete job.standing) (λ i. opens i || is.count i == 0)
      release_by_stage (IsFree for at_rate units) at it = at_state Pending it.state ∙ told_alike (IsFree for at_rate units) at _ refl
      release_by_stage (Prints by at_rate units since is_canceled) at it = at_state Processing it.state ∙ told_alike (Prints by at_rate units since is_canceled) at _ refl
      release_by_stage (HasEnded how count units since ended) at it =
          at_state how it.state
          ∙ ap (λ (r : Result Standing Refusal). refusal_in (by_word r)) (ended_is how it.is_end _ _ _ _)
          ∙ told_alike (HasEnded how count units since ended) at _ refl

      release_told_so : (refusing_or room (by_word (move release job.standing)) tells_released).reply ≡ line_of (first_refusal (release_checks told now device password handed_in ticket)) (released_as_told ticket)
      release_told_so =
          told_by room tells_released (released_as_told ticket) (move release job.standing) (first_refusal (release_checks told now device password handed_in ticket)) (release_by_stage ticket.stage refl is.stage)
          (λ standing goes.
          let reserved = reserved_by job.password device password handed_in ready.rate (left_in room now) job.standing standing goes ∙ needs in
          let after = each_keeps told room devices known keeps now account _ _ _ (releases device number password handed_in ready job standing is_ready there goes) in
          let left = left_as_told (after_deed now told (Released device number handed_in)) (with_moved room number standing) after.stands now in
          λ i. reply.Line (success_text (success.Released (reserved i) (left i))))

    release_open : (answered (Some room) devices now (OfAccount account (Release device number password handed_in))).reply ≡ release_answer told now device number password handed_in
    release_open =
        let checks = release_checks told now device password handed_in in
        ready_stands told room devices device (λ (ready : Device). acted_on room (get room.jobs number) (release_of ready)) tells_released (job_checks told number checks) (with_its_job told number released_as_told) (known device)
        (λ ready is_ready rate.
        job_stands told room number (release_of ready) tells_released checks released_as_told (λ ticket job _ there is. release_told_so ticket job ready is_ready rate there is) (get told.jobs number) (get room.jobs number) refl refl (keeps.stands.jobs number))
        ∙ opened_stands told room.opened (ready_checks told device ++ job_checks told number checks) (with_its_job told number released_as_told) keeps.stands.opened

  -- ---- a start

  module _ (documents : AreOfJobs room.documents) where
    abbrev start_of : Device → Job → Act
    start_of ready job = StationStart device ready.rate now

    abbrev tells_started : Standing → Step
    tells_started standing = record { reply = reply.Documents (map (part_of standing.copies) (documents_of room number)); verdict = line_done; room = with_moved room number standing }

    abbrev started_as_told : JobTold → Reply
    started_as_told ticket = reply.Documents (map (part_told number ticket.maker.copies) ticket.documents)

    abbrev checks_of_start : JobTold → List (Check Word)
    checks_of_start ticket = start_checks told device ticket.stage

    module _ (ticket : JobTold) (job : Job) (ready : Device) (rate : ready.rate ≡ rate_told told device) (is : IsAsTold number ticket room job) where
      abbrev start_it : Act
      start_it = start_of ready job

      starts_at : (state : JobState) → job.standing.state ≡ state
          → refusal_in (by_word (move start_it job.standing)) ≡ refusal_in (by_word (cell state (refused NotPending) (after_start job.standing device ready.rate now) (refused NotPending) (refused NotPending)))
      starts_at state same = ap (λ (state : JobState). refusal_in (by_word (cell state (refused NotPending) (after_start job.standing device ready.rate now) (refused NotPending) (refused NotPending)))) same

      start_by_stage : (stage : Stage) → ticket.stage ≡ stage → IsAt stage job.standing → refusal_in (by_word (move start_it job.standing)) ≡ first_refusal (checks_of_start ticket)
      start_by_stage Waits at it = starts_at Held it.state ∙ ap (λ (stage : Stage). first_refusal (start_checks told device stage)) (sym at)
      start_by_stage (IsFree None at_rate units) at it =
          starts_at Pending it.state
          ∙ bound_first job.standing.device device ready.rate _
          ∙ (λ i. first_refusal (bound_checks (it.bound i) device (rate i)))
          ∙ ap (λ (stage : Stage). first_refusal (start_checks told device stage)) (sym at)
      start_by_stage (IsFree (Some name) at_rate units) at it =
          starts_at Pending it.state
          ∙ bound_first job.standing.device device ready.rate _
          ∙ ap (λ (bound : Option (List ℕ)). first_refusal (bound_checks bound device ready.rate)) it.bound
          ∙ ap (λ (stage : Stage). first_refusal (start_checks told device stage)) (sym at)
      start_by_stage (Prints by at_rate units since is_canceled) at it = starts_at Processing it.state ∙ ap (λ (stage : Stage). first_refusal (start_checks told device stage)) (sym at)
      start_by_stage (HasEnded how count units since ended) at it =
          starts_at how it.state
          ∙ ap (λ (r : Result Standing Refusal). refusal_in (by_word r)) (ended_is how it.is_end _ _ _ _)
          ∙ ap (λ (stage : Stage). first_refusal (start_checks told device stage)) (sym at)

      start_told_so : (refusing_or room (by_word (move start_it job.standing)) tells_started).reply ≡ line_of (first_refusal (checks_of_start ticket)) (started_as_told ticket)
      start_told_so =
          told_by room tells_started (started_as_told ticket) (move start_it job.standing) (first_refusal (checks_of_start ticket)) (start_by_stage ticket.stage refl is.stage)
          (λ standing goes.
          let copies = same_copies start_it job.standing standing goes ∙ is.copies in
          ap (λ (copies : ℕ). reply.Documents (map (part_of copies) (documents_of room number))) copies
          ∙ ap (λ (parts : List Part). reply.Documents parts) (handed_as_sent room number ticket.maker.copies documents)
          ∙ ap (λ (sent : List Sent). reply.Documents (map (part_told number ticket.maker.copies) sent)) (is.documents (was_unfinished start_it job.standing standing goes)))

    start_open : (answered (Some room) devices now (OfAccount account (Start device number))).reply ≡ start_answer told device number
    start_open =
        ready_stands told room devices device (λ (ready : Device). acted_on room (get room.jobs number) (start_of ready)) tells_started (job_checks told number checks_of_start) (with_its_job told number started_as_told) (known device)
        (λ ready is_ready rate.
        job_stands told room number (start_of ready) tells_started checks_of_start started_as_told (λ ticket job _ there is. start_told_so ticket job ready rate is) (get told.jobs number) (get room.jobs number) refl refl (keeps.stands.jobs number))
        ∙ opened_stands told room.opened (ready_checks told device ++ job_checks told number checks_of_start) (with_its_job told number started_as_told) keeps.stands.opened

  -- ---- a settlement

  module _ (count : ℕ) (failed : Bool) where
    abbrev settle_of : Job → Act
    settle_of job = StationSettle device count failed now

    abbrev tells_settled : Standing → Step
    tells_settled standing = telling (with_moved room number standing) (success.Settled standing.charged (left_in (with_moved room number standing) now))

    abbrev settled_as_told : JobTold → Reply
    settled_as_told ticket =
        reply.Line (codes "ok charged " ++ (decimal (charge_of count ticket.stage) ++ (codes " left " ++ signed_decimal (left_told (after_deed now told (Settled device number count failed)) now))))

    abbrev checks_of_settlement : JobTold → List (Check Word)
    checks_of_settlement ticket = settle_checks device ticket.stage

    module _ (ticket : JobTold) (job : Job) (of_it : Device) (is_known : get devices device ≡ Some of_it) (there : get room.jobs number ≡ Some job) (is : IsAsTold number ticket room job) where
      abbrev settle : Act
      settle = settle_of job

      settles_at : (state : JobState) → job.standing.state ≡ state
          → refusal_in (by_word (move settle job.standing)) ≡ refusal_in (by_word (cell state (refused NotProcessing) (refused NotProcessing) (after_settling job.standing device count failed now) (refused NotProcessing)))
      settles_at state same = ap (λ (state : JobState). refusal_in (by_word (cell state (refused NotProcessing) (refused NotProcessing) (after_settling job.standing device count failed now) (refused NotProcessing)))) same

      settle_by_stage : (stage : Stage) → ticket.stage ≡ stage → IsAt stage job.standing → refusal_in (by_word (move settle job.standing)) ≡ first_refusal (checks_of_settlement ticket)
      settle_by_stage Waits at it = settles_at Held it.state ∙ ap (λ (stage : Stage). first_refusal (settle_checks device stage)) (sym at)
      settle_by_stage (IsFree bound at_rate units) at it = settles_at Pending it.state ∙ ap (λ (stage : Stage). first_refusal (settle_checks device stage)) (sym at)
      settle_by_stage (Prints by at_rate units since is_canceled) at it = settles_at Processing it.state ∙ other_first job.standing.device device _ ∙ ap (λ (bound : Option (List ℕ)). first_refusal ((is_bound_elsewhere bound device, OtherDevice) ∷ [])) it.bound ∙ ap (λ (stage : Stage). first_refusal (settle_checks device stage)) (sym at)
      settle_by_stage (HasEnded how counted units since ended) at it =
          settles_at how it.state
          ∙ ap (λ (r : Result Standing Refusal). refusal_in (by_word r)) (ended_is how it.is_end _ _ _ _)
          ∙ ap (λ (stage : Stage). first_refusal (settle_checks device stage)) (sym at)

      settle_told_so : (refusing_or room (by_word (move settle job.standing)) tells_settled).reply ≡ line_of (first_refusal (checks_of_settlement ticket)) (settled_as_told ticket)
      settle_told_so =
          told_by room tells_settled (settled_as_told ticket) (move settle job.standing) (first_refusal (checks_of_settlement ticket)) (settle_by_stage ticket.stage refl is.stage)
          (λ standing goes.
          let charged = charged_by device count failed now ticket.stage job.standing standing is.stage goes in
          let after = each_keeps told room devices known keeps now account _ _ _ (settles device number count failed of_it job standing is_known there goes) in
          let left = left_as_told (after_deed now told (Settled device number count failed)) (with_moved room number standing) after.stands now in
          λ i. reply.Line (success_text (success.Settled (charged i) (left i))))

    settle_open : (answered (Some room) devices now (OfAccount account (Settle device number count failed))).reply ≡ settle_answer told now device number count failed
    settle_open =
        known_stands told room devices device (acted_on room (get room.jobs number) settle_of) tells_settled (job_checks told number checks_of_settlement) (with_its_job told number settled_as_told) (known device)
        (λ of_it is_known.
        job_stands told room number settle_of tells_settled checks_of_settlement settled_as_told (λ ticket job _ there is. settle_told_so ticket job of_it is_known there is) (get told.jobs number) (get room.jobs number) refl refl (keeps.stands.jobs number))
        ∙ opened_stands told room.opened (device_checks told device ++ job_checks told number checks_of_settlement) (with_its_job told number settled_as_told) keeps.stands.opened

-- ---- over a life

release_any : (told : AccountTold) (room : Option RoomValue) (devices : Devices) → ((name : List ℕ) → get devices name ≡ device_told told name) → AccountKeeps told room → (now : ℕ) (account device : List ℕ) (number : ℕ) (password : List ℕ) (handed_in : ℕ)
    → (answered room devices now (OfAccount account (Release device number password handed_in))).reply ≡ release_answer told now device number password handed_in
release_any told None devices known was now account device number password handed_in = unopened_stands told (ready_checks told device ++ job_checks told number (release_checks told now device password handed_in)) (with_its_job told number (λ (job : JobTold). reply.Line (codes "ok reserved " ++ (decimal (need_at told device handed_in job) ++ (codes " left " ++ signed_decimal (left_told (after_deed now told (Released device number handed_in)) now)))))) was.opened
release_any told (Some room) devices known keeps now account device number password handed_in = release_open told room devices known keeps now account device number password handed_in

pub releases_are_answered : ReleasesAreAnswered
releases_are_answered life room devices is past later now account device number password handed_in said here =
    let at = front_of_life life past later ((now, OfAccount account (Release device number password handed_in)), said) room devices is here in
    let all = all_keep past at.room at.devices at.first in
    at.rest.0 ∙ release_any (account_told past) at.room at.devices all.knows.known all.account now account device number password handed_in

start_any : (told : AccountTold) (room : Option RoomValue) (devices : Devices) → ((name : List ℕ) → get devices name ≡ device_told told name) → AccountKeeps told room → RoomHasOfJobs room → (now : ℕ) (account device : List ℕ) (number : ℕ)
    → (answered room devices now (OfAccount account (Start device number))).reply ≡ start_answer told device number
start_any told None devices known was of now account device number = unopened_stands told (ready_checks told device ++ job_checks told number (λ (job : JobTold). start_checks told device job.stage)) (with_its_job told number (λ (job : JobTold). reply.Documents (map (part_told number job.maker.copies) job.documents))) was.opened
start_any told (Some room) devices known keeps of now account device number = start_open told room devices known keeps now account device number of

pub starts_are_answered : StartsAreAnswered
starts_are_answered life room devices is past later now account device number said here =
    let at = front_of_life life past later ((now, OfAccount account (Start device number)), said) room devices is here in
    let all = all_keep past at.room at.devices at.first in
    at.rest.0 ∙ start_any (account_told past) at.room at.devices all.knows.known all.account (has_of_jobs past at.room at.devices at.first) now account device number

settle_any : (told : AccountTold) (room : Option RoomValue) (devices : Devices) → ((name : List ℕ) → get devices name ≡ device_told told name) → AccountKeeps told room → (now : ℕ) (account device : List ℕ) (number count : ℕ) (failed : Bool)
    → (answered room devices now (OfAccount account (Settle device number count failed))).reply ≡ settle_answer told now device number count failed
settle_any told None devices known was now account device number count failed = unopened_stands told (device_checks told device ++ job_checks told number (λ (job : JobTold). settle_checks device job.stage)) (with_its_job told number (λ (job : JobTold). reply.Line (codes "ok charged " ++ (decimal (charge_of count job.stage) ++ (codes " left " ++ signed_decimal (left_told (after_deed now told (Settled device number count failed)) now)))))) was.opened
settle_any told (Some room) devices known keeps now account device number count failed = settle_open told room devices known keeps now account device number count failed

pub settlements_are_answered : SettlementsAreAnswered
settlements_are_answered life room devices is past later now account device number count failed said here =
    let at = front_of_life life past later ((now, OfAccount account (Settle device number count failed)), said) room devices is here in
    let all = all_keep past at.room at.devices at.first in
    at.rest.0 ∙ settle_any (account_told past) at.room at.devices all.knows.known all.account now account device number count failed
