-- What a life leaves is what was asked and told in it.
use Rattle.std.proofs.Common.{◌≡◌, ◌≢◌, ℕ, ℤ, ◌+◌, ◌*◌, ◌<◌, ◌≤◌, Bool, true, false, cond, ◌==◌, not, nat_lt, List, [], ◌∷◌, ◌++◌, map, length, Option, Some, None, option_map, Result, Ok, is_some, unwrap_or, refl, sym, ap, subst, ◌∙◌, arith, append-nil, length-append}
use Rattle.std.specs.Cmp.Lexicographic.{nat_list_cmp_total}
use Rattle.std.specs.FinMap.{FinMap, contains_key, empty, get, get-empty, get-insert, insert}
use Rattle.std.specs.Option.{option_map_or, option_to_list}
use Rattle.std.specs.Ordering.{eq_by_cmp, nat_cmp}
use Rattle.std.proofs.lemmas.Bool.{eqb-false, eqb-true, ne_eqb, true≢false}
use Rattle.std.proofs.lemmas.Bool.Decides.{nat_tests}
use Rattle.std.proofs.lemmas.Grind.{common_steps}
use Rattle.std.proofs.lemmas.List.{map-append}
use Rattle.std.proofs.lemmas.List.Sums.{fold-append}
use Rattle.std.proofs.lemmas.Option.{none-some, same_Some}
use Rattle.ipp_coding.specs.Limits.{header_length}
use Rattle.account_asks.specs.Asks.{PlainAsk, PlainRefusal, ask_of}
use Rattle.account_asks.specs.Operations.{is_print_job}
use Rattle.account_asks.specs.declared.operation.Operation.{Operation}
use Rattle.account_asks.specs.declared.operation.Operation.TheVariants.{PrintJob, ValidateJob, CreateJob, SendDocument, GetJobAttributes, GetJobs, GetPrinterAttributes}
use Rattle.account_asks.specs.declared.operation.Operation.TheVariants as asks
use Rattle.account_machine.specs.Verdicts.{line_done, line_refused}
use Rattle.account_machine.specs.DeviceEvents.{DeviceAnswer, device_answered}
use Rattle.account_machine.specs.Events.{AccountEvent, DeviceEvent, OfAccount, OfDevice, Open, Ipp, Release, Start, Settle, Grant, Switch, Rate}
use Rattle.account_machine.specs.JobRequests.{has_data, has_password, sent_document}
use Rattle.account_machine.specs.Machine.{answered}
use Rattle.account_machine.specs.NewJobs.{new_document, new_job}
use Rattle.account_machine.specs.Steps.{with_moved}
use Rattle.account_machine.specs.declared.event.Reply.{Reply}
use Rattle.account_machine.specs.declared.event.Reply.TheVariants as reply
use Rattle.account_laws.proofs.Afterwards.{inserted}
use Rattle.account_laws.proofs.Changes.{Makes, refuses, reads, makes, takes, acts, releases, starts, settles, grants, act_asked, makes_one, only_reads, makes_jobs, ready_is}
use Rattle.account_laws.proofs.DevicesStay.{same_name}
use Rattle.account_lives.proofs.LifeLemmas.{account_exchange, device_exchange, of_each_life, unopened_answer}
use Rattle.account_laws.proofs.Moved.{no_document_more, one_document_more, same_copies, same_created, same_documents, was_unfinished, brings_document}
use Rattle.account_laws.proofs.PlacedDocuments.{Follows, none_after, none_placed, others_stay, placed, placed_with, same_placed}
use Rattle.account_laws.proofs.StageLemmas.{canceled_at, freed_at, freed_binds, held_at, held_binds, released_at, sent_at, settled_at, started_at}
use Rattle.account_laws.specs.AccountsTold.{AccountTold, account_told, after_deed, after_exchange, nothing_told, rate_told, with_job}
use Rattle.account_laws.specs.Deeds.{Deed, Opened, Made, Brought, Released, Started, Settled, Granted, Switched, Rated, NoDeed, account_deed, asked_deed, deed_of_request, device_deed}
use Rattle.account_laws.specs.JobsTold.{JobTold, Sent, brought_first, impressions_told, is_left_open, stage_released, job_brought, job_canceled, job_freed, job_held, job_made, job_released, job_settled, job_started, sent_by}
use Rattle.account_lives.specs.Lives.{Exchange, IsLife, Life}
use Rattle.account_laws.specs.StandsAsTold.{AccountStands, AreAsTold, IsAsTold, IsAt, LeavesAsTold, StandsAsTold, WasNotOpened, as_sent, device_told}
use Rattle.account_laws.specs.Told.{if_passed, is_documents, is_ok, is_successful, request_of}
use Rattle.account_replies.specs.Lines.{success_text}
use Rattle.account_replies.specs.Words.{word_text}
use Rattle.account_replies.specs.declared.station_line.Success.TheVariants as success
use Rattle.account_rules.specs.Acts.{Act, CancelJob, HoldJob, ReleaseJob, StationRelease, StationStart, StationSettle}
use Rattle.account_rules.specs.Acts as act
use Rattle.account_rules.specs.Devices.{Devices, is_on_in, name_cmp, rate_of}
use Rattle.account_rules.specs.Effects.{impressions_of}
use Rattle.account_rules.specs.JobStates.{is_unfinished}
use Rattle.account_rules.specs.Moves.{move}
use Rattle.account_rules.specs.declared.device.Device.{Device}
use Rattle.account_rules.specs.declared.job.Document.{Document}
use Rattle.account_rules.specs.declared.job.Job.{Job}
use Rattle.account_rules.specs.declared.job.Standing.{Standing}
use Rattle.account_rules.specs.declared.refusal.Word.TheVariants.{NoDevice}
use Rattle.account_state.proofs.KeptDocuments.{left_document}
use Rattle.account_state.proofs.KeptRooms.{restood_there}
use Rattle.account_state.specs.Changes.{with_ended, with_grant, with_new_job, with_standing}
use Rattle.account_state.specs.Documents.{documents_of}
use Rattle.account_state.specs.Rooms.{RoomValue, empty_room, place_cmp}
use Rattle.account_state.specs.Sums.{left_in}

-- ---- what is kept beside

-- a job has a number below the next, and no document behind those that it was given; a number from
-- the next on has none
pub record Keeps (told : AccountTold) (room : RoomValue) : Type 0 where
  pub stands : StandsAsTold told room
  pub below : (number : ℕ) (job : Job) → get room.jobs number ≡ Some job → number < room.next
  pub no_further : (number : ℕ) (job : Job) → get room.jobs number ≡ Some job → is_unfinished job.standing.state ≡ true → (k : ℕ) → job.standing.documents < k → get room.documents (number, k) ≡ None
  pub unused : (number : ℕ) → room.next ≤ number → (k : ℕ) → get room.documents (number, k) ≡ None

-- ---- a job that was told of, and one that is there

pub record Found (number : ℕ) (told : AccountTold) (room : RoomValue) (job : Job) : Type 0 where
  pub ticket : JobTold
  pub is_told : get told.jobs number ≡ Some ticket
  pub is : IsAsTold number ticket room job

pub found : (number : ℕ) (told : AccountTold) (room : RoomValue) (job : Job) → StandsAsTold told room → get room.jobs number ≡ Some job → Found number told room job
found number told room job stands there = by (get told.jobs number) refl (get room.jobs number) there (stands.jobs number)
  where
    by : (ticket : Option JobTold) → get told.jobs number ≡ ticket → (o : Option Job) → o ≡ Some job → AreAsTold number ticket room o → Found number told room job
    by None is o here are = absurd (none-some job (sym are ∙ here))
    by (Some ticket) is None here are = absurd are
    by (Some ticket) is (Some other) here are = record { ticket = ticket; is_told = is; is = subst (λ (j : Job). IsAsTold number ticket room j) (same_Some other job here) are }

pub with_job_there : (told : AccountTold) (number : ℕ) (change : JobTold → JobTold) (ticket : JobTold) → get told.jobs number ≡ Some ticket → with_job told number change ≡ record told { jobs = insert told.jobs number (change ticket) }
with_job_there told number change ticket there = rw there refl

-- ---- one job changes, and the others stay

-- its documents are the same in both rooms
abbrev KeepsDocuments : (before after : RoomValue) (number : ℕ) → Type 0
KeepsDocuments before after number = (k : ℕ) → get after.documents (number, k) ≡ get before.documents (number, k)

same_of_other : (before after : RoomValue) (number : ℕ) (ticket : JobTold) (job : Job) → KeepsDocuments before after number → IsAsTold number ticket before job → IsAsTold number ticket after job
same_of_other before after number ticket job keeps is = record {
  numbered = is.numbered;
  name = is.name;
  password = is.password;
  copies = is.copies;
  created = is.created;
  impressions = is.impressions;
  count = is.count;
  bound = is.bound;
  rated = is.rated;
  stage = is.stage;
  is_open = is.is_open;
  documents = λ unfinished. ap (map as_sent) (same_placed after.documents before.documents number keeps) ∙ is.documents unfinished;
}

still_are : (before after : RoomValue) (number : ℕ) (ticket : Option JobTold) (job : Option Job) → KeepsDocuments before after number → AreAsTold number ticket before job → AreAsTold number ticket after job
still_are before after number None job keeps are = are
still_are before after number (Some ticket) None keeps are = are
still_are before after number (Some ticket) (Some job) keeps are = same_of_other before after number ticket job keeps are

-- the room after is the one before but for this job, its documents and the next number
record Replaces (before after : RoomValue) (number : ℕ) (job : Job) : Type 0 where
  pub opened : after.opened ≡ before.opened
  pub up : before.next ≤ after.next
  pub below : number < after.next
  pub grants : after.grants ≡ before.grants
  pub jobs : (q : ℕ) → get after.jobs q ≡ cond (q == number) (Some job) (get before.jobs q)
  pub others : (q : ℕ) → q ≢ number → KeepsDocuments before after q
  pub no_further : is_unfinished job.standing.state ≡ true → (k : ℕ) → job.standing.documents < k → get after.documents (number, k) ≡ None

module _ (told : AccountTold) (before after : RoomValue) (number : ℕ) (ticket : JobTold) (job : Job) (next : ℕ) (keeps : Keeps told before) (replaces : Replaces before after number job) (is_next : after.next ≡ next)
    (is : IsAsTold number ticket after job) where
  abbrev told_after : AccountTold
  told_after = record told { jobs = insert told.jobs number ticket; next = next }

  are_all : (q : ℕ) → AreAsTold q (get (insert told.jobs number ticket) q) after (get after.jobs q)
  are_all q =
      subst (λ (o : Option Job). AreAsTold q (get (insert told.jobs number ticket) q) after o) (sym (replaces.jobs q))
      (subst (λ (o : Option JobTold). AreAsTold q o after (cond (q == number) (Some job) (get before.jobs q))) (sym (inserted told.jobs number ticket q)) (by (q == number) refl))
    where
      by : (b : Bool) → (q == number) ≡ b → AreAsTold q (cond b (Some ticket) (get told.jobs q)) after (cond b (Some job) (get before.jobs q))
      by true same = subst (λ (n : ℕ). IsAsTold n ticket after job) (sym (eqb-true q number same)) is
      by false other = still_are before after q (get told.jobs q) (get before.jobs q) (replaces.others q (eqb-false q number other)) (keeps.stands.jobs q)

  below_all : (q : ℕ) (other : Job) → get after.jobs q ≡ Some other → q < after.next
  below_all q other here = by (q == number) refl (sym (replaces.jobs q) ∙ here)
    where
      by : (b : Bool) → (q == number) ≡ b → cond b (Some job) (get before.jobs q) ≡ Some other → q < after.next
      by true same there = let this = eqb-true q number same in omega (arith, replaces.below)
      by false differs there = let less = keeps.below q other there in omega (arith, replaces.up)

  none_further : (q : ℕ) (other : Job) → get after.jobs q ≡ Some other → is_unfinished other.standing.state ≡ true → (k : ℕ) → other.standing.documents < k → get after.documents (q, k) ≡ None
  none_further q other here = by (q == number) refl (sym (replaces.jobs q) ∙ here)
    where
      by : (b : Bool) → (q == number) ≡ b → cond b (Some job) (get before.jobs q) ≡ Some other → is_unfinished other.standing.state ≡ true → (k : ℕ) → other.standing.documents < k → get after.documents (q, k) ≡ None
      by true same there unfinished k above =
          let it = same_Some job other there in
          subst (λ (n : ℕ). get after.documents (n, k) ≡ None) (sym (eqb-true q number same))
          (replaces.no_further (ap (λ (j : Job). is_unfinished j.standing.state) it ∙ unfinished) k (subst (λ (j : Job). j.standing.documents < k) (sym it) above))
      by false differs there unfinished k above = replaces.others q (eqb-false q number differs) k ∙ keeps.no_further q other there unfinished k above

  one_changes : Keeps told_after after
  one_changes = record {
    stands = record {
      opened = keeps.stands.opened ∙ ap Some (sym replaces.opened);
      next = is_next;
      jobs = are_all;
      grants = λ month. ap (λ (grants : FinMap nat_cmp ℕ). get grants month) replaces.grants ∙ keeps.stands.grants month;
    };
    below = below_all;
    no_further = none_further;
    unused = λ q above k. replaces.others q (let less = replaces.below in λ same. omega arith) k ∙ keeps.unused q (let up = replaces.up in omega arith) k;
  }

-- ---- an act on a job

-- the job's standing fits what was told of it
record Fits (ticket : JobTold) (s : Standing) : Type 0 where
  pub copies : s.copies ≡ ticket.maker.copies
  pub created : s.created ≡ ticket.made
  pub impressions : s.impressions ≡ ticket.impressions
  pub count : s.documents ≡ length ticket.documents
  pub bound : s.device ≡ ticket.device
  pub rated : s.rate ≡ ticket.rate
  pub stage : IsAt ticket.stage s
  pub is_open : is_unfinished s.state ≡ true → s.is_open ≡ ticket.is_open

-- what a job keeps of its maker
record IsOf (number : ℕ) (ticket : JobTold) (job : Job) : Type 0 where
  pub numbered : job.job ≡ number
  pub name : job.name ≡ ticket.maker.name
  pub password : job.password ≡ ticket.maker.password

as_told : (number : ℕ) (ticket : JobTold) (room : RoomValue) (job : Job) → IsOf number ticket job → Fits ticket job.standing → (is_unfinished job.standing.state ≡ true → map as_sent (documents_of room number) ≡ ticket.documents) → IsAsTold number ticket room job
as_told number ticket room job of fits documents = record {
  numbered = of.numbered;
  name = of.name;
  password = of.password;
  copies = fits.copies;
  created = fits.created;
  impressions = fits.impressions;
  count = fits.count;
  bound = fits.bound;
  rated = fits.rated;
  stage = fits.stage;
  is_open = fits.is_open;
  documents = documents;
}

-- what an act without a document leaves of the documents
left_of_others : (room : RoomValue) (number q : ℕ) (standing : Standing) → q ≢ number → KeepsDocuments room (with_moved room number standing) q
left_of_others room number q standing differs k =
    elim (is_unfinished standing.state) as (λ (b : Bool). get (cond b (with_standing room number standing None) (with_ended room number standing)).documents (q, k) ≡ get room.documents (q, k)) [
      | true ↦ refl
      | false ↦ left_document room.documents number (q, k) ∙ ap (λ b. cond (not b) (get room.documents (q, k)) None) (ne_eqb q number differs)
    ]

documents_left : (room : RoomValue) (number : ℕ) (standing : Standing) → is_unfinished standing.state ≡ true → (with_moved room number standing).documents ≡ room.documents
documents_left room number standing unfinished = ap (λ (b : Bool). (cond b (with_standing room number standing None) (with_ended room number standing)).documents) unfinished

pub jobs_moved : (room : RoomValue) (number : ℕ) (job : Job) (standing : Standing) → get room.jobs number ≡ Some job → (q : ℕ) → get (with_moved room number standing).jobs q ≡ cond (q == number) (Some (record job { standing = standing })) (get room.jobs q)
jobs_moved room number job standing there q =
    (elim (is_unfinished standing.state) as (λ (b : Bool). get (cond b (with_standing room number standing None) (with_ended room number standing)).jobs q ≡ get (insert room.jobs number (record job { standing = standing })) q) [
      | true ↦ ap (λ (jobs : FinMap nat_cmp Job). get jobs q) (restood_there room.jobs number standing job there)
      | false ↦ ap (λ (jobs : FinMap nat_cmp Job). get jobs q) (restood_there room.jobs number standing job there)
    ]) ∙ inserted room.jobs number (record job { standing = standing }) q

same_rest : (room : RoomValue) (number : ℕ) (standing : Standing) → ((with_moved room number standing).next ≡ room.next) × ((with_moved room number standing).opened ≡ room.opened) × ((with_moved room number standing).grants ≡ room.grants)
same_rest room number standing =
    elim (is_unfinished standing.state) as (λ (b : Bool). let after = cond b (with_standing room number standing None) (with_ended room number standing) in (after.next ≡ room.next) × (after.opened ≡ room.opened) × (after.grants ≡ room.grants))
    [ true ↦ (refl, refl, refl) | false ↦ (refl, refl, refl) ]

moved_keeps : (told : AccountTold) (room : RoomValue) (number : ℕ) (job : Job) (it : Act) (standing : Standing) (change : JobTold → JobTold) → Keeps told room → get room.jobs number ≡ Some job → brings_document it ≡ false
    → move it job.standing ≡ Ok standing
    → ((ticket : JobTold) → ((change ticket).maker ≡ ticket.maker) × ((change ticket).documents ≡ ticket.documents))
    → ((ticket : JobTold) → IsAsTold number ticket room job → Fits (change ticket) standing)
    → Keeps (with_job told number change) (with_moved room number standing)
moved_keeps told room number job it standing change keeps there silent goes same fits =
    let at = found number told room job keeps.stands there in
    let rest = same_rest room number standing in
    let its = same at.ticket in
    let replaces : Replaces room (with_moved room number standing) number (record job { standing = standing }) = record {
      opened = rest.1;
      up = let e = rest.0 in omega arith;
      below = let e = rest.0 in let less = keeps.below number job there in omega arith;
      grants = rest.2;
      jobs = jobs_moved room number job standing there;
      others = λ q differs. left_of_others room number q standing differs;
      no_further = λ unfinished k above.
          ap (λ (documents : FinMap place_cmp Document). get documents (number, k)) (documents_left room number standing unfinished)
          ∙ keeps.no_further number job there (was_unfinished it job.standing standing goes) k (subst (λ (n : ℕ). n < k) (same_documents it job.standing standing silent goes) above);
    } in
    let is = as_told number (change at.ticket) (with_moved room number standing) (record job { standing = standing })
    (record { numbered = at.is.numbered; name = at.is.name ∙ ap (λ (maker : PlainAsk). maker.name) (sym its.0); password = at.is.password ∙ ap (λ (maker : PlainAsk). maker.password) (sym its.0) })
    (fits at.ticket at.is)
    (λ unfinished. ap (λ (documents : FinMap place_cmp Document). map as_sent (placed documents number)) (documents_left room number standing unfinished) ∙ at.is.documents (was_unfinished it job.standing standing goes) ∙ sym its.1) in
    subst (λ (t : AccountTold). Keeps t (with_moved room number standing)) (sym (with_job_there told number change at.ticket at.is_told))
    (subst (λ (n : ℕ). Keeps (record told { jobs = insert told.jobs number (change at.ticket); next = n }) (with_moved room number standing)) keeps.stands.next
    (one_changes told room (with_moved room number standing) number (change at.ticket) (record job { standing = standing }) room.next keeps replaces rest.0 is))

-- ---- what each act keeps

-- the release at a station, at which impressions are handed in
abbrev is_station_release : Act → Bool
is_station_release (StationRelease kept device given impressions rate left) = true
is_station_release _ = false

-- what no act changes but the station's release
same_impressions : (it : Act) (s next : Standing) → is_station_release it ≡ false → move it s ≡ Ok next → next.impressions ≡ s.impressions
same_impressions it s next other goes = grind (arith, common_steps)

-- the device that a job is bound to, and its rate
abbrev HasDevice : (device : Option (List ℕ)) (rate : ℕ) (s : Standing) → Type 0
HasDevice device rate s = (s.device ≡ device) × (s.rate ≡ rate)

-- which a cancel, a settlement and a document leave
abbrev keeps_device : Act → Bool
keeps_device (CancelJob now) = true
keeps_device (StationSettle device completed failed now) = true
keeps_device (act.SendDocument last some_data) = true
keeps_device _ = false

same_device : (it : Act) (s next : Standing) → keeps_device it ≡ true → move it s ≡ Ok next → HasDevice s.device s.rate next
same_device it s next keeps goes = grind (arith, common_steps)

still_has : (number : ℕ) (ticket : JobTold) (room : RoomValue) (job : Job) (next : Standing) → IsAsTold number ticket room job → HasDevice job.standing.device job.standing.rate next → HasDevice ticket.device ticket.rate next
still_has number ticket room job next is has = (has.0 ∙ is.bound, has.1 ∙ is.rated)

released_binds : (kept device given : List ℕ) (handed_in rate : ℕ) (left : ℤ) (s next : Standing) → move (StationRelease kept device given handed_in rate left) s ≡ Ok next → HasDevice (Some device) rate next
released_binds kept device given handed_in rate left s next goes = grind (arith, common_steps)

started_binds : (device : List ℕ) (rate now : ℕ) (s next : Standing) → move (StationStart device rate now) s ≡ Ok next → HasDevice (Some device) s.rate next
started_binds device rate now s next goes = grind (arith, common_steps)

-- a job stays open or closed while it goes on, unless a document comes
same_open : (it : Act) (s next : Standing) → brings_document it ≡ false → move it s ≡ Ok next → is_unfinished next.state ≡ true → next.is_open ≡ s.is_open
same_open it s next silent goes unfinished = grind (arith, common_steps)

fits_moved : (number : ℕ) (ticket changed : JobTold) (room : RoomValue) (job : Job) (it : Act) (standing : Standing) → IsAsTold number ticket room job → brings_document it ≡ false → move it job.standing ≡ Ok standing
    → changed.maker ≡ ticket.maker → changed.made ≡ ticket.made → changed.documents ≡ ticket.documents → changed.is_open ≡ ticket.is_open → standing.impressions ≡ changed.impressions → HasDevice changed.device changed.rate standing
    → IsAt changed.stage standing → Fits changed standing
fits_moved number ticket changed room job it standing is silent goes maker made documents opens impressions has stage = record {
  copies = same_copies it job.standing standing goes ∙ is.copies ∙ ap (λ (m : PlainAsk). m.copies) (sym maker);
  created = same_created it job.standing standing goes ∙ is.created ∙ sym made;
  impressions = impressions;
  count = same_documents it job.standing standing silent goes ∙ is.count ∙ ap (λ (l : List Sent). length l) (sym documents);
  bound = has.0;
  rated = has.1;
  stage = stage;
  is_open = λ unfinished. same_open it job.standing standing silent goes unfinished ∙ is.is_open (was_unfinished it job.standing standing goes) ∙ sym opens;
}

-- what a request asks to be done
acted : (told : AccountTold) (room : RoomValue) (now : ℕ) (ask : PlainAsk) (job : Job) (it : Act) (standing : Standing) → Keeps told room → get room.jobs ask.job ≡ Some job → (operation : Operation)
    → act_asked room now job operation ≡ Some it → move it job.standing ≡ Ok standing → Keeps (after_deed now told (asked_deed ask operation)) (with_moved room ask.job standing)
acted told room now ask job it standing keeps there asks.CancelJob is goes =
    let moves : move (CancelJob now) job.standing ≡ Ok standing = ap (λ (a : Act). move a job.standing) (same_Some (CancelJob now) it is) ∙ goes in
    moved_keeps told room ask.job job (CancelJob now) standing (job_canceled now) keeps there refl moves (λ ticket. (refl, refl))
    (λ ticket at. fits_moved ask.job ticket (job_canceled now ticket) room job (CancelJob now) standing at refl moves refl refl refl refl (same_impressions (CancelJob now) job.standing standing refl moves ∙ at.impressions) (still_has ask.job ticket room job standing at (same_device (CancelJob now) job.standing standing refl moves)) (canceled_at now ticket.stage job.standing standing at.stage moves))
acted told room now ask job it standing keeps there asks.HoldJob is goes =
    let moves : move HoldJob job.standing ≡ Ok standing = ap (λ (a : Act). move a job.standing) (same_Some HoldJob it is) ∙ goes in
    moved_keeps told room ask.job job HoldJob standing job_held keeps there refl moves (λ ticket. (refl, refl))
    (λ ticket at. fits_moved ask.job ticket (job_held ticket) room job HoldJob standing at refl moves refl refl refl refl (same_impressions HoldJob job.standing standing refl moves ∙ at.impressions) (held_binds ticket.stage job.standing standing at.stage moves) (held_at ticket.stage job.standing standing at.stage moves))
acted told room now ask job it standing keeps there asks.ReleaseJob is goes =
    let release = ReleaseJob (has_password job) (left_in room now) in
    let moves : move release job.standing ≡ Ok standing = ap (λ (a : Act). move a job.standing) (same_Some release it is) ∙ goes in
    moved_keeps told room ask.job job release standing job_freed keeps there refl moves (λ ticket. (refl, refl))
    (λ ticket at.
    fits_moved ask.job ticket (job_freed ticket) room job release standing at refl moves refl refl refl refl (same_impressions release job.standing standing refl moves ∙ at.impressions)
    (still_has ask.job ticket room job standing at (freed_binds (has_password job) (left_in room now) ticket.stage job.standing standing at.stage moves))
    (subst (λ (impressions : ℕ). IsAt (stage_released None 1 (impressions * ticket.maker.copies * 1) ticket.stage) standing) at.impressions
    (subst (λ (copies : ℕ). IsAt (stage_released None 1 (job.standing.impressions * copies * 1) ticket.stage) standing) at.copies
    (freed_at (has_password job) (left_in room now) ticket.stage job.standing standing at.stage moves))))
acted told room now ask job it standing keeps there _ is goes = absurd (none-some it is)

-- ---- a document that comes

-- what the data of a request brings: the next document of the job, or none
abbrev brought_document : (none : Bool) (ask : PlainAsk) (job : Job) → Option Document
brought_document none ask job = cond (not none) (Some (record { job = ask.job; number = job.standing.documents + 1; format = ask.format; bytes = ask.payload })) None

comes_next : (none : Bool) (ask : PlainAsk) (job : Job) (standing : Standing) → move (act.SendDocument ask.last (not none)) job.standing ≡ Ok standing → Follows ask.job job.standing.documents standing.documents (brought_document none ask job)
comes_next true ask job standing goes = no_document_more ask.last job.standing standing goes
comes_next false ask job standing goes = let more = one_document_more ask.last job.standing standing goes in (refl, refl, more.0, more.1)

sent_then : (none : Bool) (ask : PlainAsk) (job : Job) → map as_sent (option_to_list (brought_document none ask job)) ≡ cond none [] (sent_by ask ∷ [])
sent_then true ask job = refl
sent_then false ask job = refl

so_many : (none : Bool) (ask : PlainAsk) (job : Job) (standing : Standing) (sent : List Sent) → job.standing.documents ≡ length sent → Follows ask.job job.standing.documents standing.documents (brought_document none ask job)
    → standing.documents ≡ length (sent ++ cond none [] (sent_by ask ∷ []))
so_many true ask job standing sent count follows = follows ∙ count ∙ ap (λ (l : List Sent). length l) (sym (append-nil sent))
so_many false ask job standing sent count follows = omega (arith, count, follows.2, length-append sent (sent_by ask ∷ []))

left_open : (last some_data : Bool) (s next : Standing) → move (act.SendDocument last some_data) s ≡ Ok next → next.is_open ≡ not last
left_open last some_data s next goes = grind (arith, common_steps)

module _ (told : AccountTold) (room : RoomValue) (now : ℕ) (ask : PlainAsk) (job : Job) (standing : Standing) (keeps : Keeps told room) (there : get room.jobs ask.job ≡ Some job) (none : Bool)
    (goes : move (act.SendDocument ask.last (not none)) job.standing ≡ Ok standing) where
  abbrev it : Act
  it = act.SendDocument ask.last (not none)

  abbrev document : Option Document
  document = brought_document none ask job

  abbrev after_document : RoomValue
  after_document = with_standing room ask.job standing document

  abbrev with_it : JobTold → JobTold
  with_it ticket = record ticket { documents = ticket.documents ++ cond none [] (sent_by ask ∷ []); is_open = not ask.last }

  took_one : Keeps (with_job told ask.job with_it) after_document
  took_one =
      let at = found ask.job told room job keeps.stands there in
      let follows = comes_next none ask job standing goes in
      let behind = keeps.no_further ask.job job there (was_unfinished it job.standing standing goes) in
      let replaces : Replaces room after_document ask.job (record job { standing = standing }) = record {
        opened = refl;
        up = omega arith;
        below = keeps.below ask.job job there;
        grants = refl;
        jobs = λ q. ap (λ (jobs : FinMap nat_cmp Job). get jobs q) (restood_there room.jobs ask.job standing job there) ∙ inserted room.jobs ask.job (record job { standing = standing }) q;
        others = λ q differs k. others_stay room.documents ask.job job.standing.documents standing.documents document follows q differs k;
        no_further = λ unfinished k above. none_after room.documents ask.job job.standing.documents standing.documents document follows behind k above;
      } in
      let fits : Fits (with_it at.ticket) standing = record {
        copies = same_copies it job.standing standing goes ∙ at.is.copies;
        created = same_created it job.standing standing goes ∙ at.is.created;
        impressions = same_impressions it job.standing standing refl goes ∙ at.is.impressions;
        count = so_many none ask job standing at.ticket.documents at.is.count follows;
        bound = (still_has ask.job at.ticket room job standing at.is (same_device it job.standing standing refl goes)).0;
        rated = (still_has ask.job at.ticket room job standing at.is (same_device it job.standing standing refl goes)).1;
        stage = sent_at ask.last (not none) at.ticket.stage job.standing standing at.is.stage goes;
        is_open = λ _. left_open ask.last (not none) job.standing standing goes;
      } in
      let is = as_told ask.job (with_it at.ticket) after_document (record job { standing = standing }) (record { numbered = at.is.numbered; name = at.is.name; password = at.is.password }) fits
      (λ _.
      ap (map as_sent) (placed_with room.documents ask.job job.standing.documents standing.documents document follows behind)
      ∙ map-append as_sent (placed room.documents ask.job) (option_to_list document)
      ∙ ap (λ (sent : List Sent). sent ++ map as_sent (option_to_list document)) (at.is.documents (was_unfinished it job.standing standing goes))
      ∙ ap (λ (sent : List Sent). at.ticket.documents ++ sent) (sent_then none ask job)) in
      subst (λ (t : AccountTold). Keeps t after_document) (sym (with_job_there told ask.job with_it at.ticket at.is_told))
      (subst (λ (n : ℕ). Keeps (record told { jobs = insert told.jobs ask.job (with_it at.ticket); next = n }) after_document) keeps.stands.next
      (one_changes told room after_document ask.job (with_it at.ticket) (record job { standing = standing }) room.next keeps replaces refl is))

pub took : (told : AccountTold) (room : RoomValue) (now : ℕ) (ask : PlainAsk) (job : Job) (standing : Standing) → Keeps told room → get room.jobs ask.job ≡ Some job → move (act.SendDocument ask.last (has_data ask)) job.standing ≡ Ok standing
    → Keeps (after_deed now told (Brought ask)) (with_standing room ask.job standing (sent_document ask job))
took told room now ask job standing keeps there goes = took_one told room now ask job standing keeps there (length ask.payload == 0) goes

-- ---- a job that is made

first_brought : (ask : PlainAsk) (operation : Operation) → brought_first ask operation ≡ cond (is_print_job operation) (sent_by ask ∷ []) []
first_brought ask PrintJob = refl
first_brought ask ValidateJob = refl
first_brought ask CreateJob = refl
first_brought ask SendDocument = refl
first_brought ask asks.CancelJob = refl
first_brought ask GetJobAttributes = refl
first_brought ask GetJobs = refl
first_brought ask GetPrinterAttributes = refl
first_brought ask asks.HoldJob = refl
first_brought ask asks.ReleaseJob = refl

open_first : (operation : Operation) → is_left_open operation ≡ not (is_print_job operation)
open_first PrintJob = refl
open_first ValidateJob = refl
open_first CreateJob = refl
open_first SendDocument = refl
open_first asks.CancelJob = refl
open_first GetJobAttributes = refl
open_first GetJobs = refl
open_first GetPrinterAttributes = refl
open_first asks.HoldJob = refl
open_first asks.ReleaseJob = refl

-- the one document of a Print-Job
abbrev first_document : (prints : Bool) (number : ℕ) (ask : PlainAsk) → Option Document
first_document prints number ask = cond prints (Some (record { job = number; number = 1; format = ask.format; bytes = ask.payload })) None

abbrev so_many_first : Bool → ℕ
so_many_first prints = cond prints 1 0

comes_first : (prints : Bool) (number : ℕ) (ask : PlainAsk) → Follows number 0 (so_many_first prints) (first_document prints number ask)
comes_first true number ask = (refl, refl, refl, omega arith)
comes_first false number ask = refl

sent_first : (prints : Bool) (number : ℕ) (ask : PlainAsk) → map as_sent (option_to_list (first_document prints number ask)) ≡ cond prints (sent_by ask ∷ []) []
sent_first true number ask = refl
sent_first false number ask = refl

counts_first : (prints : Bool) (ask : PlainAsk) → so_many_first prints ≡ length (cond prints (sent_by ask ∷ []) [])
counts_first true ask = refl
counts_first false ask = refl

pub made_one : (told : AccountTold) (room : RoomValue) (now : ℕ) (ask : PlainAsk) → Keeps told room → Keeps (after_deed now told (Made ask)) (with_new_job room (new_job room.next ask now) (new_document room.next ask))
made_one told room now ask keeps =
    let job = new_job room.next ask now in
    let prints = is_print_job ask.operation in
    let document = first_document prints room.next ask in
    let after = with_new_job room job (new_document room.next ask) in
    let ticket = job_made now ask in
    let follows = comes_first prints room.next ask in
    let unused = keeps.unused room.next (omega arith) in
    let replaces : Replaces room after room.next job = record {
      opened = refl;
      up = omega arith;
      below = omega arith;
      grants = refl;
      jobs = λ q. inserted room.jobs room.next job q;
      others = λ q differs k. others_stay room.documents room.next 0 (so_many_first prints) document follows q differs k;
      no_further = λ unfinished k above. none_after room.documents room.next 0 (so_many_first prints) document follows (λ k _. unused k) k above;
    } in
    let fits : Fits ticket job.standing = record {
      copies = refl;
      created = refl;
      impressions = refl;
      count = counts_first prints ask ∙ ap (λ (l : List Sent). length l) (sym (first_brought ask ask.operation));
      bound = refl;
      rated = refl;
      stage = record { state = refl; bound = refl; rated = refl; reserved = refl; charged = refl; stopping = refl; started = refl; ended = refl };
      is_open = λ _. sym (open_first ask.operation);
    } in
    let is = as_told room.next ticket after job (record { numbered = refl; name = refl; password = refl }) fits
    (λ _.
    ap (map as_sent) (placed_with room.documents room.next 0 (so_many_first prints) document follows (λ k _. unused k))
    ∙ map-append as_sent (placed room.documents room.next) (option_to_list document)
    ∙ ap (λ (documents : List Document). map as_sent documents ++ map as_sent (option_to_list document)) (none_placed room.documents room.next unused)
    ∙ sent_first prints room.next ask
    ∙ sym (first_brought ask ask.operation)) in
    subst (λ (n : ℕ). Keeps (record told { jobs = insert told.jobs n ticket; next = n + 1 }) after) keeps.stands.next
    (one_changes told room after room.next ticket job (room.next + 1) keeps replaces refl is)

-- ---- which deed an answer tells

pub no_deed : (account : List ℕ) (event : AccountEvent) (told : Reply) → is_successful told ≡ false → is_ok told ≡ false → is_documents told ≡ false → account_deed account event told ≡ NoDeed
no_deed account Open told undone isnt none = ap (λ (b : Bool). cond b Opened NoDeed) isnt
no_deed account (Ipp body) told undone isnt none = ap (λ (b : Bool). cond b (deed_of_request (request_of account (Ipp body))) NoDeed) undone
no_deed account (Release device number password impressions) told undone isnt none = ap (λ (b : Bool). cond b (Released device number impressions) NoDeed) isnt
no_deed account (Start device number) told undone isnt none = ap (λ (b : Bool). cond b (Started device number) NoDeed) none
no_deed account (Settle device number impressions failed) told undone isnt none = ap (λ (b : Bool). cond b (Settled device number impressions failed) NoDeed) isnt
no_deed account (Grant month pages) told undone isnt none = ap (λ (b : Bool). cond b (Granted month pages) NoDeed) isnt

deed_asked : (account body : List ℕ) (ask : PlainAsk) → ask_of account body ≡ Ok ask → deed_of_request (request_of account (Ipp body)) ≡ asked_deed ask ask.operation
deed_asked account body ask read = ap (λ (read : Result PlainAsk PlainRefusal). deed_of_request (if_passed read)) read

pub deed_done : (account body text : List ℕ) (ask : PlainAsk) → ask_of account body ≡ Ok ask → is_successful (reply.Ipp text) ≡ true → account_deed account (Ipp body) (reply.Ipp text) ≡ asked_deed ask ask.operation
deed_done account body text ask read done = ap (λ (b : Bool). cond b (deed_of_request (request_of account (Ipp body))) NoDeed) done ∙ deed_asked account body ask read

pub reads_nothing : (ask : PlainAsk) (operation : Operation) → only_reads operation ≡ true → asked_deed ask operation ≡ NoDeed
reads_nothing ask ValidateJob only = refl
reads_nothing ask GetJobAttributes only = refl
reads_nothing ask GetJobs only = refl
reads_nothing ask GetPrinterAttributes only = refl
reads_nothing ask _ only = let no : ⊥ = cc in absurd no

pub makes_one_job : (ask : PlainAsk) (operation : Operation) → makes_jobs operation ≡ true → asked_deed ask operation ≡ Made ask
makes_one_job ask PrintJob a_job = refl
makes_one_job ask CreateJob a_job = refl
makes_one_job ask _ a_job = let no : ⊥ = cc in absurd no

pub reads_no_deed : (account body text : List ℕ) (ask : PlainAsk) → ask_of account body ≡ Ok ask → only_reads ask.operation ≡ true → account_deed account (Ipp body) (reply.Ipp text) ≡ NoDeed
reads_no_deed account body text ask read only =
    elim (is_successful (reply.Ipp text)) as (λ (b : Bool). cond b (deed_of_request (request_of account (Ipp body))) NoDeed ≡ NoDeed)
    [ true ↦ deed_asked account body ask read ∙ reads_nothing ask ask.operation only | false ↦ refl ]

-- ---- a device that is known

-- it has the rate that was told
pub rate_is_told : (told : AccountTold) (name : List ℕ) (device : Device) → device_told told name ≡ Some device → device.rate ≡ rate_told told name
rate_is_told told name device is = by (get told.on name) is
  where
    by : (on : Option Bool) → option_map (λ (on : Bool). let device : Device = record { name = name; on = on; rate = rate_told told name } in device) on ≡ Some device → device.rate ≡ rate_told told name
    by None same = absurd (none-some device same)
    by (Some on) same = sym (ap (λ (d : Device). d.rate) (same_Some (record { name = name; on = on; rate = rate_told told name }) device same))

-- ---- what each event makes of an open account

handed_in_counts : (kept device given : List ℕ) (handed_in rate : ℕ) (left : ℤ) (s next : Standing) → move (StationRelease kept device given handed_in rate left) s ≡ Ok next → next.impressions ≡ impressions_of s handed_in
handed_in_counts kept device given handed_in rate left s next goes = grind (arith, common_steps)

pub counts_alike : (s : Standing) (handed_in : ℕ) (ticket : JobTold) → s.impressions ≡ ticket.impressions → impressions_of s handed_in ≡ impressions_told handed_in ticket
counts_alike s handed_in ticket same = grind (arith, nat_tests)

granted_too : (told : AccountTold) (room : RoomValue) (month pages : ℕ) → Keeps told room → Keeps (record told { grants = insert told.grants month pages }) (with_grant room month pages)
granted_too told room month pages keeps = record {
  stands = record {
    opened = keeps.stands.opened;
    next = keeps.stands.next;
    jobs = λ number. still_are room (with_grant room month pages) number (get told.jobs number) (get room.jobs number) (λ k. refl) (keeps.stands.jobs number);
    grants = λ q. inserted room.grants month pages q ∙ ap (cond (q == month) (Some pages)) (keeps.stands.grants q) ∙ sym (inserted told.grants month pages q);
  };
  below = keeps.below;
  no_further = keeps.no_further;
  unused = keeps.unused;
}

module _ (told : AccountTold) (room : RoomValue) (devices : Devices) (known : (name : List ℕ) → get devices name ≡ device_told told name) (keeps : Keeps told room) (now : ℕ) (account : List ℕ) where
  abbrev KeepsBy : Deed → RoomValue → Type 0
  KeepsBy deed after = Keeps (after_deed now told deed) after

  pub each_keeps : (event : AccountEvent) (said : Reply) (after : RoomValue) → Makes room devices now account event said after → KeepsBy (account_deed account event said) after
  each_keeps _ _ _ (refuses event said undone isnt none) = subst (λ (deed : Deed). KeepsBy deed room) (sym (no_deed account event said undone isnt none)) keeps
  each_keeps _ _ _ (reads body ask text read only) = subst (λ (deed : Deed). KeepsBy deed room) (sym (reads_no_deed account body text ask read only)) keeps
  each_keeps _ _ _ (makes body ask text read a_job accepted done) =
      subst (λ (deed : Deed). KeepsBy deed (with_new_job room (new_job room.next ask now) (new_document room.next ask))) (sym (deed_done account body text ask read done ∙ makes_one_job ask ask.operation a_job)) (made_one told room now ask keeps)
  each_keeps _ _ _ (takes body ask text job standing read sends there goes done) =
      subst (λ (deed : Deed). KeepsBy deed (with_standing room ask.job standing (sent_document ask job))) (sym (deed_done account body text ask read done ∙ ap (asked_deed ask) sends)) (took told room now ask job standing keeps there goes)
  each_keeps _ _ _ (acts body ask text job it standing read there is_act goes done) =
      subst (λ (deed : Deed). KeepsBy deed (with_moved room ask.job standing)) (sym (deed_done account body text ask read done)) (acted told room now ask job it standing keeps there ask.operation is_act goes)
  each_keeps _ _ _ (releases device number password impressions ready job standing is_ready there goes) =
      let release = StationRelease job.password device password impressions ready.rate (left_in room now) in
      let rate : ready.rate ≡ rate_told told device = rate_is_told told device ready (sym (known device) ∙ ready_is (get devices device) ready is_ready) in
      moved_keeps told room number job release standing (job_released device (rate_told told device) impressions) keeps there refl goes (λ ticket. (refl, refl))
      (λ ticket at.
      let counts = counts_alike job.standing impressions ticket at.impressions in
      fits_moved number ticket (job_released device (rate_told told device) impressions ticket) room job release standing at refl goes refl refl refl refl
      (handed_in_counts job.password device password impressions ready.rate (left_in room now) job.standing standing goes ∙ counts)
      (subst (λ (r : ℕ). HasDevice (Some device) r standing) rate (released_binds job.password device password impressions ready.rate (left_in room now) job.standing standing goes))
      (subst (λ (n : ℕ). IsAt (stage_released (Some device) (rate_told told device) (n * ticket.maker.copies * rate_told told device) ticket.stage) standing) counts
      (subst (λ (copies : ℕ). IsAt (stage_released (Some device) (rate_told told device) (impressions_of job.standing impressions * copies * rate_told told device) ticket.stage) standing) at.copies
      (subst (λ (r : ℕ). IsAt (stage_released (Some device) r (impressions_of job.standing impressions * job.standing.copies * r) ticket.stage) standing) rate
      (released_at job.password device password impressions ready.rate (left_in room now) ticket.stage job.standing standing at.stage goes)))))
  each_keeps _ _ _ (starts device number ready job standing is_ready there goes) =
      let start = StationStart device ready.rate now in
      moved_keeps told room number job start standing (job_started device now) keeps there refl goes (λ ticket. (refl, refl))
      (λ ticket at.
      fits_moved number ticket (job_started device now ticket) room job start standing at refl goes refl refl refl refl (same_impressions start job.standing standing refl goes ∙ at.impressions)
      (let binds = started_binds device ready.rate now job.standing standing goes in (binds.0, binds.1 ∙ at.rated))
      (started_at device ready.rate now ticket.stage job.standing standing at.stage goes))
  each_keeps _ _ _ (settles device number impressions failed of_it job standing is_known there goes) =
      let settling = StationSettle device impressions failed now in
      moved_keeps told room number job settling standing (job_settled impressions failed now) keeps there refl goes (λ ticket. (refl, refl))
      (λ ticket at.
      fits_moved number ticket (job_settled impressions failed now ticket) room job settling standing at refl goes refl refl refl refl (same_impressions settling job.standing standing refl goes ∙ at.impressions)
      (still_has number ticket room job standing at (same_device settling job.standing standing refl goes))
      (settled_at device impressions failed now ticket.stage job.standing standing at.stage goes))
  each_keeps _ _ _ (grants month pages new) = granted_too told room month pages keeps

-- ---- an account that is opened

no_jobs : (told : AccountTold) → WasNotOpened told → (number : ℕ) → get told.jobs number ≡ None
no_jobs told was number = ap (λ (jobs : FinMap nat_cmp JobTold). get jobs number) was.jobs ∙ get-empty nat_cmp number

opens : (told : AccountTold) (now : ℕ) → WasNotOpened told → Keeps (record told { opened = Some now }) (empty_room now)
opens told now was = record {
  stands = record {
    opened = refl;
    next = sym was.next;
    jobs = λ number. subst (λ (ticket : Option JobTold). AreAsTold number ticket (empty_room now) (get (empty_room now).jobs number)) (sym (no_jobs told was number)) (get-empty nat_cmp number);
    grants = λ month. get-empty nat_cmp month ∙ sym (ap (λ (grants : FinMap nat_cmp ℕ). get grants month) was.grants ∙ get-empty nat_cmp month);
  };
  below = λ number job here. absurd (none-some job (sym (get-empty nat_cmp number) ∙ here));
  no_further = λ number job here. absurd (none-some job (sym (get-empty nat_cmp number) ∙ here));
  unused = λ number above k. get-empty place_cmp (number, k);
}

-- ---- an account, open or not

abbrev pub AccountKeeps : AccountTold → Option RoomValue → Type 0
AccountKeeps told None = WasNotOpened told
AccountKeeps told (Some room) = Keeps told room

unopened_keeps : (told : AccountTold) (now : ℕ) (account body : List ℕ) → WasNotOpened told → (short : Bool) → AccountKeeps (after_deed now told (account_deed account (Ipp body) (unopened_answer short).reply)) (unopened_answer short).room
unopened_keeps told now account body was true = was
unopened_keeps told now account body was false = was

account_keeps : (told : AccountTold) (room : Option RoomValue) (devices : Devices) → ((name : List ℕ) → get devices name ≡ device_told told name) → (now : ℕ) (account : List ℕ) (it : AccountEvent) → AccountKeeps told room
    → AccountKeeps (after_deed now told (account_deed account it (answered room devices now (OfAccount account it)).reply)) (answered room devices now (OfAccount account it)).room
account_keeps told None devices known now account Open was = opens told now was
account_keeps told None devices known now account (Ipp body) was = unopened_keeps told now account body was (nat_lt (length body) header_length)
account_keeps told None devices known now account (Release device number password impressions) was = was
account_keeps told None devices known now account (Start device number) was = was
account_keeps told None devices known now account (Settle device number impressions failed) was = was
account_keeps told None devices known now account (Grant month pages) was = was
account_keeps told (Some room) devices known now account it keeps = each_keeps told room devices known keeps now account it _ _ (makes_one room devices now account it)

-- what is told of devices is not of the account
same_by : (before after : AccountTold) (room : Option RoomValue) → after.opened ≡ before.opened → after.jobs ≡ before.jobs → after.next ≡ before.next → after.grants ≡ before.grants → AccountKeeps before room → AccountKeeps after room
same_by before after None opened jobs next granted was = record { opened = opened ∙ was.opened; jobs = jobs ∙ was.jobs; next = next ∙ was.next; grants = granted ∙ was.grants }
same_by before after (Some room) opened jobs next granted keeps = record {
  stands = record {
    opened = opened ∙ keeps.stands.opened;
    next = keeps.stands.next ∙ sym next;
    jobs = λ number. subst (λ (of : FinMap nat_cmp JobTold). AreAsTold number (get of number) room (get room.jobs number)) (sym jobs) (keeps.stands.jobs number);
    grants = λ month. keeps.stands.grants month ∙ ap (λ (of : FinMap nat_cmp ℕ). get of month) (sym granted);
  };
  below = keeps.below;
  no_further = keeps.no_further;
  unused = keeps.unused;
}

-- ---- the devices

pub record KnowsDevices (told : AccountTold) (devices : Devices) : Type 0 where
  pub known : (name : List ℕ) → get devices name ≡ device_told told name
  -- a rate is set only of a device that is known
  pub unrated : (name : List ℕ) → get told.on name ≡ None → get told.rates name ≡ None

-- an event of an account tells nothing of devices
pub record SameDevices (before after : AccountTold) : Type 0 where
  pub on : after.on ≡ before.on
  pub rates : after.rates ≡ before.rates

same_devices : (told : AccountTold) → SameDevices told told
same_devices told = record { on = refl; rates = refl }

pub of_a_job : (told : AccountTold) (number : ℕ) (change : JobTold → JobTold) → SameDevices told (with_job told number change)
of_a_job told number change =
    elim (get told.jobs number) as (λ (o : Option JobTold). SameDevices told (option_map_or (λ (job : JobTold). record told { jobs = insert told.jobs number (change job) }) o told))
    [ None ↦ same_devices told | Some job ↦ record { on = refl; rates = refl } ]

of_a_request : (told : AccountTold) (now : ℕ) (ask : PlainAsk) (operation : Operation) → SameDevices told (after_deed now told (asked_deed ask operation))
of_a_request told now ask PrintJob = record { on = refl; rates = refl }
of_a_request told now ask CreateJob = record { on = refl; rates = refl }
of_a_request told now ask SendDocument = of_a_job told ask.job (job_brought ask)
of_a_request told now ask asks.CancelJob = of_a_job told ask.job (job_canceled now)
of_a_request told now ask asks.HoldJob = of_a_job told ask.job job_held
of_a_request told now ask asks.ReleaseJob = of_a_job told ask.job job_freed
of_a_request told now ask ValidateJob = same_devices told
of_a_request told now ask GetJobAttributes = same_devices told
of_a_request told now ask GetJobs = same_devices told
of_a_request told now ask GetPrinterAttributes = same_devices told

if_done : (told : AccountTold) (now : ℕ) (deed : Deed) (done : Bool) → SameDevices told (after_deed now told deed) → SameDevices told (after_deed now told (cond done deed NoDeed))
if_done told now deed true same = same
if_done told now deed false same = same_devices told

pub of_an_account : (told : AccountTold) (now : ℕ) (account : List ℕ) (event : AccountEvent) (said : Reply) → SameDevices told (after_deed now told (account_deed account event said))
of_an_account told now account Open said = if_done told now Opened (is_ok said) (record { on = refl; rates = refl })
of_an_account told now account (Ipp body) said =
    if_done told now (deed_of_request (request_of account (Ipp body))) (is_successful said)
    (elim (request_of account (Ipp body)) as (λ (o : Option PlainAsk). SameDevices told (after_deed now told (deed_of_request o))) [ None ↦ same_devices told | Some ask ↦ of_a_request told now ask ask.operation ])
of_an_account told now account (Release device number password impressions) said = if_done told now (Released device number impressions) (is_ok said) (of_a_job told number (job_released device (rate_told told device) impressions))
of_an_account told now account (Start device number) said = if_done told now (Started device number) (is_documents said) (of_a_job told number (job_started device now))
of_an_account told now account (Settle device number impressions failed) said = if_done told now (Settled device number impressions failed) (is_ok said) (of_a_job told number (job_settled impressions failed now))
of_an_account told now account (Grant month pages) said = if_done told now (Granted month pages) (is_ok said) (record { on = refl; rates = refl })

still_known : (before after : AccountTold) (devices : Devices) → SameDevices before after → KnowsDevices before devices → KnowsDevices after devices
still_known before after devices same knows = record {
  known = λ name. knows.known name ∙ sym (device_same name);
  unrated = λ name none. ap (λ (rates : FinMap name_cmp ℕ). get rates name) same.rates ∙ knows.unrated name (sym (ap (λ (on : FinMap name_cmp Bool). get on name) same.on) ∙ none);
}
  where
    device_by : (on : FinMap name_cmp Bool) (rates : FinMap name_cmp ℕ) (name : List ℕ) → Option Device
    device_by on rates name = option_map (λ (flag : Bool). let device : Device = record { name = name; on = flag; rate = unwrap_or (get rates name) 1 } in device) (get on name)

    device_same : (name : List ℕ) → device_told after name ≡ device_told before name
    device_same name = ap (λ (on : FinMap name_cmp Bool). device_by on after.rates name) same.on ∙ ap (λ (rates : FinMap name_cmp ℕ). device_by before.on rates name) same.rates

put : {X : Type 0} (m : FinMap name_cmp X) (name : List ℕ) (x : X) (q : List ℕ) → get (insert m name x) q ≡ cond (eq_by_cmp name_cmp q name) (Some x) (get m q)
put m name x q = get-insert nat_list_cmp_total m name x q

-- a device that is known keeps its rate as it is switched on or off, a new one has rate 1
rate_kept : (told : AccountTold) (devices : Devices) (name : List ℕ) → KnowsDevices told devices → rate_of devices name ≡ rate_told told name
rate_kept told devices name knows = ap (λ (o : Option Device). option_map_or (λ (device : Device). device.rate) o 1) (knows.known name) ∙ by (get told.on name) refl
  where
    by : (on : Option Bool) → get told.on name ≡ on
        → option_map_or (λ (device : Device). device.rate) (option_map (λ (flag : Bool). let device : Device = record { name = name; on = flag; rate = rate_told told name } in device) on) 1 ≡ rate_told told name
    by None none = sym (ap (λ (o : Option ℕ). unwrap_or o 1) (knows.unrated name none))
    by (Some on) is = refl

turns : (told : AccountTold) (devices : Devices) (name : List ℕ) (on : Bool) → KnowsDevices told devices → KnowsDevices (record told { on = insert told.on name on }) (insert devices name (record { name = name; on = on; rate = rate_of devices name }))
turns told devices name on knows = record {
  known = λ q.
      put devices name (record { name = name; on = on; rate = rate_of devices name }) q
      ∙ by q (eq_by_cmp name_cmp q name) refl
      ∙ sym (ap (option_map (λ (flag : Bool). let device : Device = record { name = q; on = flag; rate = rate_told told q } in device)) (put told.on name on q));
  unrated = λ q none. unrated q (eq_by_cmp name_cmp q name) (sym (put told.on name on q) ∙ none);
}
  where
    by : (q : List ℕ) (b : Bool) → eq_by_cmp name_cmp q name ≡ b → (cond {A = Option Device} b (Some (record { name = name; on = on; rate = rate_of devices name })) (get devices q))
        ≡ option_map (λ (flag : Bool). let device : Device = record { name = q; on = flag; rate = rate_told told q } in device) (cond b (Some on) (get told.on q))
    by q true same =
        ap (λ (rate : ℕ). let device : Device = record { name = name; on = on; rate = rate } in Some device) (rate_kept told devices name knows)
        ∙ ap (λ (n : List ℕ). let device : Device = record { name = n; on = on; rate = rate_told told n } in Some device) (sym (same_name q name same))
    by q false other = knows.known q

    unrated : (q : List ℕ) (b : Bool) → cond b (Some on) (get told.on q) ≡ None → get told.rates q ≡ None
    unrated q true none = absurd (none-some on (sym none))
    unrated q false none = knows.unrated q none

-- the device that a rate is set of
record HasFlag (told : AccountTold) (devices : Devices) (name : List ℕ) : Type 0 where
  pub flag : Bool
  pub is_told : get told.on name ≡ Some flag
  pub is : is_on_in devices name ≡ flag

has_flag : (told : AccountTold) (devices : Devices) (name : List ℕ) → KnowsDevices told devices → contains_key devices name ≡ true → HasFlag told devices name
has_flag told devices name knows there = by (get told.on name) refl
  where
    by : (on : Option Bool) → get told.on name ≡ on → HasFlag told devices name
    by None none =
        let nobody : get devices name ≡ None = knows.known name ∙ ap (option_map (λ (flag : Bool). let device : Device = record { name = name; on = flag; rate = rate_told told name } in device)) none in
        absurd (true≢false (sym there ∙ ap (λ (o : Option Device). is_some o) nobody))
    by (Some on) is = record {
      flag = on;
      is_told = is;
      is = ap (λ (o : Option Device). option_map_or (λ (device : Device). device.on) o false) (knows.known name ∙ ap (option_map (λ (flag : Bool). let device : Device = record { name = name; on = flag; rate = rate_told told name } in device)) is);
    }

rates : (told : AccountTold) (devices : Devices) (name : List ℕ) (units : ℕ) → KnowsDevices told devices → contains_key devices name ≡ true
    → KnowsDevices (record told { rates = insert told.rates name units }) (insert devices name (record { name = name; on = is_on_in devices name; rate = units }))
rates told devices name units knows there = record {
  known = λ q.
      put devices name (record { name = name; on = is_on_in devices name; rate = units }) q
      ∙ by q (eq_by_cmp name_cmp q name) refl
      ∙ sym (ap (λ (o : Option ℕ). option_map (λ (flag : Bool). let device : Device = record { name = q; on = flag; rate = unwrap_or o 1 } in device) (get told.on q)) (put told.rates name units q));
  unrated = λ q none. put told.rates name units q ∙ unrated q (eq_by_cmp name_cmp q name) refl none;
}
  where
    has : HasFlag told devices name
    has = has_flag told devices name knows there

    by : (q : List ℕ) (b : Bool) → eq_by_cmp name_cmp q name ≡ b → (cond {A = Option Device} b (Some (record { name = name; on = is_on_in devices name; rate = units })) (get devices q))
        ≡ option_map (λ (flag : Bool). let device : Device = record { name = q; on = flag; rate = unwrap_or (cond b (Some units) (get told.rates q)) 1 } in device) (get told.on q)
    by q true same =
        ap (λ (n : List ℕ). let device : Device = record { name = n; on = is_on_in devices name; rate = units } in Some device) (sym (same_name q name same))
        ∙ ap (λ (flag : Bool). let device : Device = record { name = q; on = flag; rate = units } in Some device) has.is
        ∙ sym (ap (option_map (λ (flag : Bool). let device : Device = record { name = q; on = flag; rate = units } in device)) (ap (get told.on) (same_name q name same) ∙ has.is_told))
    by q false other = knows.known q

    unrated : (q : List ℕ) (b : Bool) → eq_by_cmp name_cmp q name ≡ b → get told.on q ≡ None → cond b (Some units) (get told.rates q) ≡ None
    unrated q true same none = absurd (none-some has.flag (sym (ap (get told.on) (sym (same_name q name same)) ∙ none) ∙ has.is_told))
    unrated q false other none = knows.unrated q none

-- the answer to a rate, of a device that is known or is not
abbrev pub rated_by : (there : Bool) (devices : Devices) (name : List ℕ) (units : ℕ) → DeviceAnswer
rated_by there devices name units =
    cond there (record { reply = reply.Line (success_text success.Ok); verdict = line_done; devices = insert devices name (record { name = name; on = is_on_in devices name; rate = units }) }) (record { reply = reply.Line (word_text NoDevice); verdict = line_refused NoDevice; devices = devices })

device_turns : (told : AccountTold) (devices : Devices) (now : ℕ) (device : List ℕ) (it : DeviceEvent) → KnowsDevices told devices
    → KnowsDevices (after_deed now told (device_deed device it (device_answered devices (OfDevice device it)).reply)) (device_answered devices (OfDevice device it)).devices
device_turns told devices now device (Switch on) knows = turns told devices device on knows
device_turns told devices now device (Rate units) knows = by (contains_key devices device) refl
  where
    by : (there : Bool) → contains_key devices device ≡ there
        → KnowsDevices (after_deed now told (device_deed device (Rate units) (rated_by there devices device units).reply)) (rated_by there devices device units).devices
    by true there = rates told devices device units knows there
    by false none = knows

-- and nothing of an account
same_account : (told : AccountTold) (devices : Devices) (now : ℕ) (device : List ℕ) (it : DeviceEvent) (said : Reply) (room : Option RoomValue) → AccountKeeps told room → AccountKeeps (after_deed now told (device_deed device it said)) room
same_account told devices now device (Switch on) said room keeps = by (is_ok said)
  where
    by : (done : Bool) → AccountKeeps (after_deed now told (cond done (Switched device on) NoDeed)) room
    by true = same_by told (record told { on = insert told.on device on }) room refl refl refl refl keeps
    by false = keeps
same_account told devices now device (Rate units) said room keeps = by (is_ok said)
  where
    by : (done : Bool) → AccountKeeps (after_deed now told (cond done (Rated device units) NoDeed)) room
    by true = same_by told (record told { rates = insert told.rates device units }) room refl refl refl refl keeps
    by false = keeps

-- ---- the law

pub record AllKeep (life : Life) (room : Option RoomValue) (devices : Devices) : Type 0 where
  pub account : AccountKeeps (account_told life) room
  pub knows : KnowsDevices (account_told life) devices

-- what is told once an exchange more was told
pub told_more : (life : Life) (x : Exchange) → account_told (life ++ x ∷ []) ≡ after_exchange (account_told life) x
told_more life x = fold-append after_exchange nothing_told life (x ∷ [])

by_account : (past : Life) (room : Option RoomValue) (devices : Devices) (now : ℕ) (account : List ℕ) (it : AccountEvent) → AllKeep past room devices
    → AllKeep (past ++ account_exchange room devices now account it ∷ []) (answered room devices now (OfAccount account it)).room devices
by_account past room devices now account it all =
    let said = (answered room devices now (OfAccount account it)).reply in
    let told = account_told past in
    let more = told_more past (account_exchange room devices now account it) in
    record {
      account = subst (λ (t : AccountTold). AccountKeeps t (answered room devices now (OfAccount account it)).room) (sym more) (account_keeps told room devices all.knows.known now account it all.account);
      knows = subst (λ (t : AccountTold). KnowsDevices t devices) (sym more) (still_known told (after_deed now told (account_deed account it said)) devices (of_an_account told now account it said) all.knows);
    }

by_device : (past : Life) (room : Option RoomValue) (devices : Devices) (now : ℕ) (device : List ℕ) (it : DeviceEvent) → AllKeep past room devices
    → AllKeep (past ++ device_exchange devices now device it ∷ []) room (device_answered devices (OfDevice device it)).devices
by_device past room devices now device it all =
    let answer = device_answered devices (OfDevice device it) in
    let told = account_told past in
    let more = told_more past (device_exchange devices now device it) in
    record {
      account = subst (λ (t : AccountTold). AccountKeeps t room) (sym more) (same_account told devices now device it answer.reply room all.account);
      knows = subst (λ (t : AccountTold). KnowsDevices t answer.devices) (sym more) (device_turns told devices now device it all.knows);
    }

begun : AllKeep [] None empty
begun = record {
  account = record { opened = refl; jobs = refl; next = refl; grants = refl };
  knows = record { known = λ name. get-empty name_cmp name ∙ sym (ap (option_map (λ (flag : Bool). let device : Device = record { name = name; on = flag; rate = rate_told nothing_told name } in device)) (get-empty name_cmp name)); unrated = λ name none. get-empty name_cmp name };
}

-- it holds of each life, and so before each exchange
pub all_keep : (life : Life) (room : Option RoomValue) (devices : Devices) → IsLife life room devices → AllKeep life room devices
all_keep = of_each_life AllKeep (record { begun = begun; by_account = by_account; by_device = by_device })

stands_so : (told : AccountTold) (room : Option RoomValue) → AccountKeeps told room → AccountStands told room
stands_so told None was = was
stands_so told (Some room) keeps = keeps.stands

pub leaves_as_told : LeavesAsTold
leaves_as_told life room devices is = let all = all_keep life room devices is in record { account = stands_so (account_told life) room all.account; known = all.knows.known }
