-- What a request that is done is answered, by what was told before it.
use Rattle.std.proofs.Common.{◌≡◌, ℕ, Bool, true, true≢false, cond, List, [], ◌∷◌, map, Option, Some, None, option_map, unwrap_or, Result, Ok, Err, refl, sym, ap, subst, ◌∙◌}
use Rattle.std.specs.Cmp.{both_ways}
use Rattle.std.specs.FinMap.{FinMap, get, insert, values}
use Rattle.std.specs.List.{list_any}
use Rattle.std.specs.Option.{option_map_or}
use Rattle.std.specs.Ordering.{nat_cmp}
use Rattle.std.proofs.lemmas.Bool.{eq-eqb}
use Rattle.std.proofs.lemmas.Option.{none-some, same_Some}
use Rattle.ipp_coding.specs.Plain.{PlainGroup}
use Rattle.account_asks.specs.Asks.{PlainAsk}
use Rattle.account_asks.specs.declared.operation.Operation.{Operation}
use Rattle.account_asks.specs.declared.operation.Operation.TheVariants.{PrintJob, ValidateJob, CreateJob, GetJobAttributes, GetJobs, GetPrinterAttributes}
use Rattle.account_asks.specs.declared.operation.Operation.TheVariants as asks
use Rattle.account_laws.proofs.Afterwards.{inserted}
use Rattle.account_laws.proofs.AsTold.{Keeps, made_one, took, with_job_there}
use Rattle.account_laws.proofs.AsToldSums.{unfinished_as_told}
use Rattle.account_laws.proofs.JobRows.{job_group_alike, place_of}
use Rattle.account_laws.proofs.ListedJobs.{listed_alike}
use Rattle.account_laws.proofs.MappedValues.{any_changed, same_with_each, values-with_each}
use Rattle.account_laws.proofs.PrinterRows.{printer_group_alike, printer_told}
use Rattle.account_laws.proofs.ShownJobs.{group_as_told, job_shown, jobs_told, listed_as_told, processing_is}
use Rattle.account_laws.proofs.Statuses.{RefusesByError, accepting_errs, move_errs}
use Rattle.account_laws.proofs.Tellings.{tells_error}
use Rattle.account_laws.specs.AccountsTold.{AccountTold, after_deed}
use Rattle.account_laws.specs.Deeds.{Brought}
use Rattle.account_laws.specs.DoneAnswers.{groups_told, its_group, or_listed_names}
use Rattle.account_laws.specs.JobRows.{job_group_told}
use Rattle.account_laws.specs.JobsTold.{JobTold, is_printing, job_brought, job_made}
use Rattle.account_laws.specs.ListedJobs.{Numbered, jobs_listed}
use Rattle.account_laws.specs.PrinterRows.{some_is_printed}
use Rattle.account_laws.specs.StandsAsTold.{AreAsTold, IsAsTold, StandsAsTold, device_told}
use Rattle.account_laws.specs.Told.{is_successful}
use Rattle.account_laws.specs.Views.{View, view_of}
use Rattle.account_machine.specs.JobActs.{job_or_refusal}
use Rattle.account_machine.specs.JobRequests.{has_data, has_password, document_taken, sent_document}
use Rattle.account_machine.specs.Machine.{responded}
use Rattle.account_machine.specs.NewJobs.{accepts, made_names, new_document, new_job}
use Rattle.account_machine.specs.Printers.{printer_of}
use Rattle.account_machine.specs.Queues.{asked_jobs, listed_names}
use Rattle.account_machine.specs.Requests.{Response, answer_to, asked_at, doing_ask, done_with, refusing_ask_or}
use Rattle.account_machine.specs.Steps.{and_then, with_moved}
use Rattle.account_machine.specs.declared.event.Reply.TheVariants as reply
use Rattle.account_replies.specs.JobAttributes.{job_group}
use Rattle.account_replies.specs.Places.{PlainPlace}
use Rattle.account_replies.specs.PrinterAttributes.{printer_group}
use Rattle.account_replies.specs.Queues.{printer_now}
use Rattle.account_replies.specs.Responses.{job_groups}
use Rattle.account_replies.specs.declared.printer.PrinterNow.{PrinterNow}
use Rattle.account_rules.proofs.DeviceMaps as maps
use Rattle.account_rules.specs.Acts.{Act, CancelJob, HoldJob, ReleaseJob}
use Rattle.account_rules.specs.Acts as act
use Rattle.account_rules.specs.Devices.{Devices, is_some_on}
use Rattle.account_rules.specs.JobStates.{is_processing}
use Rattle.account_rules.specs.Moves.{move}
use Rattle.account_rules.specs.declared.device.Device.{Device}
use Rattle.account_rules.specs.declared.job.Job.{Job}
use Rattle.account_rules.specs.declared.job.Standing.{Standing}
use Rattle.account_rules.specs.declared.refusal.Refusal.{Refusal}
use Rattle.account_rules.specs.declared.refusal.Word.TheVariants.{NoJob}
use Rattle.account_state.proofs.KeptRooms.{restood_there}
use Rattle.account_state.specs.Changes.{with_new_job, with_standing}
use Rattle.account_state.specs.RoomRules.{unfinished_count}
use Rattle.account_state.specs.Rooms.{RoomValue}
use Rattle.account_state.specs.Sums.{has_processing, left_in}

-- ---- one that is done was not refused

says_or : {A : Type 0} (room : RoomValue) (ask : PlainAsk) (groups : List PlainGroup) (decided : Result A Refusal) (next : A → Response) → RefusesByError decided → ((x : A) → decided ≡ Ok x → (next x).text ≡ answer_to ask groups)
    → is_successful (reply.Ipp (refusing_ask_or room ask decided next).text) ≡ true → (refusing_ask_or room ask decided next).text ≡ answer_to ask groups
says_or room ask groups (Ok x) next errs says done = says x refl
says_or room ask groups (Err refusal) next errs says done = absurd (true≢false (sym done ∙ tells_error ask.header refusal ask.unsupported errs))

-- an act on a job that is there, or is not
act_errs : (act : Job → Act) (found : Option Job) → RefusesByError (and_then (job_or_refusal found) (λ (job : Job). move (act job) job.standing))
act_errs act None = refl
act_errs act (Some job) = move_errs (act job) job.standing

-- ---- a job that has just changed

pub put_there : {X : Type 0} (m : FinMap nat_cmp X) (n : ℕ) (x : X) → get (insert m n x) n ≡ Some x
put_there m n x = inserted m n x n ∙ ap (λ (b : Bool). cond b (Some x) (get m n)) (eq-eqb n n refl)

-- where both are there, they are as told
both_there : (number : ℕ) (room : RoomValue) (ticket : JobTold) (job : Job) (found : Option JobTold) (there : Option Job) → found ≡ Some ticket → there ≡ Some job → AreAsTold number found room there → IsAsTold number ticket room job
both_there number room ticket job found there is are both = subst (λ (o : Option Job). AreAsTold number (Some ticket) room o) are (subst (λ (o : Option JobTold). AreAsTold number o room there) is both)

-- ---- the printer

some_print : (told : AccountTold) (room : RoomValue) → StandsAsTold told room → has_processing room ≡ some_is_printed told
some_print told room stands =
    let f : Job → Bool = λ (job : Job). is_processing job.standing.state in
    let g : JobTold → Bool = λ (job : JobTold). is_printing job.stage in
    sym (any_changed f (λ (b : Bool). b) (values room.jobs))
    ∙ ap (list_any (λ (b : Bool). b)) (sym (values-with_each f room.jobs) ∙ ap values (same_with_each f g room.jobs told.jobs (λ number. by number (get told.jobs number) (get room.jobs number) (stands.jobs number))) ∙ values-with_each g told.jobs)
    ∙ any_changed g (λ (b : Bool). b) (values told.jobs)
  where
    by : (number : ℕ) (ticket : Option JobTold) (job : Option Job) → AreAsTold number ticket room job → option_map (λ (job : Job). is_processing job.standing.state) job ≡ option_map (λ (job : JobTold). is_printing job.stage) ticket
    by number None job are = ap (option_map (λ (job : Job). is_processing job.standing.state)) are
    by number (Some ticket) None are = absurd are
    by number (Some ticket) (Some job) are = ap Some (processing_is ticket.stage job.standing are.stage)

some_on : (told : AccountTold) (devices : Devices) → ((name : List ℕ) → get devices name ≡ device_told told name) → is_some_on devices ≡ list_any (λ (on : Bool). on) (values told.on)
some_on told devices known = both_ways (is_some_on devices) (list_any (λ (on : Bool). on) (values told.on)) to from
  where
    to : is_some_on devices ≡ true → list_any (λ (on : Bool). on) (values told.on) ≡ true
    to any = let there = maps.some_value (λ (device : Device). device.on) devices any in by there.name there.value (get told.on there.name) refl (sym (known there.name) ∙ there.is) there.passes
      where
        by : (name : List ℕ) (device : Device) (on : Option Bool) → get told.on name ≡ on
            → option_map (λ (on : Bool). let device : Device = record { name = name; on = on; rate = unwrap_or (get told.rates name) 1 } in device) on ≡ Some device → device.on ≡ true → list_any (λ (on : Bool). on) (values told.on) ≡ true
        by name device None is same passes = absurd (none-some device same)
        by name device (Some on) is same passes =
            maps.value_there (λ (on : Bool). on) told.on name on is (ap (λ (d : Device). d.on) (same_Some (record { name = name; on = on; rate = unwrap_or (get told.rates name) 1 }) device same) ∙ passes)

    from : list_any (λ (on : Bool). on) (values told.on) ≡ true → is_some_on devices ≡ true
    from any =
        let there = maps.some_value (λ (on : Bool). on) told.on any in
        maps.value_there (λ (device : Device). device.on) devices there.name (record { name = there.name; on = there.value; rate = unwrap_or (get told.rates there.name) 1 })
        (known there.name ∙ ap (option_map (λ (on : Bool). let device : Device = record { name = there.name; on = on; rate = unwrap_or (get told.rates there.name) 1 } in device)) there.is) there.passes

printer_as_told : (told : AccountTold) (room : RoomValue) (devices : Devices) → StandsAsTold told room → ((name : List ℕ) → get devices name ≡ device_told told name) → printer_of room devices ≡ printer_told told
printer_as_told told room devices stands known =
    let unfinished = unfinished_as_told told room stands in
    let next = stands.next in
    let prints = some_print told room stands in
    let on = some_on told devices known in
    λ i. printer_now (unfinished i) (next i) (prints i) (on i)

-- ---- the jobs that are listed

names_alike : (wanted : Option (List (List ℕ))) → listed_names wanted ≡ or_listed_names wanted
names_alike None = refl
names_alike (Some names) = refl

each_alike : (view : View) (wanted : Option (List (List ℕ))) (jobs : List Numbered)
    → job_groups (place_of view) (map (λ (job : Numbered). job_shown job.0 job.1) jobs) wanted ≡ map (λ (job : Numbered). job_group_told view wanted job.0 job.1) jobs
each_alike view wanted [] = refl
each_alike view wanted (job ∷ jobs) = λ i. job_group_alike view job.0 job.1 wanted i ∷ each_alike view wanted jobs i

-- ---- each operation

module _ (told : AccountTold) (room : RoomValue) (devices : Devices) (known : (name : List ℕ) → get devices name ≡ device_told told name) (now : ℕ) (account : List ℕ) (keeps : Keeps told room) (ask : PlainAsk) where
  abbrev IsDone : Response → Type 0
  IsDone response = is_successful (reply.Ipp response.text) ≡ true

  abbrev view : View
  view = view_of told now account ask

  same_place : asked_at room.opened account now ask ≡ place_of view
  same_place = ap (λ (o : Option ℕ). asked_at (unwrap_or o 0) account now ask) (sym keeps.stands.opened)

  group_is : (number : ℕ) (ticket : JobTold) (after : RoomValue) (job : Job) (wanted : Option (List (List ℕ))) → IsAsTold number ticket after job → job_group (asked_at room.opened account now ask) job wanted ≡ job_group_told view wanted number ticket
  group_is number ticket after job wanted is =
      group_as_told (asked_at room.opened account now ask) number ticket after job wanted is ∙ ap (λ (at : PlainPlace). job_group at (job_shown number ticket) wanted) same_place ∙ job_group_alike view number ticket wanted

  -- Print-Job and Create-Job
  made_is : IsAsTold told.next (job_made now ask) (with_new_job room (new_job room.next ask now) (new_document room.next ask)) (new_job room.next ask now)
  made_is =
      let after = with_new_job room (new_job room.next ask now) (new_document room.next ask) in
      let next = keeps.stands.next in
      both_there told.next after (job_made now ask) (new_job room.next ask now) (get (insert told.jobs told.next (job_made now ask)) told.next) (get (insert room.jobs room.next (new_job room.next ask now)) told.next) (put_there told.jobs told.next (job_made now ask))
      (subst (λ (n : ℕ). get (insert room.jobs room.next (new_job room.next ask now)) n ≡ Some (new_job room.next ask now)) next (put_there room.jobs room.next (new_job room.next ask now)))
      ((made_one told room now ask keeps).stands.jobs told.next)

  makes : (let response = refusing_ask_or room ask (accepts room) (λ _. done_with (with_new_job room (new_job room.next ask now) (new_document room.next ask)) ask room.next (job_group (asked_at room.opened account now ask) (new_job room.next ask now) made_names ∷ [])) in
      IsDone response → response.text ≡ answer_to ask (job_group_told view made_names told.next (job_made now ask) ∷ []))
  makes =
      says_or room ask (job_group_told view made_names told.next (job_made now ask) ∷ []) (accepts room) (λ _. done_with (with_new_job room (new_job room.next ask now) (new_document room.next ask)) ask room.next (job_group (asked_at room.opened account now ask) (new_job room.next ask now) made_names ∷ [])) (accepting_errs (unfinished_count room) room.next)
      (λ _ _. ap (λ (g : PlainGroup). answer_to ask (g ∷ [])) (group_is told.next (job_made now ask) (with_new_job room (new_job room.next ask now) (new_document room.next ask)) (new_job room.next ask now) made_names made_is))

  -- Cancel-Job, Hold-Job and Release-Job
  acts : (act : Job → Act) → (let response = refusing_ask_or room ask (and_then (job_or_refusal (get room.jobs ask.job)) (λ (job : Job). move (act job) job.standing)) (λ (standing : Standing). doing_ask (with_moved room ask.job standing) ask []) in
      IsDone response → response.text ≡ answer_to ask [])
  acts act =
      says_or room ask [] (and_then (job_or_refusal (get room.jobs ask.job)) (λ (job : Job). move (act job) job.standing)) (λ (standing : Standing). doing_ask (with_moved room ask.job standing) ask []) (act_errs act (get room.jobs ask.job)) (λ _ _. refl)

  -- what shows the job that the request names
  shows : (group : JobTold → PlainGroup) (next : Job → Response) → ((ticket : JobTold) (job : Job) → get told.jobs ask.job ≡ Some ticket → get room.jobs ask.job ≡ Some job → IsAsTold ask.job ticket room job → IsDone (next job) → (next job).text ≡ answer_to ask (group ticket ∷ []))
      → IsDone (refusing_ask_or room ask (job_or_refusal (get room.jobs ask.job)) next) → (refusing_ask_or room ask (job_or_refusal (get room.jobs ask.job)) next).text ≡ answer_to ask (its_group told ask.job group)
  shows group next each = by (get told.jobs ask.job) refl (get room.jobs ask.job) refl (keeps.stands.jobs ask.job)
    where
      by : (ticket : Option JobTold) → get told.jobs ask.job ≡ ticket → (job : Option Job) → get room.jobs ask.job ≡ job → AreAsTold ask.job ticket room job → IsDone (refusing_ask_or room ask (job_or_refusal job) next)
          → (refusing_ask_or room ask (job_or_refusal job) next).text ≡ answer_to ask (option_map_or (λ (job : JobTold). group job ∷ []) ticket [])
      by ticket is None there are done = absurd (true≢false (sym done ∙ tells_error ask.header (record { status = 0x0406; word = NoJob }) ask.unsupported refl))
      by None is (Some job) there are done = absurd (none-some job (sym are))
      by (Some ticket) is (Some job) there are done = each ticket job is there are done

  -- Send-Document
  brought_is : (ticket : JobTold) (job : Job) (standing : Standing) → get told.jobs ask.job ≡ Some ticket → get room.jobs ask.job ≡ Some job → move (act.SendDocument ask.last (has_data ask)) job.standing ≡ Ok standing
      → IsAsTold ask.job (job_brought ask ticket) (with_standing room ask.job standing (sent_document ask job)) (record job { standing = standing })
  brought_is ticket job standing is there goes =
      let after = with_standing room ask.job standing (sent_document ask job) in
      both_there ask.job after (job_brought ask ticket) (record job { standing = standing }) (get (after_deed now told (Brought ask)).jobs ask.job) (get after.jobs ask.job)
      (ap (λ (t : AccountTold). get t.jobs ask.job) (with_job_there told ask.job (job_brought ask) ticket is) ∙ put_there told.jobs ask.job (job_brought ask ticket))
      (ap (λ (jobs : FinMap nat_cmp Job). get jobs ask.job) (restood_there room.jobs ask.job standing job there) ∙ put_there room.jobs ask.job (record job { standing = standing }))
      ((took told room now ask job standing keeps there goes).stands.jobs ask.job)

  -- Get-Jobs
  lists : (responded room devices account now ask GetJobs).text ≡ answer_to ask (groups_told told account now ask GetJobs)
  lists =
      let all = listed_as_told (asked_at room.opened account now ask) ask told room (listed_names ask.wanted) keeps.stands in
      ap (answer_to ask)
      (all
      ∙ ap (λ (at : PlainPlace). job_groups at (asked_jobs ask (jobs_told told)) (listed_names ask.wanted)) same_place
      ∙ ap (λ (jobs : List Job). job_groups (place_of view) jobs (listed_names ask.wanted)) (listed_alike ask.which ask.limit told room keeps.stands)
      ∙ each_alike view (listed_names ask.wanted) (jobs_listed ask.which ask.limit told)
      ∙ ap (λ (names : Option (List (List ℕ))). map (λ (job : Numbered). job_group_told view names job.0 job.1) (jobs_listed ask.which ask.limit told)) (names_alike ask.wanted))

  -- Get-Printer-Attributes
  prints : (responded room devices account now ask GetPrinterAttributes).text ≡ answer_to ask (groups_told told account now ask GetPrinterAttributes)
  prints =
      let at = asked_at room.opened account now ask in
      let printer = ap (λ (printer : PrinterNow). printer_group at printer ask.wanted) (printer_as_told told room devices keeps.stands known) in
      ap (λ (g : PlainGroup). answer_to ask (g ∷ [])) (printer ∙ ap (λ (at : PlainPlace). printer_group at (printer_told told) ask.wanted) same_place ∙ printer_group_alike view told ask.wanted)

  pub says : (operation : Operation) → IsDone (responded room devices account now ask operation) → (responded room devices account now ask operation).text ≡ answer_to ask (groups_told told account now ask operation)
  says PrintJob = makes
  says CreateJob = makes
  says ValidateJob = says_or room ask [] (accepts room) (λ _. doing_ask room ask []) (accepting_errs (unfinished_count room) room.next) (λ _ _. refl)
  says asks.SendDocument =
      shows (λ (ticket : JobTold). job_group_told view made_names ask.job (job_brought ask ticket)) (λ (job : Job). refusing_ask_or room ask (move (act.SendDocument ask.last (has_data ask)) job.standing) (document_taken room account now ask job))
      (λ ticket job is there are.
      says_or room ask (job_group_told view made_names ask.job (job_brought ask ticket) ∷ []) (move (act.SendDocument ask.last (has_data ask)) job.standing) (document_taken room account now ask job) (move_errs (act.SendDocument ask.last (has_data ask)) job.standing)
      (λ standing goes.
      ap (answer_to ask) (ap (λ (g : PlainGroup). g ∷ []) (group_is ask.job (job_brought ask ticket) (with_standing room ask.job standing (sent_document ask job)) (record job { standing = standing }) made_names (brought_is ticket job standing is there goes)))))
  says asks.CancelJob = acts (λ _. CancelJob now)
  says GetJobAttributes =
      shows (λ (ticket : JobTold). job_group_told view ask.wanted ask.job ticket) (λ (job : Job). doing_ask room ask (job_group (asked_at room.opened account now ask) job ask.wanted ∷ []))
      (λ ticket job is there are done. ap (answer_to ask) (ap (λ (g : PlainGroup). g ∷ []) (group_is ask.job ticket room job ask.wanted are)))
  says GetJobs = λ _. lists
  says GetPrinterAttributes = λ _. prints
  says asks.HoldJob = acts (λ _. HoldJob)
  says asks.ReleaseJob = acts (λ (job : Job). ReleaseJob (has_password job) (left_in room now))
