-- Each change of the lists of a room is that of its value, and keeps what its type promises.
use Rattle.std.proofs.Common.{◌≡◌, ℕ, ◌+◌, ◌<◌, true, false, ◌&&◌, ◌==◌, not, nat_le, List, [], ◌∷◌, ◌++◌, map, filter, Option, Some, None, is_some, refl, sym, ap, subst, ◌∙◌, arith}
use Rattle.std.specs.List.{AllByRecursion}
use Rattle.std.specs.Option.{IsSome, IfSome, option_to_list}
use Rattle.std.specs.FinMap.{get, values}
use Rattle.std.proofs.lemmas.Bool.Decides.{nat_tests}
use Rattle.account_rules.specs.JobStates.{is_unfinished}
use Rattle.account_rules.specs.declared.account.Grant.{Grant}
use Rattle.account_rules.specs.declared.job.Job.{Job}
use Rattle.account_rules.specs.declared.job.Document.{Document}
use Rattle.account_rules.specs.declared.job.Standing.{Standing}
use Rattle.account_state.specs.Rooms.{RoomValue}
use Rattle.room_core.specs.ProofRoomLists.{job_map, document_map, grant_map, PlacesOnce, MonthsOnce}
use Rattle.account_state.specs.RoomRules.{IsRoom, NumbersRise, has_document}
use Rattle.account_state.specs.Changes.{with_new_job, with_standing, with_ended, with_grant, with_document, restood}
use Rattle.account_state.specs.Conditions.{CanAddJob, CanRestand, CanFinish, CanAddGrant, GoesOn}
use Rattle.room_core.specs.ProofRestanding.{restood_job}
use Rattle.account_state.proofs.KeptRooms.{add_job_keeps, restand_keeps, finish_keeps, add_grant_keeps, job_there, restood_there}
use Rattle.account_state.proofs.FiniteMaps.{all_along}
use Rattle.room_core.proofs.JobLists.{job_map-push, values-job_map, rise_push, rise_restood, job_map-restood}
use Rattle.room_core.proofs.DocumentLists.{document_map-others, list_with, places_left}
use Rattle.room_core.proofs.GrantLists.{grant_map-push, list_with as one_month_more}
use Rattle.account_state.proofs.Bounds.{values_by_the_rules}
use Rattle.account_state.proofs.KeptJobs.{none_next}

-- the value of a room with these parts
abbrev pub whole : (opened next : ℕ) → List Job → List Document → List Grant → RoomValue
whole opened next jobs documents grants = record { opened = opened; next = next; jobs = job_map jobs; documents = document_map documents; grants = grant_map grants }

abbrev pub Keeps : (opened next : ℕ) → List Job → List Document → List Grant → Type 0
Keeps opened next jobs documents grants = NumbersRise jobs × PlacesOnce documents × MonthsOnce grants × IsRoom (whole opened next jobs documents grants)

is_none : {A : Type 0} (o : Option A) → is_some o ≡ false → o ≡ None
is_none None h = refl
is_none (Some x) h = absurd (let no : ⊥ = cc in no)

past_last : (n : ℕ) → (nat_le 1 (n + 1) && nat_le (n + 1) n) ≡ false
past_last n = grind (arith, nat_tests)

-- an unfinished job has no document after its last
next_is_free : (room : RoomValue) (number : ℕ) (job : Job) → IsRoom room → get room.jobs number ≡ Some job → is_unfinished job.standing.state ≡ true → get room.documents (number, job.standing.documents + 1) ≡ None
next_is_free room number job rules here unfinished =
    let next = job.standing.documents + 1 in
    is_none _ (rules.all_documents number next ∙ ap (λ (o : Option Job). has_document o next) here
    ∙ ap (λ b. b && nat_le 1 next && nat_le next job.standing.documents) unfinished ∙ past_last job.standing.documents)

-- the next number is above all
all_below : (opened next : ℕ) (jobs : List Job) (documents : List Document) (grants : List Grant) → NumbersRise jobs → IsRoom (whole opened next jobs documents grants) → AllByRecursion (λ job. job.job < next) jobs
all_below opened next jobs documents grants rising rules =
    subst (AllByRecursion (λ (job : Job). job.job < next)) (values-job_map jobs rising)
    (all_along (λ (job : Job) at. at.below_next) (values (job_map jobs)) (values_by_the_rules (whole opened next jobs documents grants) rules))

module _ (room : RoomValue) (opened next : ℕ) (jobs : List Job) (documents : List Document) (grants : List Grant)
    (seen : whole opened next jobs documents grants ≡ room) (keeps : Keeps opened next jobs documents grants) where
  rules : IsRoom room
  rules = subst IsRoom seen keeps.3

  module _ (job : Job) (document : Option Document) (grown : List Job) (more : List Document) (grows : grown ≡ jobs ++ job ∷ []) (comes : more ≡ documents ++ option_to_list document) (can : CanAddJob room job document) where
    here : CanAddJob (whole opened next jobs documents grants) job document
    here = subst (λ (r : RoomValue). CanAddJob r job document) (sym seen) can

    free_place : get (document_map documents) (next, 1) ≡ None
    free_place = is_none _ (keeps.3.all_documents next 1 ∙ ap (λ (o : Option Job). has_document o 1) (none_next (whole opened next jobs documents grants) keeps.3))

    free_number : get (job_map jobs) job.job ≡ None
    free_number = ap (get (job_map jobs)) here.numbered ∙ none_next (whole opened next jobs documents grants) keeps.3

    pub job_added : whole opened (next + 1) grown more grants ≡ with_new_job room job document
    job_added =
        let more_is = (list_with documents next 0 job.standing.documents document here.documents free_place keeps.1).1 in
        let more_jobs = ap job_map grows ∙ job_map-push jobs job free_number in
        let more_documents = ap document_map comes ∙ more_is in
        let made : whole opened (next + 1) grown more grants ≡ with_new_job (whole opened next jobs documents grants) job document =
        λ i. record { opened = opened; next = next + 1; jobs = more_jobs i; documents = more_documents i; grants = grant_map grants } in
        made ∙ ap (λ (r : RoomValue). with_new_job r job document) seen

    pub job_added_keeps : Keeps opened (next + 1) grown more grants
    job_added_keeps =
        let above : AllByRecursion (λ (other : Job). other.job < job.job) jobs = subst (λ n. AllByRecursion (λ (other : Job). other.job < n) jobs) (sym here.numbered) (all_below opened next jobs documents grants keeps.0 keeps.3) in (
          subst NumbersRise (sym grows) (rise_push jobs job keeps.0 above),
          subst PlacesOnce (sym comes) (list_with documents next 0 job.standing.documents document here.documents free_place keeps.1).0,
          keeps.2,
          subst IsRoom (sym job_added) (add_job_keeps room job document rules can),
        )

  module _ (number : ℕ) (standing : Standing) (grown : List Job) (grows : grown ≡ map (restood_job number standing) jobs) (some_job : IsSome (get room.jobs number)) where
    in_list : (was : Job) → get room.jobs number ≡ Some was → get (job_map jobs) number ≡ Some was
    in_list was is = ap (λ (r : RoomValue). get r.jobs number) seen ∙ is

    jobs_restood : job_map grown ≡ restood (job_map jobs) number standing
    jobs_restood =
        let was = job_there (get room.jobs number) some_job in
        let is : get (job_map jobs) number ≡ Some was.0 = in_list was.0 was.1 in
        ap job_map grows ∙ job_map-restood jobs number standing was.0 is ∙ sym (restood_there (job_map jobs) number standing was.0 is)

    numbers_rise : NumbersRise grown
    numbers_rise = subst NumbersRise (sym grows) (rise_restood number standing jobs keeps.0)

    module _ (document : Option Document) (more : List Document) (comes : more ≡ documents ++ option_to_list document) (can : CanRestand room number standing document) where
      next_listed : PlacesOnce more × (document_map more ≡ with_document (document_map documents) document)
      next_listed =
          let there = job_there (get room.jobs number) some_job in
          let was : Job = there.0 in
          let before : is_unfinished was.standing.state ≡ true = subst (λ (o : Option Job). IfSome o (λ (j : Job). is_unfinished j.standing.state ≡ true)) there.1 can.was_unfinished in
          let goes : GoesOn number was.standing.documents standing.documents document = subst (λ (o : Option Job). IfSome o (λ (j : Job). GoesOn number j.standing.documents standing.documents document)) there.1 can.documents in
          let free : get (document_map documents) (number, was.standing.documents + 1) ≡ None =
          ap (λ (r : RoomValue). get r.documents (number, was.standing.documents + 1)) seen ∙ next_is_free room number was rules there.1 before in
          let listed = list_with documents number was.standing.documents standing.documents document goes free keeps.1 in
          (subst PlacesOnce (sym comes) listed.0, ap document_map comes ∙ listed.1)

      pub job_restood : whole opened next grown more grants ≡ with_standing room number standing document
      job_restood =
          let more_jobs = jobs_restood in
          let more_documents = next_listed.1 in
          let made : whole opened next grown more grants ≡ with_standing (whole opened next jobs documents grants) number standing document =
          λ i. record { opened = opened; next = next; jobs = more_jobs i; documents = more_documents i; grants = grant_map grants } in
          made ∙ ap (λ (r : RoomValue). with_standing r number standing document) seen

      pub job_restood_keeps : Keeps opened next grown more grants
      job_restood_keeps = (numbers_rise, next_listed.0, keeps.2, subst IsRoom (sym job_restood) (restand_keeps room number standing document rules can))

    module _ (fewer : List Document) (drops : fewer ≡ filter (λ document. not (document.job == number)) documents) (can : CanFinish room number standing) where
      pub job_finished : whole opened next grown fewer grants ≡ with_ended room number standing
      job_finished =
          let more_jobs = jobs_restood in
          let fewer_documents = ap document_map drops ∙ document_map-others documents number in
          let made : whole opened next grown fewer grants ≡ with_ended (whole opened next jobs documents grants) number standing =
          λ i. record { opened = opened; next = next; jobs = more_jobs i; documents = fewer_documents i; grants = grant_map grants } in
          made ∙ ap (λ (r : RoomValue). with_ended r number standing) seen

      pub job_finished_keeps : Keeps opened next grown fewer grants
      job_finished_keeps = (numbers_rise, subst PlacesOnce (sym drops) (places_left documents number keeps.1), keeps.2, subst IsRoom (sym job_finished) (finish_keeps room number standing rules can))

  module _ (month pages : ℕ) (grown : List Grant) (grows : grown ≡ grants ++ record { month = month; pages = pages } ∷ []) (can : CanAddGrant room month pages) where
    new_month : get (grant_map grants) month ≡ None
    new_month = ap (λ (r : RoomValue). get r.grants month) seen ∙ can.is_new

    pub grant_added : whole opened next jobs documents grown ≡ with_grant room month pages
    grant_added =
        let more_grants = ap grant_map grows ∙ grant_map-push grants (record { month = month; pages = pages }) new_month in
        let made : whole opened next jobs documents grown ≡ with_grant (whole opened next jobs documents grants) month pages =
        λ i. record { opened = opened; next = next; jobs = job_map jobs; documents = document_map documents; grants = more_grants i } in
        made ∙ ap (λ (r : RoomValue). with_grant r month pages) seen

    pub grant_added_keeps : Keeps opened next jobs documents grown
    grant_added_keeps =
        (keeps.0, keeps.1, subst MonthsOnce (sym grows) (one_month_more grants (record { month = month; pages = pages }) new_month keeps.2), subst IsRoom (sym grant_added) (add_grant_keeps room month pages rules can))
