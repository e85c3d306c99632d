-- What an event makes of a room is a room.
use Rattle.std.proofs.Common.{◌≡◌, ℕ, ◌+◌, ◌<◌, ◌≤◌, Bool, true, false, if◌then◌else◌, List, length, Option, Some, None, Ok, IsTrue, refl, sym, ap, subst, arith}
use Rattle.std.specs.Prelude.{IfSome, is_some}
use Rattle.std.specs.FinMap.{get}
use Rattle.std.proofs.lemmas.Bool.Decides.{nat_tests}
use Rattle.account_asks.specs.Asks.{PlainAsk}
use Rattle.account_asks.specs.Operations.{hands_in_document, is_print_job}
use Rattle.account_asks.specs.declared.operation.Operation.{Operation}
use Rattle.account_asks.specs.declared.operation.Operation.TheVariants as asks
use Rattle.account_machine.specs.Events.{AccountEvent, OfAccount, Release, Settle, Grant}
use Rattle.account_machine.specs.Fits.{fits}
use Rattle.account_machine.specs.JobRequests.{has_data, has_password, sent_document}
use Rattle.account_rules.specs.Keeping.{Keeps}
use Rattle.account_machine.specs.NewJobs.{accepts, new_document, new_job}
use Rattle.account_machine.specs.Rates.{AreRated}
use Rattle.account_machine.specs.Steps.{with_moved}
use Rattle.account_machine.specs.declared.event.Reply.{Reply}
use Rattle.account_laws.specs.RoomsStay.{AreNamed}
use Rattle.account_replies.specs.Queues.{accepting_refusal}
use Rattle.account_rules.specs.Acts.{Act, CancelJob, HoldJob, ReleaseJob, SendDocument, StationRelease, StationSettle, StationStart}
use Rattle.account_rules.specs.Devices.{Devices}
use Rattle.account_rules.specs.JobStates.{is_unfinished}
use Rattle.account_rules.specs.Limits.{last_next_job, longest_document, most_copies, most_documents, most_impressions, most_unfinished, IsMoment}
use Rattle.account_rules.specs.Moves.{move}
use Rattle.account_rules.specs.NewJobs.{fresh}
use Rattle.account_rules.specs.Standings.{IsStanding}
use Rattle.account_rules.specs.declared.job.Job.{Job}
use Rattle.account_rules.specs.declared.job.Standing.{Standing}
use Rattle.account_state.specs.Changes.{with_ended, with_new_job, with_standing}
use Rattle.account_state.specs.Conditions.{GoesOn}
use Rattle.account_state.specs.RoomRules.{IsGrant, IsRoom, unfinished_count}
use Rattle.account_state.specs.Rooms.{RoomValue}
use Rattle.account_state.specs.Sums.{left_in}
use Rattle.account_state.proofs.KeptRooms.{add_grant_keeps, add_job_keeps, finish_keeps, restand_keeps}
use Rattle.account_laws.proofs.Moved.{brings_document, document_taken, moved_keeps}
use Rattle.account_laws.proofs.AsksWithin.{IsWithin, ask_within}
use Rattle.account_laws.proofs.Changes.{Makes, act_asked, refuses, reads, makes, takes, acts, releases, starts, settles, grants, ready_is}
use Rattle.account_laws.proofs.MovedStandings.{IsActWithin, moved_stands}

-- ---- an act on a job

-- a standing that goes on from the job's
stands_so : (room : RoomValue) (number : ℕ) (job : Job) (standing : Standing) → IsRoom room → get room.jobs number ≡ Some job → IsStanding standing → Keeps job.standing standing → IsRoom (with_moved room number standing)
stands_so room number job standing rules here is keeps =
    (elim (is_unfinished standing.state) as (λ b. is_unfinished standing.state ≡ b → IsRoom (if b then with_standing room number standing None else with_ended room number standing)) [
      | true ↦ λ unfinished. restand_keeps room number standing None rules (record {
        is_there = ap is_some here;
        was_unfinished = subst (λ (o : Option Job). IfSome o (λ (j : Job). is_unfinished j.standing.state ≡ true)) (sym here) (keeps.no_return unfinished);
        in_range = is;
        stays_unfinished = unfinished;
        documents = subst (λ (o : Option Job). IfSome o (λ (j : Job). GoesOn number j.standing.documents standing.documents None)) (sym here) keeps.documents;
      })
      | false ↦ λ ended. finish_keeps room number standing rules (record { is_there = ap is_some here; in_range = is; has_ended = ended })
    ]) refl

-- what an act makes of it that brings no document
act_keeps : (room : RoomValue) (number : ℕ) (job : Job) (standing : Standing) (act : Act) → IsRoom room → get room.jobs number ≡ Some job → IsActWithin act → brings_document act ≡ false → move act job.standing ≡ Ok standing → IsRoom (with_moved room number standing)
act_keeps room number job standing act rules here within brings moved =
    stands_so room number job standing rules here (moved_stands act job.standing standing (rules.jobs number job here).standing within moved) (moved_keeps act job.standing standing brings moved)

-- the act that a request asks for needs a moment within the limits alone
asked_within : (room : RoomValue) (now : ℕ) (job : Job) (operation : Operation) (act : Act) → IsMoment now → act_asked room now job operation ≡ Some act → IsActWithin act × (brings_document act ≡ false)
asked_within room now job asks.CancelJob act moment is = let this : CancelJob now ≡ act = cc in subst (λ (a : Act). IsActWithin a × (brings_document a ≡ false)) this (moment, refl)
asked_within room now job asks.HoldJob act moment is = let this : HoldJob ≡ act = cc in subst (λ (a : Act). IsActWithin a × (brings_document a ≡ false)) this (tt, refl)
asked_within room now job asks.ReleaseJob act moment is = let this : ReleaseJob (has_password job) (left_in room now) ≡ act = cc in subst (λ (a : Act). IsActWithin a × (brings_document a ≡ false)) this (tt, refl)
asked_within room now job _ act moment is = absurd (let no : ⊥ = cc in no)

-- ---- a document

-- the job's documents go on by the one that was sent, or stay
next_document : (ask : PlainAsk) (job : Job) (standing : Standing) (some_data : Bool) → standing.documents ≡ (if some_data then job.standing.documents + 1 else job.standing.documents) → length ask.payload ≤ longest_document
    → GoesOn ask.job job.standing.documents standing.documents (if some_data then Some (record { job = ask.job; number = job.standing.documents + 1; format = ask.format; bytes = ask.payload }) else None)
next_document ask job standing true is fits = (is, record { of_job = refl; numbered = refl; fits = fits })
next_document ask job standing false is fits = is

-- Send-Document
document_keeps : (room : RoomValue) (ask : PlainAsk) (job : Job) (standing : Standing) → IsRoom room → IsWithin ask → ask.operation ≡ asks.SendDocument → get room.jobs ask.job ≡ Some job
    → move (SendDocument ask.last (has_data ask)) job.standing ≡ Ok standing → IsRoom (with_standing room ask.job standing (sent_document ask job))
document_keeps room ask job standing rules within sends here moved =
    let taken = document_taken job.standing standing ask.last (has_data ask) moved in
    let fits = within.document_fits (ap hands_in_document sends) in
    restand_keeps room ask.job standing (sent_document ask job) rules (record {
      is_there = ap is_some here;
      was_unfinished = subst (λ (o : Option Job). IfSome o (λ (j : Job). is_unfinished j.standing.state ≡ true)) (sym here) (ap is_unfinished taken.was_held);
      in_range = moved_stands (SendDocument ask.last (has_data ask)) job.standing standing (rules.jobs ask.job job here).standing tt moved;
      stays_unfinished = ap is_unfinished taken.is_held;
      documents = subst (λ (o : Option Job). IfSome o (λ (j : Job). GoesOn ask.job j.standing.documents standing.documents (sent_document ask job))) (sym here) (next_document ask job standing (has_data ask) taken.documents fits);
    })

-- ---- a new job

-- it stands within the limits
fresh_stands : (is_print : Bool) (copies impressions now : ℕ) → 1 ≤ copies → copies ≤ most_copies → impressions ≤ most_impressions → IsMoment now → IsStanding (fresh is_print copies impressions now)
fresh_stands is_print copies impressions now some few within moment = record {
  ranges = record {
    copies_from_one = some;
    copies_at_most = few;
    impressions_at_most = within;
    documents_at_most = at_most_one is_print;
    rate_from_one = omega arith;
    rate_at_most = omega arith;
    created_in_range = moment;
    started_in_range = tt;
    ended_in_range = tt;
  };
  by_state = record { unfinished = record { charges_nothing = refl; has_not_ended = refl }; rate_one = refl; reserves_nothing = refl };
  named_device = tt;
}
  where
    at_most_one : (b : Bool) → (if b then 1 else 0) ≤ most_documents
    at_most_one true = omega arith
    at_most_one false = omega arith

-- it has the document that it was printed with, or none yet
first_document : (number : ℕ) (ask : PlainAsk) (is_print : Bool) → (is_print ≡ true → length ask.payload ≤ longest_document)
    → GoesOn number 0 (if is_print then 1 else 0) (if is_print then Some (record { job = number; number = 1; format = ask.format; bytes = ask.payload }) else None)
first_document number ask true fits = (refl, record { of_job = refl; numbered = refl; fits = fits refl })
first_document number ask false fits = refl

-- Print-Job hands in a document
prints_hand_in : (operation : Operation) → is_print_job operation ≡ true → hands_in_document operation ≡ true
prints_hand_in asks.PrintJob is = refl
prints_hand_in _ is = absurd (let no : ⊥ = cc in no)

-- an account that takes a job has few that are unfinished, and a number left
some_left : (unfinished next : ℕ) → accepting_refusal unfinished next ≡ Ok tt → (unfinished < most_unfinished) × (next < last_next_job)
some_left unfinished next is = (grind (arith, nat_tests), grind (arith, nat_tests))

-- Print-Job and Create-Job
new_job_keeps : (room : RoomValue) (ask : PlainAsk) (now : ℕ) → IsRoom room → IsWithin ask → IsMoment now → accepts room ≡ Ok tt → IsRoom (with_new_job room (new_job room.next ask now) (new_document room.next ask))
new_job_keeps room ask now rules within moment accepting =
    let left = some_left (unfinished_count room) room.next accepting in
    let is_print = is_print_job ask.operation in
    add_job_keeps room (new_job room.next ask now) (new_document room.next ask) rules (record {
      a_number_is_left = left.1;
      few_are_unfinished = left.0;
      numbered = refl;
      name_fits = within.name_fits;
      password_fits = within.password_fits;
      in_range = fresh_stands is_print ask.copies ask.impressions now within.copies_from_one within.copies_at_most within.impressions_at_most moment;
      stays_unfinished = refl;
      documents = first_document room.next ask is_print (λ prints. within.document_fits (prints_hand_in ask.operation prints));
    })

-- ---- what a station or an operator brings

-- what an event brings that lies within its limits
few_released : (account device : List ℕ) (number : ℕ) (password : List ℕ) (impressions : ℕ) → IsTrue (fits (OfAccount account (Release device number password impressions))) → impressions ≤ most_impressions
few_released account device number password impressions fit = grind (arith, nat_tests)

few_settled : (account device : List ℕ) (number impressions : ℕ) (failed : Bool) → IsTrue (fits (OfAccount account (Settle device number impressions failed))) → impressions ≤ most_impressions
few_settled account device number impressions failed fit = grind (arith, nat_tests)

grant_within : (account : List ℕ) (month pages : ℕ) → IsTrue (fits (OfAccount account (Grant month pages))) → IsGrant month pages
grant_within account month pages fit = record { from_first = grind (arith, nat_tests); to_last = grind (arith, nat_tests); pages_fit = grind (arith, nat_tests) }

-- ---- each event

pub event_keeps : (room : RoomValue) (devices : Devices) (now : ℕ) (account : List ℕ) (event : AccountEvent) (told : Reply) (after : RoomValue) → IsRoom room → AreNamed devices → AreRated devices → IsMoment now
    → IsTrue (fits (OfAccount account event)) → Makes room devices now account event told after → IsRoom after
event_keeps room devices now account event told after rules named rated moment fit (refuses _ _ not_done not_ok none) = rules
event_keeps room devices now account event told after rules named rated moment fit (reads body ask text asked only) = rules
event_keeps room devices now account event told after rules named rated moment fit (makes body ask text asked making accepting done) = new_job_keeps room ask now rules (ask_within account body ask asked) moment accepting
event_keeps room devices now account event told after rules named rated moment fit (takes body ask text job standing asked sends here moved done) = document_keeps room ask job standing rules (ask_within account body ask asked) sends here moved
event_keeps room devices now account event told after rules named rated moment fit (acts body ask text job act standing asked here is moved done) =
    let within = asked_within room now job ask.operation act moment is in
    act_keeps room ask.job job standing act rules here within.0 within.1 moved
event_keeps room devices now account event told after rules named rated moment fit (releases device number password impressions ready job standing is here moved) =
    let known = ready_is (get devices device) ready is in
    act_keeps room number job standing (StationRelease job.password device password impressions ready.rate _) rules here (named device ready known, few_released account device number password impressions fit, rated device ready known) refl moved
event_keeps room devices now account event told after rules named rated moment fit (starts device number ready job standing is here moved) =
    act_keeps room number job standing (StationStart device ready.rate now) rules here (named device ready (ready_is (get devices device) ready is), moment) refl moved
event_keeps room devices now account event told after rules named rated moment fit (settles device number impressions failed known job standing is here moved) =
    act_keeps room number job standing (StationSettle device impressions failed now) rules here (few_settled account device number impressions failed fit, moment) refl moved
event_keeps room devices now account event told after rules named rated moment fit (grants month pages none) = add_grant_keeps room month pages rules (record { is_new = none; in_range = grant_within account month pages fit })
