-- A document that a job takes is the next of its room.
use Rattle.std.proofs.Common.{◌≡◌, ℕ, ◌+◌, ◌≤◌, pos, Bool, true, false, ◌&&◌, nat_le, if◌then◌else◌, List, [], ◌∷◌, length, Option, Some, None, IfSome, IsSome, Result, Ok, option_map, refl, sym, ap, subst, ◌∙◌, arith}
use Rattle.std.specs.FinMap.{get}
use Rattle.std.proofs.lemmas.Bool.Decides.{nat_tests}
use Rattle.sqlite.specs.Effect.{Database}
use Rattle.account_rules.specs.JobStates.{is_unfinished}
use Rattle.account_asks.specs.Asks.{PlainAsk}
use Rattle.rows_statements.specs.Rows.{IsFree}
use Rattle.account_machine.specs.JobActs.{job_or_refusal}
use Rattle.account_machine.specs.JobRequests.{document_taken, has_data, sent, sent_document}
use Rattle.account_machine.specs.NewJobs.{made_names}
use Rattle.account_machine.specs.Requests.{Response, asked_at, refusing_ask_or}
use Rattle.account_rules.specs.declared.account.Account.{Account}
use Rattle.account_rules.specs.declared.job.Document.{Document}
use Rattle.account_rules.specs.declared.job.Job.{Job}
use Rattle.account_rules.specs.declared.job.Standing.{Standing}
use Rattle.account_rules.specs.declared.refusal.Refusal.{Refusal}
use Rattle.account_rules.specs.Limits.{longest_document}
use Rattle.account_rules.specs.Acts.{SendDocument}
use Rattle.account_rules.specs.Moves.{move}
use Rattle.account_rules.specs.Standings.{IsStanding}
use Rattle.account_state.specs.Changes.{with_standing}
use Rattle.account_state.specs.Conditions.{CanRestand, GoesOn}
use Rattle.account_state.specs.RoomRules.{has_document}
use Rattle.account_state.specs.Rooms.{RoomValue}
use Rattle.rows_tables.specs.Accounts.{account_of_room, HoldsRoom}
use Rattle.rows_tables.specs.Cells.{document_cells}
use Rattle.account_replies.specs.JobAttributes.{job_group}
use Rattle.account_replies.specs.Places.{PlainPlace}
use Rattle.store_events.specs.Answers.{of_response, request_done}
use Rattle.store_events.specs.ProofKnown.{TakesDocument}
use Rattle.store_events.proofs.Made.{none_of}

abbrev document_if : PlainAsk → Job → Bool → Option Document
document_if ask job brings = if brings then Some (record { job = ask.job; number = job.standing.documents + 1; format = ask.format; bytes = ask.payload }) else None

-- the place after its documents is free
past : (unfinished : Bool) (n : ℕ) → (unfinished && nat_le 1 (n + 1) && nat_le (n + 1) n) ≡ false
past unfinished n = grind (arith, nat_tests)

pub next_place_is_free : (room : RoomValue) (ask : PlainAsk) (job : Job) → get room.jobs ask.job ≡ Some job → (db : Database) (name : List ℕ) → HoldsRoom db name room → IsFree name (sent_document ask job) db
next_place_is_free room ask job there db name holds = free (has_data ask)
  where
    free : (brings : Bool) → IsFree name (document_if ask job brings) db
    free true =
        holds.rows.document_rows (pos ask.job) (pos (job.standing.documents + 1))
        ∙ ap (option_map (document_cells name)) (none_of (get room.documents (ask.job, job.standing.documents + 1))
        (holds.is_room.all_documents ask.job (job.standing.documents + 1) ∙ ap (λ (o : Option Job). has_document o (job.standing.documents + 1)) there ∙ past (is_unfinished job.standing.state) job.standing.documents))
    free false = tt

module _ (room : RoomValue) (ask : PlainAsk) (job : Job) (there : get room.jobs ask.job ≡ Some job) (standing : Standing) (takes : TakesDocument (has_data ask) job.standing standing) where
  goes_on : (brings : Bool) → standing.documents ≡ job.standing.documents + (if brings then 1 else 0) → length ask.payload ≤ longest_document → GoesOn ask.job job.standing.documents standing.documents (document_if ask job brings)
  goes_on true is fits = (is, record { of_job = refl; numbered = refl; fits = fits })
  goes_on false is fits = omega (arith, is)

  in_some : (P : Job → Type 0) → P job → IfSome (get room.jobs ask.job) P
  in_some P p = subst (λ (o : Option Job). IfSome o P) (sym there) p

  pub can_take : IsStanding standing → length ask.payload ≤ longest_document → CanRestand room ask.job standing (sent_document ask job)
  can_take in_range fits = record {
    is_there = subst (λ (o : Option Job). IsSome o) (sym there) refl;
    was_unfinished = in_some (λ (j : Job). is_unfinished j.standing.state ≡ true) takes.was_unfinished;
    in_range = in_range;
    stays_unfinished = takes.stays_unfinished;
    documents = in_some (λ (j : Job). GoesOn ask.job j.standing.documents standing.documents (sent_document ask job)) (goes_on (has_data ask) takes.documents fits);
  }

  module _ (name : List ℕ) (now : ℕ) (decided : Result Standing Refusal) (is : decided ≡ Ok standing) where
    abbrev response : Result Standing Refusal → Response
    response d = refusing_ask_or room ask d (document_taken room name now ask job)

    -- the room is that with the document
    pub taken : (first : Option Document) → first ≡ sent_document ask job → IsStanding standing → length ask.payload ≤ longest_document → (after : Database)
        → (CanRestand room ask.job standing first → HoldsRoom after name (with_standing room ask.job standing first)) → HoldsRoom after name (response decided).room
    taken first same in_range fits after holds =
        subst (λ (d : Result Standing Refusal). HoldsRoom after name (response d).room) (sym is)
        (subst (λ (d : Option Document). HoldsRoom after name (with_standing room ask.job standing d)) same (holds (subst (λ (d : Option Document). CanRestand room ask.job standing d) (sym same) (can_take in_range fits))))

    pub told : job.job ≡ ask.job → (account : Account) → account ≡ account_of_room room → (at : PlainPlace) → at ≡ asked_at account.opened name now ask → (names : Option (List (List ℕ))) → names ≡ made_names
        → request_done ask job.job (job_group at (record job { standing = standing }) names ∷ []) ≡ of_response (response decided)
    told numbered account own at place names same =
        ap (λ (n : ℕ). request_done ask n (job_group at (record job { standing = standing }) names ∷ [])) numbered
        ∙ ap (λ (p : PlainPlace). request_done ask ask.job (job_group p (record job { standing = standing }) names ∷ [])) (place ∙ ap (λ (a : Account). asked_at a.opened name now ask) own)
        ∙ ap (λ (n : Option (List (List ℕ))). request_done ask ask.job (job_group (asked_at room.opened name now ask) (record job { standing = standing }) n ∷ [])) same
        ∙ ap (λ (d : Result Standing Refusal). of_response (response d)) (sym is)

-- what is decided of the job that was found is what is decided of the room
pub sent_found : (room : RoomValue) (name : List ℕ) (now : ℕ) (ask : PlainAsk) (job : Job) → get room.jobs ask.job ≡ Some job → (decided : Result Standing Refusal) → decided ≡ move (SendDocument ask.last (has_data ask)) job.standing
    → refusing_ask_or room ask decided (document_taken room name now ask job) ≡ sent room name now ask
sent_found room name now ask job there decided moved =
    ap (λ (d : Result Standing Refusal). refusing_ask_or room ask d (document_taken room name now ask job)) moved
    ∙ ap (λ (o : Option Job). refusing_ask_or room ask (job_or_refusal o) (λ (job : Job). refusing_ask_or room ask (move (SendDocument ask.last (has_data ask)) job.standing) (document_taken room name now ask job))) (sym there)
