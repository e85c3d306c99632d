-- What was found in the rows of an account is what its room has.
use Rattle.std.proofs.Common.{◌≡◌, ℕ, ◌<◌, ◌≤◌, ℤ, pos, Bool, true, false, List, [], ◌∷◌, Option, Some, None, IfSome, IsSome, Result, option_map, refl, sym, ap, subst, ◌∙◌, arith}
use Rattle.std.specs.FinMap.{get}
use Rattle.sqlite_value.specs.Order.{Row}
use Rattle.sqlite.specs.Effect.{Database}
use Rattle.std.proofs.lemmas.Bool.Decides.{nat_tests}
use Rattle.account_rules.specs.JobStates.{is_unfinished}
use Rattle.account_asks.specs.Asks.{PlainAsk}
use Rattle.account_machine.proofs.Orders.{all_showable}
use Rattle.account_rules.specs.Limits.{last_next_job, may_be_job}
use Rattle.account_state.specs.RoomRules.{IsJobAt}
use Rattle.rows_statements.specs.Queues.{IsNumbered}
use Rattle.account_replies.specs.Limits.{IsShowable}
use Rattle.account_machine.specs.JobActs.{job_or_refusal, act_on, job_in}
use Rattle.account_machine.specs.JobRequests.{cancel_of, has_password, hold_of, release_of, acted}
use Rattle.account_rules.specs.Keeping.{Keeps}
use Rattle.account_machine.specs.Steps.{and_then}
use Rattle.account_rules.specs.Acts.{CancelJob, HoldJob, ReleaseJob, Act}
use Rattle.account_rules.specs.Moves.{move}
use Rattle.account_rules.specs.StateLaws.{kept_to_quota}
use Rattle.account_state.specs.Sums.{left_in}
use Rattle.account_rules.specs.declared.refusal.Refusal.{Refusal}
use Rattle.account_rules.specs.Standings.{IsStanding}
use Rattle.account_rules.specs.declared.job.Job.{Job}
use Rattle.account_rules.specs.declared.job.Standing.{Standing}
use Rattle.account_state.specs.Conditions.{CanRestand, CanFinish}
use Rattle.account_state.specs.Rooms.{RoomValue}
use Rattle.rows_tables.specs.Cells.{job_cells}
use Rattle.rows_tables.specs.Accounts.{job_at, HoldsRoom}
use Rattle.rows_tables.proofs.KeyedRows.{same_row}
use Rattle.rows_statements.specs.Changed.{FinishesJob, RestandsJob}
use Rattle.store_rounds.specs.ProofKnown.{HasJobRow}
use Rattle.store_events.specs.ProofKnown.{StandsJob}
use Rattle.store_events.specs.Reading.{ActIsReadable}
use Rattle.account_machine.specs.Requests.{Response, refusing_ask, refusing_ask_or}
use Rattle.account_rules.specs.declared.refusal.Word.TheVariants.{NoJob}
use Rattle.rows_tables.proofs.ReadBackLemmas.{rows_are_read_back}
use Rattle.store_rounds.proofs.FoundJobs.{numbered}

one_value : {X : Type 0} (cells : X → Row) → ((a b : X) → cells a ≡ cells b → a ≡ b) → (o p : Option X) → option_map cells o ≡ option_map cells p → o ≡ p
one_value cells exact None None same = refl
one_value cells exact None (Some b) same = let no : ⊥ = cc in absurd no
one_value cells exact (Some a) None same = let no : ⊥ = cc in absurd no
one_value cells exact (Some a) (Some b) same = ap (λ x. Some x) (exact a b (same_row same))

pub may_be_found : (job : Job) → IsNumbered job → may_be_job job.job ≡ true
may_be_found job is = within job.job is.from_one is.to_last
  where
    within : (number : ℕ) → 1 ≤ number → number < last_next_job → may_be_job number ≡ true
    within number low high = grind (arith, nat_tests)

-- what is shown of a job that was read lies within the limits
pub showable : (job : Job) → IsNumbered job → IsShowable job
showable job is =
    let at : IsJobAt last_next_job job.job job = record {
      numbered = refl;
      from_one = is.from_one;
      below_next = is.to_last;
      name_fits = is.in_range.name_fits;
      password_fits = is.in_range.password_fits;
      standing = is.in_range.standing;
    } in
    (all_showable last_next_job (job ∷ []) (omega arith) (at, tt)).0

-- what an act reads of a job that was found
pub act_of : (name : List ℕ) (number : ℕ) (Reads : Job → Type 0) (db : Database) → ActIsReadable name number Reads db → (job : Job) → job.job ≡ number → IsNumbered job → HasJobRow name job db → Reads job
act_of name number Reads db readable job is numbered there =
    readable.act (subst (λ (n : ℕ). may_be_job n ≡ true) is (may_be_found job numbered)) job numbered.in_range (subst (λ (n : ℕ). job_at db name (pos n) ≡ Some (job_cells name job)) is there)

-- a job whose row is there is in the room
pub job_under : (db : Database) (name : List ℕ) (number : ℕ) (job : Job) → job_at db name (pos number) ≡ Some (job_cells name job) → IsStanding job.standing → (room : RoomValue) → HoldsRoom db name room → get room.jobs number ≡ Some job
job_under db name number job there is room holds = by_room (get room.jobs number) refl
  where
    by_room : (o : Option Job) → get room.jobs number ≡ o → o ≡ Some job
    by_room None of = let e = sym there ∙ holds.rows.job_rows (pos number) ∙ ap (option_map (job_cells name)) of in let no : ⊥ = cc in absurd no
    by_room (Some b) of =
        let same = same_row (sym there ∙ holds.rows.job_rows (pos number) ∙ ap (option_map (job_cells name)) of) in
        ap (λ (job : Job). Some job) (sym (rows_are_read_back.jobs name name job b is.named_device (holds.is_room.jobs number b of).standing.named_device same).1)

pub job_in_room : (db : Database) (name : List ℕ) (job : Job) → HasJobRow name job db → IsStanding job.standing → (room : RoomValue) → HoldsRoom db name room → get room.jobs job.job ≡ Some job
job_in_room db name job = job_under db name job.job job

module _ (room : RoomValue) (job : Job) (there : get room.jobs job.job ≡ Some job) (standing : Standing) (is : IsStanding standing) (kept : Keeps job.standing standing) where
  in_some : (P : Job → Type 0) → P job → IfSome (get room.jobs job.job) P
  in_some P p = subst (λ (o : Option Job). IfSome o P) (sym there) p

  some_there : IsSome (get room.jobs job.job)
  some_there = subst (λ (o : Option Job). IsSome o) (sym there) refl

  pub can_restand : is_unfinished standing.state ≡ true → CanRestand room job.job standing None
  can_restand stays = record {
    is_there = some_there;
    was_unfinished = in_some (λ (j : Job). is_unfinished j.standing.state ≡ true) (kept.no_return stays);
    in_range = is;
    stays_unfinished = stays;
    documents = in_some (λ (j : Job). standing.documents ≡ j.standing.documents) kept.documents;
  }

  pub can_finish : is_unfinished standing.state ≡ false → CanFinish room job.job standing
  can_finish ends = record { is_there = some_there; in_range = is; has_ended = ends }

-- a change of the job's standing is one of its room
module _ (name : List ℕ) (job : Job) (standing : Standing) (before_is : IsStanding job.standing) (is : IsStanding standing) (kept : Keeps job.standing standing) where
  pub restood_stands : is_unfinished standing.state ≡ true → (before after : Database) → RestandsJob name job.job standing None before after → StandsJob name job standing before after
  restood_stands stays before after made = record {
    room = λ there room holds. rw stays (made.room room holds (can_restand room job (job_in_room before name job there before_is room holds) standing is kept stays));
    alone = λ there. made.alone job there;
  }

  pub finished_stands : is_unfinished standing.state ≡ false → (before after : Database) → FinishesJob name job.job standing before after → StandsJob name job standing before after
  finished_stands ends before after made = record {
    room = λ there room holds. rw ends (made.room room holds (can_finish room job (job_in_room before name job there before_is room holds) standing is kept ends));
    alone = λ there. made.alone job there;
  }

-- what is decided of the job that was found is what is decided of the room
pub cancel_of_found : (room : RoomValue) (ask : PlainAsk) (now : ℕ) (job : Job) → get room.jobs ask.job ≡ Some job → (decided : Result Standing Refusal) → decided ≡ move (CancelJob now) job.standing → decided ≡ cancel_of room now ask
cancel_of_found room ask now job there decided is = is ∙ ap (λ (o : Option Job). and_then (job_or_refusal o) (λ (job : Job). move (CancelJob now) job.standing)) (sym there)

pub hold_of_found : (room : RoomValue) (ask : PlainAsk) (job : Job) → get room.jobs ask.job ≡ Some job → (decided : Result Standing Refusal) → decided ≡ move HoldJob job.standing → decided ≡ hold_of room ask
hold_of_found room ask job there decided is = is ∙ ap (λ (o : Option Job). and_then (job_or_refusal o) (λ (job : Job). move HoldJob job.standing)) (sym there)

pub release_of_found : (room : RoomValue) (ask : PlainAsk) (now : ℕ) (job : Job) → get room.jobs ask.job ≡ Some job → (password : Bool) → password ≡ has_password job → (asked decided : Result Standing Refusal)
    → ((left : ℤ) → move (ReleaseJob password left) job.standing ≡ kept_to_quota job.standing.state left asked) → decided ≡ kept_to_quota job.standing.state (left_in room now) asked → decided ≡ release_of room now ask
release_of_found room ask now job there password same asked decided moved is =
    is ∙ sym (moved (left_in room now)) ∙ ap (λ b. move (ReleaseJob b (left_in room now)) job.standing) same
    ∙ ap (λ (o : Option Job). and_then (job_or_refusal o) (λ (job : Job). move (ReleaseJob (has_password job) (left_in room now)) job.standing)) (sym there)

pub there_still : (name : List ℕ) (job : Job) (old new : Database) → new ≡ old → HasJobRow name job old → HasJobRow name job new
there_still name job old new same there = subst (HasJobRow name job) (sym same) there

-- where none was found the request is refused
module _ (room : RoomValue) (ask : PlainAsk) (refusal : Refusal) (is : refusal ≡ record { status = 0x0406; word = NoJob }) (none : get room.jobs ask.job ≡ None) where
  pub none_is_refused : (next : Job → Response) → refusing_ask_or room ask (job_in room ask.job) next ≡ refusing_ask room ask refusal
  none_is_refused next = ap (λ (o : Option Job). refusing_ask_or room ask (job_or_refusal o) next) none ∙ ap (refusing_ask room ask) (sym is)

  pub no_act_is_done : (act : Job → Act) → acted room ask (act_on room ask.job act) ≡ refusing_ask room ask refusal
  no_act_is_done act = ap (λ (o : Option Job). acted room ask (and_then (job_or_refusal o) (λ (job : Job). move (act job) job.standing))) none ∙ ap (refusing_ask room ask) (sym is)
