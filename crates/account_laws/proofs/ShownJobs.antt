-- A job is shown as it was told.
use Rattle.std.proofs.Common.{◌≡◌, ℕ, zero, suc, true≢false, ◌/◌, ◌*◌, ◌<◌, ◌==◌, Bool, true, false, cond, not, ◌&&◌, List, [], ◌∷◌, length, map, filter, fold, Option, Some, None, option_map, refl, sym, ap, ◌∙◌, arith}
use Rattle.std.specs.FinMap.{entries, get, values}
use Rattle.std.specs.List.{AllByRecursion, take-map}
use Rattle.std.proofs.Math.Nat.{div-one, mul-div_cancel, mul-zero, zero-div}
use Rattle.std.proofs.lemmas.Bool.Decides.{nat_tests}
use Rattle.account_asks.specs.Asks.{PlainAsk}
use Rattle.account_asks.specs.declared.ask.Which.{Which}
use Rattle.account_asks.specs.declared.ask.Which.TheVariants as whiches
use Rattle.account_laws.proofs.MappedValues.{filter_changed, same_in_order}
use Rattle.account_laws.specs.AccountsTold.{AccountTold}
use Rattle.account_laws.specs.JobsTold.{HasEnded, IsFree, JobTold, Prints, Stage, Waits, is_printing, is_stopping}
use Rattle.account_laws.specs.StagesTold.{count_told, ended_told, started_told, state_told}
use Rattle.account_laws.specs.StandsAsTold.{AreAsTold, IsAsTold, IsAt, StandsAsTold}
use Rattle.account_laws.specs.StationAnswers.{is_waiting}
use Rattle.account_machine.specs.Queues.{asked_jobs, chosen}
use Rattle.account_replies.specs.Attributes.{integer, keyword}
use Rattle.account_replies.specs.JobAttributes.{job_attributes, job_group, job_state_reason}
use Rattle.account_replies.specs.Places.{PlainPlace}
use Rattle.account_replies.specs.Responses.{job_groups}
use Rattle.account_replies.specs.Tables.{ShownRow, is_wanted, row_attribute, shown}
use Rattle.account_rules.specs.JobStates.{has_ended, is_processing, is_unfinished}
use Rattle.account_rules.specs.declared.job.Job.{Job}
use Rattle.account_rules.specs.declared.job.JobState.{JobState}
use Rattle.account_rules.specs.declared.job.JobState.TheVariants.{Held, Processing}
use Rattle.account_rules.specs.declared.job.Standing.{Standing}
use Rattle.account_state.specs.Queues.{first_jobs, is_later, put_by_end}
use Rattle.account_state.specs.Rooms.{RoomValue}
use Rattle.account_state.specs.Summaries.{is_held}

-- ---- what is shown of a job

-- the job, and of it nothing that no answer shows
abbrev pub as_shown : Job → Job
as_shown job = record {
  job = job.job;
  name = job.name;
  password = [];
  standing = record {
    state = job.standing.state;
    is_open = is_held job.standing.state && job.standing.is_open;
    stopping = is_processing job.standing.state && job.standing.stopping;
    copies = job.standing.copies;
    impressions = job.standing.impressions;
    reserved = 0;
    charged = job.standing.charged / job.standing.rate;
    documents = job.standing.documents;
    rate = 1;
    device = None;
    created = job.standing.created;
    started = job.standing.started;
    ended = job.standing.ended;
  };
}

same_reason : (state : JobState) (is_open stopping : Bool) → job_state_reason state is_open stopping ≡ job_state_reason state (is_held state && is_open) (is_processing state && stopping)
same_reason Held is_open stopping = refl
same_reason _ is_open stopping = refl

module _ (at : PlainPlace) (job other : Job) (wanted : Option (List (List ℕ))) where
  -- rows that show the same of both
  same_rows : (rows : List (ShownRow Job)) → AllByRecursion (λ (row : ShownRow Job). row.values at job ≡ row.values at other) rows → shown rows wanted at job ≡ shown rows wanted at other
  same_rows [] same = refl
  same_rows (row ∷ rows) same =
      let rest = same_rows rows same.1 in
      elim (is_wanted wanted row.name row.group) as (λ b.
      map (row_attribute at job) (cond b (row ∷ filter (λ (row : ShownRow Job). is_wanted wanted row.name row.group) rows) (filter (λ (row : ShownRow Job). is_wanted wanted row.name row.group) rows))
      ≡ map (row_attribute at other) (cond b (row ∷ filter (λ (row : ShownRow Job). is_wanted wanted row.name row.group) rows) (filter (λ (row : ShownRow Job). is_wanted wanted row.name row.group) rows)))
      [ true ↦ λ i. record { name = row.name; values = same.0 i } ∷ rest i | false ↦ rest ]

all_shown : (at : PlainPlace) (job : Job) → AllByRecursion (λ (row : ShownRow Job). row.values at job ≡ row.values at (as_shown job)) job_attributes
unfolding job_attributes
all_shown at job = (refl, (refl, (refl, (refl, (refl, (refl, (ap keyword (same_reason job.standing.state job.standing.is_open job.standing.stopping), (refl, (refl, (ap integer (sym (div-one (job.standing.charged / job.standing.rate))), (refl, (refl, (refl, (refl, (refl, (refl, (refl, (refl, tt))))))))))))))))))

pub group_shown : (at : PlainPlace) (job : Job) (wanted : Option (List (List ℕ))) → job_group at job wanted ≡ job_group at (as_shown job) wanted
group_shown at job wanted = ap (λ attributes. record { tag = 0x02; attributes = attributes }) (same_rows at job (as_shown job) wanted job_attributes (all_shown at job))

-- ---- it is as told

-- The job under its number: its name, state, count of documents, impressions, copies and moments
-- are as told. It is open while it waits for more documents, and stops while a device still prints
-- it. The impressions that were counted stand as charged at rate 1. What no answer shows is empty.
abbrev pub job_shown : (number : ℕ) → JobTold → Job
job_shown number job = record {
  job = number;
  name = job.maker.name;
  password = [];
  standing = record {
    state = state_told job.stage;
    is_open = is_waiting job.stage && job.is_open;
    stopping = is_stopping job.stage;
    copies = job.maker.copies;
    impressions = job.impressions;
    reserved = 0;
    charged = count_told job.stage;
    documents = length job.documents;
    rate = 1;
    device = None;
    created = job.made;
    started = started_told job.stage;
    ended = ended_told job.stage;
  };
}

-- all jobs of an account, by rising number
abbrev pub jobs_told : AccountTold → List Job
jobs_told told = map (λ (job : ℕ × JobTold). job_shown job.0 job.1) (entries told.jobs)

pub state_is : (stage : Stage) (s : Standing) → IsAt stage s → s.state ≡ state_told stage
state_is (HasEnded how count units since ended) s at = at.state
state_is _ s at = at.state

not_held : (how : JobState) → has_ended how ≡ true → is_held how ≡ false
not_held Held over = sym over
not_held _ over = refl

not_processing : (how : JobState) → has_ended how ≡ true → is_processing how ≡ false
not_processing Processing over = sym over
not_processing _ over = refl

pub processing_is : (stage : Stage) (s : Standing) → IsAt stage s → is_processing s.state ≡ is_printing stage
processing_is (HasEnded how count units since ended) s at = ap is_processing at.state ∙ not_processing how at.is_end
processing_is _ s at = ap is_processing at.state

open_is : (stage : Stage) (s : Standing) (is_open : Bool) → IsAt stage s → (is_unfinished s.state ≡ true → s.is_open ≡ is_open) → (is_held s.state && s.is_open) ≡ (is_waiting stage && is_open)
open_is Waits s is_open at opens = ap (λ (state : JobState). is_held state && s.is_open) at.state ∙ opens (ap is_unfinished at.state)
open_is (IsFree device rate units) s is_open at opens = ap (λ (state : JobState). is_held state && s.is_open) at.state
open_is (Prints device rate units since is_canceled) s is_open at opens = ap (λ (state : JobState). is_held state && s.is_open) at.state
open_is (HasEnded how count units since ended) s is_open at opens = ap (λ (b : Bool). b && s.is_open) (ap is_held at.state ∙ not_held how at.is_end)

stopping_is : (stage : Stage) (s : Standing) → IsAt stage s → (is_processing s.state && s.stopping) ≡ is_stopping stage
stopping_is Waits s at = ap (λ (state : JobState). is_processing state && s.stopping) at.state
stopping_is (IsFree device rate units) s at = ap (λ (state : JobState). is_processing state && s.stopping) at.state
stopping_is (Prints device rate units since is_canceled) s at = ap (λ (state : JobState). is_processing state && s.stopping) at.state ∙ at.stopping
stopping_is (HasEnded how count units since ended) s at = ap (λ (b : Bool). b && s.stopping) (ap is_processing at.state ∙ not_processing how at.is_end)

none_counted : (rate : ℕ) → 0 / rate ≡ 0
none_counted rate = zero-div rate

rated : (rate count units : ℕ) → units ≡ count * rate → (units == 0) ≡ false → 0 < rate
rated zero count units is some = let none : units ≡ 0 = is ∙ mul-zero count in absurd (true≢false (sym (let tests : (units == 0) ≡ true = grind (arith, nat_tests) in tests) ∙ some))
rated (suc rate) count units is some = omega arith

counted : (charged rate count units : ℕ) → charged ≡ units → charged ≡ count * rate → charged / rate ≡ cond (units == 0) 0 count
counted charged rate count units is counts = by (units == 0) refl
  where
    by : (b : Bool) → (units == 0) ≡ b → charged / rate ≡ cond b 0 count
    by true none = let zero : units ≡ 0 = grind (arith, nat_tests) in ap (λ (n : ℕ). n / rate) (is ∙ zero) ∙ none_counted rate
    by false some = ap (λ (n : ℕ). n / rate) counts ∙ mul-div_cancel count (rated rate count units (sym is ∙ counts) some)

pub count_is : (stage : Stage) (s : Standing) → IsAt stage s → s.charged / s.rate ≡ count_told stage
count_is (HasEnded how count units since ended) s at = counted s.charged s.rate count units at.charged at.counted
count_is _ s at = ap (λ (n : ℕ). n / s.rate) at.charged ∙ none_counted s.rate

pub started_is : (stage : Stage) (s : Standing) → IsAt stage s → s.started ≡ started_told stage
started_is (HasEnded how count units since ended) s at = at.started
started_is _ s at = at.started

pub ended_is : (stage : Stage) (s : Standing) → IsAt stage s → s.ended ≡ ended_told stage
ended_is (HasEnded how count units since ended) s at = at.ended
ended_is _ s at = at.ended

pub shown_as_told : (number : ℕ) (ticket : JobTold) (room : RoomValue) (job : Job) → IsAsTold number ticket room job → as_shown job ≡ job_shown number ticket
shown_as_told number ticket room job is =
    let state = state_is ticket.stage job.standing is.stage in
    let opens = open_is ticket.stage job.standing ticket.is_open is.stage is.is_open in
    let stops = stopping_is ticket.stage job.standing is.stage in
    let counts = count_is ticket.stage job.standing is.stage in
    let started = started_is ticket.stage job.standing is.stage in
    let ended = ended_is ticket.stage job.standing is.stage in
    λ i. record {
      job = is.numbered i;
      name = is.name i;
      password = [];
      standing = record {
        state = state i;
        is_open = opens i;
        stopping = stops i;
        copies = is.copies i;
        impressions = is.impressions i;
        reserved = 0;
        charged = counts i;
        documents = is.count i;
        rate = 1;
        device = None;
        created = is.created i;
        started = started i;
        ended = ended i;
      };
    }

pub group_as_told : (at : PlainPlace) (number : ℕ) (ticket : JobTold) (room : RoomValue) (job : Job) (wanted : Option (List (List ℕ))) → IsAsTold number ticket room job → job_group at job wanted ≡ job_group at (job_shown number ticket) wanted
group_as_told at number ticket room job wanted is = group_shown at job wanted ∙ ap (λ (j : Job). job_group at j wanted) (shown_as_told number ticket room job is)

-- ---- all jobs, and those that are listed

all_as_told : (told : AccountTold) (room : RoomValue) → StandsAsTold told room → map as_shown (values room.jobs) ≡ jobs_told told
all_as_told told room stands = same_in_order as_shown job_shown room.jobs told.jobs (λ number. by number (get told.jobs number) (get room.jobs number) (stands.jobs number))
  where
    by : (number : ℕ) (ticket : Option JobTold) (job : Option Job) → AreAsTold number ticket room job → option_map as_shown job ≡ option_map (job_shown number) ticket
    by number None job are = ap (option_map as_shown) are
    by number (Some ticket) None are = absurd are
    by number (Some ticket) (Some job) are = ap Some (shown_as_told number ticket room job are)

-- of whatever shows a job, the latest ended comes first where the latest ended job does
module _ {X : Type 0} (shown : X → Job) (put : List X → X → List X) (put_first : (x : X) → put [] x ≡ x ∷ []) (put_more : (y : X) (ys : List X) (x : X) → put (y ∷ ys) x ≡ cond (is_later (shown x) (shown y)) (x ∷ y ∷ ys) (y ∷ put ys x)) where
  put_shown : (ys : List X) (x : X) → put_by_end (map shown ys) (shown x) ≡ map shown (put ys x)
  put_shown [] x = ap (map shown) (sym (put_first x))
  put_shown (y ∷ ys) x =
      elim (is_later (shown x) (shown y)) as (λ b. cond b (shown x ∷ shown y ∷ map shown ys) (shown y ∷ put_by_end (map shown ys) (shown x)) ≡ map shown (cond b (x ∷ y ∷ ys) (y ∷ put ys x)))
      [ true ↦ refl | false ↦ ap (λ rest. shown y ∷ rest) (put_shown ys x) ]
      ∙ ap (map shown) (sym (put_more y ys x))

  pub fold_shown : (ys xs : List X) → fold put_by_end (map shown ys) (map shown xs) ≡ map shown (fold put ys xs)
  fold_shown ys [] = refl
  fold_shown ys (x ∷ xs) = ap (λ before. fold put_by_end before (map shown xs)) (put_shown ys x) ∙ fold_shown (put ys x) xs

chosen_shown : (which : Which) (jobs : List Job) → chosen which (map as_shown jobs) ≡ map as_shown (chosen which jobs)
chosen_shown whiches.NotCompleted jobs = filter_changed as_shown (λ (job : Job). is_unfinished job.standing.state) jobs
chosen_shown whiches.Completed jobs =
    ap (fold put_by_end []) (filter_changed as_shown (λ (job : Job). not (is_unfinished job.standing.state)) jobs) ∙ fold_shown as_shown put_by_end (λ _. refl) (λ _ _ _. refl) [] (filter (λ (job : Job). not (is_unfinished job.standing.state)) jobs)

first_jobs_shown : (most : Option ℕ) (jobs : List Job) → first_jobs most (map as_shown jobs) ≡ map as_shown (first_jobs most jobs)
first_jobs_shown None jobs = refl
first_jobs_shown (Some limit) jobs = take-map as_shown limit jobs

groups_shown : (at : PlainPlace) (jobs : List Job) (wanted : Option (List (List ℕ))) → job_groups at jobs wanted ≡ job_groups at (map as_shown jobs) wanted
groups_shown at [] wanted = refl
groups_shown at (job ∷ jobs) wanted = λ i. group_shown at job wanted i ∷ groups_shown at jobs wanted i

pub queue_shown : (at : PlainPlace) (ask : PlainAsk) (jobs : List Job) (wanted : Option (List (List ℕ))) → job_groups at (asked_jobs ask jobs) wanted ≡ job_groups at (asked_jobs ask (map as_shown jobs)) wanted
queue_shown at ask jobs wanted =
    groups_shown at (asked_jobs ask jobs) wanted
    ∙ ap (λ (jobs : List Job). job_groups at jobs wanted) (sym (ap (first_jobs ask.limit) (chosen_shown ask.which jobs) ∙ first_jobs_shown ask.limit (chosen ask.which jobs)))

pub listed_as_told : (at : PlainPlace) (ask : PlainAsk) (told : AccountTold) (room : RoomValue) (wanted : Option (List (List ℕ))) → StandsAsTold told room
    → job_groups at (asked_jobs ask (values room.jobs)) wanted ≡ job_groups at (asked_jobs ask (jobs_told told)) wanted
listed_as_told at ask told room wanted stands = queue_shown at ask (values room.jobs) wanted ∙ ap (λ (jobs : List Job). job_groups at (asked_jobs ask jobs) wanted) (all_as_told told room stands)
