-- A job that an account takes is one that its room takes.
use Rattle.std.proofs.Common.{◌≡◌, ℕ, ◌<◌, ◌≤◌, pos, Bool, true, false, if◌then◌else◌, is_some, List, [], ◌∷◌, length, Option, Some, None, Result, Ok, option_map, refl, sym, ap, subst, ◌∙◌, arith, Err}
use Rattle.std.specs.FinMap.{get}
use Rattle.std.proofs.lemmas.Bool.Decides.{nat_tests}
use Rattle.sqlite.specs.Effect.{Database}
use Rattle.account_replies.specs.Queues.{accepting_refusal, is_accepting}
use Rattle.account_rules.specs.declared.refusal.Word.TheVariants.{NotAccepting}
use Rattle.account_asks.specs.Asks.{IsAsk, PlainAsk}
use Rattle.account_asks.specs.Operations.{hands_in_document, is_print_job}
use Rattle.account_asks.specs.declared.operation.Operation.{Operation}
use Rattle.account_asks.specs.declared.operation.Operation.TheVariants.{PrintJob, ValidateJob, CreateJob, SendDocument, CancelJob, GetJobAttributes, GetJobs, GetPrinterAttributes, HoldJob, ReleaseJob}
use Rattle.rows_statements.specs.Rows.{IsFree}
use Rattle.account_machine.specs.NewJobs.{made, made_names, new_document, new_job}
use Rattle.account_machine.specs.Requests.{Response, asked_at, done_with, refusing_ask_or}
use Rattle.account_rules.specs.declared.account.Account.{Account}
use Rattle.account_rules.specs.declared.format.Format.{Format}
use Rattle.account_rules.specs.declared.job.Document.{Document}
use Rattle.account_rules.specs.declared.job.Job.{Job}
use Rattle.account_rules.specs.declared.refusal.Refusal.{Refusal}
use Rattle.account_rules.specs.Limits.{last_moment, last_next_job, longest_document, most_documents, most_unfinished}
use Rattle.account_rules.specs.NewJobs.{fresh}
use Rattle.account_rules.specs.Standings.{IsStanding}
use Rattle.account_state.specs.Changes.{with_new_job}
use Rattle.account_state.specs.Conditions.{CanAddJob, GoesOn}
use Rattle.account_state.specs.RoomRules.{has_document, unfinished_count}
use Rattle.account_state.specs.Rooms.{RoomValue}
use Rattle.rows_tables.specs.Accounts.{account_of_room, document_at, job_at, HoldsRoom}
use Rattle.rows_tables.specs.Cells.{document_cells, job_cells}
use Rattle.rows_tables.proofs.KeyedRows.{same_row}
use Rattle.rows_tables.proofs.ReadBackLemmas.{rows_are_read_back}
use Rattle.account_replies.specs.JobAttributes.{job_group}
use Rattle.account_replies.specs.Places.{PlainPlace}
use Rattle.store_events.specs.Answers.{of_response, request_done}
use Rattle.store_rounds.specs.ProofKnown.{HasAccountRow}

-- the account's own row is that of its room
pub account_in_room : (db : Database) (name : List ℕ) (account : Account) → HasAccountRow name account db → (room : RoomValue) → HoldsRoom db name room → account ≡ account_of_room room
account_in_room db name account opened room holds = (rows_are_read_back.accounts name name account (account_of_room room) (same_row (sym opened ∙ holds.rows.account_row))).1

pub takes_one : (unfinished next : ℕ) → accepting_refusal unfinished next ≡ Ok tt → is_accepting unfinished next ≡ true
takes_one unfinished next = by_test (is_accepting unfinished next)
  where
    by_test : (b : Bool) → ◌≡◌ {A = Result (Unit {0}) Refusal} (if b then Ok tt else Err (record { status = 0x0506; word = NotAccepting })) (Ok tt) → b ≡ true
    by_test true is = refl
    by_test false is = let no : ⊥ = cc in absurd no

accepted : (unfinished next : ℕ) → accepting_refusal unfinished next ≡ Ok tt → (unfinished < most_unfinished) × (next < last_next_job)
accepted unfinished next takes = grind (arith, nat_tests)

-- the document of a Print-Job is the first of its job
goes_on : (operation : Operation) (number : ℕ) (format : Format) (bytes : List ℕ) → (operation ≡ PrintJob → length bytes ≤ longest_document)
    → GoesOn number 0 (if is_print_job operation then 1 else 0) (if is_print_job operation then Some (record { job = number; number = 1; format = format; bytes = bytes }) else None)
goes_on PrintJob number format bytes fits = (refl, record { of_job = refl; numbered = refl; fits = fits refl })
goes_on ValidateJob number format bytes fits = refl
goes_on CreateJob number format bytes fits = refl
goes_on SendDocument number format bytes fits = refl
goes_on CancelJob number format bytes fits = refl
goes_on GetJobAttributes number format bytes fits = refl
goes_on GetJobs number format bytes fits = refl
goes_on GetPrinterAttributes number format bytes fits = refl
goes_on HoldJob number format bytes fits = refl
goes_on ReleaseJob number format bytes fits = refl

-- a new job stands as one may
stands : (ask : PlainAsk) (now : ℕ) → IsAsk ask → now ≤ last_moment → (prints : Bool) → IsStanding (fresh prints ask.copies ask.impressions now)
stands ask now is_ask moment prints = record {
  ranges = record {
    copies_from_one = is_ask.copies_from_one;
    copies_at_most = is_ask.copies_at_most;
    impressions_at_most = is_ask.impressions_at_most;
    documents_at_most = elim prints as (λ b. (if b then 1 else 0) ≤ most_documents) [ true ↦ omega arith | false ↦ omega arith ];
    rate_from_one = omega arith;
    rate_at_most = omega arith;
    created_in_range = moment;
    started_in_range = tt;
    ended_in_range = tt;
  };
  by_state = record { unfinished = record { charges_nothing = refl; has_not_ended = refl }; rate_one = refl; reserves_nothing = refl };
  named_device = tt;
}

module _ (room : RoomValue) (account : Account) (same : account ≡ account_of_room room) (unfinished : ℕ) (counted : unfinished ≡ unfinished_count room) (takes : accepting_refusal unfinished account.next_job ≡ Ok tt) (ask : PlainAsk) (now : ℕ) where
  -- what the account takes its room takes
  can_make : IsAsk ask → IsStanding (new_job account.next_job ask now).standing → CanAddJob room (new_job account.next_job ask now) (new_document account.next_job ask)
  can_make is_ask in_range =
      let next : account.next_job ≡ room.next = ap (λ (a : Account). a.next_job) same in
      record {
        a_number_is_left = subst (λ n. n < last_next_job) next (accepted unfinished account.next_job takes).1;
        few_are_unfinished = subst (λ n. n < most_unfinished) counted (accepted unfinished account.next_job takes).0;
        numbered = next;
        name_fits = is_ask.name_fits;
        password_fits = is_ask.password_fits;
        in_range = in_range;
        stays_unfinished = refl;
        documents = subst (λ n. GoesOn n 0 (new_job account.next_job ask now).standing.documents (new_document account.next_job ask)) next (goes_on ask.operation account.next_job ask.format ask.payload (λ is. is_ask.document_fits (ap hands_in_document is)));
      }

  -- and that is what the request makes
  abbrev made_as : List ℕ → ℕ → ℕ → Response
  made_as name number opened = done_with (with_new_job room (new_job number ask now) (new_document number ask)) ask number (job_group (asked_at opened name now ask) (new_job number ask now) made_names ∷ [])

  made_so : (name : List ℕ) → made room name now ask ≡ made_as name account.next_job account.opened
  made_so name =
      ap (λ (r : Result (Unit {0}) Refusal). refusing_ask_or room ask r (λ _. made_as name room.next room.opened)) (ap (λ (n : ℕ). accepting_refusal n room.next) (sym counted) ∙ ap (λ (a : Account). accepting_refusal unfinished a.next_job) (sym same) ∙ takes)
      ∙ ap (λ (a : Account). made_as name a.next_job a.opened) (sym same)

  module _ (job : Job) (first : Option Document) (is_job : job ≡ new_job account.next_job ask now) (is_first : first ≡ new_document account.next_job ask) where
    -- the room is that with the job
    pub grown : IsAsk ask → now ≤ last_moment → (after : Database) (name : List ℕ) → (CanAddJob room job first → HoldsRoom after name (with_new_job room job first)) → HoldsRoom after name (made room name now ask).room
    grown is_ask moment after name holds =
        let can = subst (λ (d : Option Document). CanAddJob room job d) (sym is_first) (subst (λ (j : Job). CanAddJob room j (new_document account.next_job ask)) (sym is_job) (can_make is_ask (stands ask now is_ask moment (is_print_job ask.operation)))) in
        subst (HoldsRoom after name)
        (ap (λ (j : Job). with_new_job room j first) is_job ∙ ap (λ (d : Option Document). with_new_job room (new_job account.next_job ask now) d) is_first ∙ ap (λ (r : Response). r.room) (sym (made_so name)))
        (holds can)

    pub told : (name : List ℕ) (at : PlainPlace) → at ≡ asked_at account.opened name now ask → (names : Option (List (List ℕ))) → names ≡ made_names
        → request_done ask job.job (job_group at job names ∷ []) ≡ of_response (made room name now ask)
    told name at place names same =
        ap (λ (p : PlainPlace). request_done ask job.job (job_group p job names ∷ [])) place
        ∙ ap (λ (j : Job). request_done ask j.job (job_group (asked_at account.opened name now ask) j names ∷ [])) is_job
        ∙ ap (λ (n : Option (List (List ℕ))). request_done ask account.next_job (job_group (asked_at account.opened name now ask) (new_job account.next_job ask now) n ∷ [])) same
        ∙ ap of_response (sym (made_so name))

-- ---- the next number is free

no_next : (room : RoomValue) → ((job : Job) → get room.jobs room.next ≡ Some job → ⊥) → (o : Option Job) → get room.jobs room.next ≡ o → o ≡ None
no_next room taken None is = refl
no_next room taken (Some job) is = absurd (taken job is)

none_next : (room : RoomValue) (db : Database) (name : List ℕ) → HoldsRoom db name room → get room.jobs room.next ≡ None
none_next room db name holds = no_next room (λ job is. let at = holds.is_room.jobs room.next job is in omega (arith, at.below_next)) (get room.jobs room.next) refl

pub none_of : (o : Option Document) → is_some o ≡ false → o ≡ None
none_of None is = refl
none_of (Some document) is = let no : ⊥ = cc in absurd no

none_first : (room : RoomValue) (db : Database) (name : List ℕ) → HoldsRoom db name room → get room.documents (room.next, 1) ≡ None
none_first room db name holds = none_of (get room.documents (room.next, 1)) (holds.is_room.all_documents room.next 1 ∙ ap (λ (o : Option Job). has_document o 1) (none_next room db name holds))

module _ (db : Database) (name : List ℕ) (account : Account) (room : RoomValue) (same : account ≡ account_of_room room) (holds : HoldsRoom db name room) where
  next_at : (P : ℕ → Type 0) → P room.next → P account.next_job
  next_at P p = subst P (sym (ap (λ (a : Account). a.next_job) same)) p

  next_is_free : job_at db name (pos account.next_job) ≡ None
  next_is_free = next_at (λ n. job_at db name (pos n) ≡ None) (holds.rows.job_rows (pos room.next) ∙ ap (option_map (job_cells name)) (none_next room db name holds))

  no_first : document_at db name (pos account.next_job) (pos 1) ≡ None
  no_first = next_at (λ n. document_at db name (pos n) (pos 1) ≡ None) (holds.rows.document_rows (pos room.next) (pos 1) ∙ ap (option_map (document_cells name)) (none_first room db name holds))

  free_by : (operation : Operation) (format : Format) (bytes : List ℕ) → IsFree name (if is_print_job operation then Some (record { job = account.next_job; number = 1; format = format; bytes = bytes }) else None) db
  free_by PrintJob format bytes = no_first
  free_by ValidateJob format bytes = tt
  free_by CreateJob format bytes = tt
  free_by SendDocument format bytes = tt
  free_by CancelJob format bytes = tt
  free_by GetJobAttributes format bytes = tt
  free_by GetJobs format bytes = tt
  free_by GetPrinterAttributes format bytes = tt
  free_by HoldJob format bytes = tt
  free_by ReleaseJob format bytes = tt

  no_document_there : (ask : PlainAsk) → IsFree name (new_document account.next_job ask) db
  no_document_there ask = free_by ask.operation ask.format ask.payload

  pub is_free : (ask : PlainAsk) → (job_at db name (pos account.next_job) ≡ None) × IsFree name (new_document account.next_job ask) db
  is_free ask = (next_is_free, no_document_there ask)
