use Rattle.std.proofs.Common.{◌≡◌, ℕ, Bool, true, false, not, if◌then◌else◌, List, Option, Some, None, Result, Ok, Err, IfOk, IfSome, OnOk, subst, sym, arith}
use Rattle.sqlite.specs.Effect.{Database}
use Rattle.sqlite.specs.Held.{state}
use Rattle.sqlite.specs.State.{HasCleanDisk}
use Rattle.account_questions.specs.Stations.{printed_by}
use Rattle.account_rules.specs.Effects.{is_bound_elsewhere}
use Rattle.account_rules.specs.JobStates.{is_processing}
use Rattle.account_rules.specs.declared.job.Job.{Job}
use Rattle.account_rules.specs.declared.refusal.Word.{Word}
use Rattle.account_rules.specs.declared.refusal.Word.TheVariants.{NotProcessing, OtherDevice, Stopping}
use Rattle.rows_statements.specs.Queues.{IsNumbered}
use Rattle.store_events.proofs.Found.{act_of}
use Rattle.store_rounds.proofs.LookLemmas.{look_passed, looks_after}
use Rattle.room_store.proofs.station_questions.hand_printed.Goals as goal
use Rattle.store_rounds.specs.ProofKnown.{HasJobRow}
use Rattle.room_store.specs.Questions.{PrintedIsReadable}
use Rattle.store_events.specs.Reading.{DocumentsAreReadable}
use Rattle.rows_tables.specs.Keyed.{HasSchema}

-- the job that is printed is the one that was found
same_job : (device : List ℕ) (job : Job) (P : Job → Type 0) → OnOk (printed_by device (Some job)) (P job) → IfOk (printed_by device (Some job)) P
same_job device job P =
    elim (is_processing job.standing.state) as (λ b. OnOk (decided b (is_bound_elsewhere job.standing.device device) job.standing.stopping) (P job) → IfOk (decided b (is_bound_elsewhere job.standing.device device) job.standing.stopping) P) [
      | true ↦ elim (is_bound_elsewhere job.standing.device device) as (λ b. OnOk (decided true b job.standing.stopping) (P job) → IfOk (decided true b job.standing.stopping) P) [
        | true ↦ λ _. tt
        | false ↦ elim job.standing.stopping as (λ b. OnOk (decided true false b) (P job) → IfOk (decided true false b) P) [ true ↦ λ _. tt | false ↦ λ it. it ]
      ]
      | false ↦ λ _. tt
    ]
  where
    decided : (prints elsewhere stops : Bool) → Result Job Word
    decided prints elsewhere stops = if not prints then Err NotProcessing else if elsewhere then Err OtherDevice else if stops then Err Stopping else Ok job

documents_of : (name device : List ℕ) (number : ℕ) (db : Database) → PrintedIsReadable name device number db → (found : Option Job) → IfSome found (λ job. (job.job ≡ number) × IsNumbered job) → IfSome found (λ job. HasJobRow name job db)
    → IfOk (printed_by device found) (λ job. DocumentsAreReadable name job.job db)
documents_of name device number db readable None in_range there = tt
documents_of name device number db readable (Some job) in_range there =
    same_job device job (λ it. DocumentsAreReadable name it.job db)
    (subst (λ (n : ℕ). OnOk (printed_by device (Some job)) (DocumentsAreReadable name n db)) (sym in_range.0)
    (act_of name number _ db readable job in_range.0 in_range.1 there))

pub returns-clause-damaged : goal.returns-clause-damaged
returns-clause-damaged g c clean has damaged readable =
    let old = c.args.connection.now in
    let mid = c.look_up.new.connection in
    let looked = c.in_ok-found.ensures in
    let mid_clean : HasCleanDisk (state g.S.Store mid) = omega (arith, c.hand_again.ensures.looks.connection.keeps.clean, clean) in
    let same = ((look_passed g.S.Store old mid _ looked.looks).same mid_clean has).now in
    let documents = documents_of c.args.account c.args.device c.args.number (state g.S.Store old).now readable c.in_ok-found.found looked.in_range (looked.is_there mid_clean has) in
    c.hand_again.ensures.damaged clean (subst HasSchema (sym same) has) damaged
    (subst (λ (r : Result Job Word). IfOk r (λ job. DocumentsAreReadable c.args.account job.job (state g.S.Store mid).now)) (sym c.printed_by.ensures)
    (subst (λ (db : Database). IfOk (printed_by c.args.device c.in_ok-found.found) (λ job. DocumentsAreReadable c.args.account job.job db)) (sym same) documents))

pub returns-clause-looks : goal.returns-clause-looks
returns-clause-looks g c = looks_after g.S.Store c.args.connection.now c.look_up.new.connection c.hand_again.new.connection c.hand_again.result (look_passed g.S.Store _ _ _ c.in_ok-found.ensures.looks) c.hand_again.ensures.looks
