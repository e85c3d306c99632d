use Rattle.std.proofs.Common.{◌≡◌, ◌≤◌, ℕ, pos, true, List, Option, None, Err, sym, ap, subst, ◌∙◌, arith}
use Rattle.std.proofs.lemmas.Result.{err_from_is_err_and}
use Rattle.sqlite.specs.Effect.{Database}
use Rattle.sqlite.specs.State.{HasCleanDisk}
use Rattle.sqlite.specs.Held.{state}
use Rattle.account_asks.specs.Asks.{PlainAsk, plain_ask}
use Rattle.rows_statements.specs.NewDocuments.{first_of}
use Rattle.account_machine.specs.NewJobs.{made, new_document}
use Rattle.account_rules.specs.declared.job.Document.{Document}
use Rattle.account_rules.specs.Limits.{last_moment}
use Rattle.account_rules.specs.declared.job.Job.{Job}
use Rattle.rows_statements.specs.Rows.{IsFree}
use Rattle.rows_statements.specs.Changed.{MakesJob}
use Rattle.rows_statements.proofs.Retelling.{leaves_as}
use Rattle.rows_tables.specs.Accounts.{job_at, HoldsRoom}
use Rattle.rows_tables.specs.Keyed.{HasSchema}
use Rattle.account_replies.specs.Places.{plain_place}
use Rattle.account_replies.specs.Queues.{is_accepting}
use Rattle.rows_statements.specs.Alone.{OnlyAccount}
use Rattle.store_rounds.specs.ProofKnown.{HasAccountRow}
use Rattle.store_rounds.specs.Looks.{StaysOpen}
use Rattle.store_events.specs.Serving.{ChangesRows, RowsHold}
use Rattle.store_events.proofs.Made.{account_in_room, grown, takes_one, told}
use Rattle.store_events.proofs.ServingLemmas.{changed_after, handed, not_changed_after, read_failed_as}
use Rattle.store_rounds.proofs.LookLemmas.{read_passed, goes_after}
use Rattle.store_events.proofs.making.make.Goals as goal

-- what it makes of the tables, as an event has it
abbrev DoesMake : List ℕ → ℕ → PlainAsk → Database → Database → Type 0
DoesMake name now ask = ChangesRows (RowsHold name) (OnlyAccount name) (λ of db. HoldsRoom db name (made of.0 name now ask).room)

pub returns-in_err-unfinished-clause-served : goal.returns-in_err-unfinished-clause-served
returns-in_err-unfinished-clause-served g c is_open =
    let told = err_from_is_err_and c.from_residual.result c.from_residual.ensures.1 in
    read_failed_as _ _ _ _ _ g.S.Store _ _ c.from_residual.result told.0 _ told.1 told.2 c.in_err-unfinished.ensures.reads
    (λ clean has is readable. let more = c.in_err-unfinished.ensures.damaged clean has (ap (λ e. Err e) is) in let few = readable.0 in omega (arith, more, few))

pub returns-in_err-make_job-clause-served : goal.returns-in_err-make_job-clause-served
returns-in_err-make_job-clause-served g c opened =
    let ask = plain_ask c.args.request.now.ask in
    let old = c.args.connection.now in
    let mid = c.count_unfinished.new.connection in
    let new = c.make_job.new.connection in
    let job = c.in_ok-job.job in
    let is_job = c.in_ok-job.ensures.job in
    let moment = subst (λ (j : Job). j.standing.created ≤ last_moment) is_job c.in_ok-job.ensures.limits.created in
    let is_first = c.first_document.ensures job.job ∙ ap (λ (j : Job). new_document j.job ask) is_job in
    let passed = read_passed g.S.Store old mid _ c.in_ok-unfinished.ensures.reads in
    let fault = err_from_is_err_and c.from_residual-in_err-make_job.result c.from_residual-in_err-make_job.ensures.1 in
    let made = c.in_err-make_job.ensures in
    let takes = sym c.check_accepting.ensures ∙ c.in_default.is in
    handed _ _ _ _ _ g.S.Store old new c.from_residual-in_err-make_job.result fault.0 _ fault.1 fault.2
    (not_changed_after _ _ _ _ _ g.S.Store old mid passed new c.in_err-make_job.field-0.0 made.makes.whole.keeps made.makes.whole.undone
    (λ was clean has same is readable.
    let count = c.in_ok-unfinished.ensures.rows was has in
    let free = readable.1 c.args.request.now.row (opened clean has) (subst (λ (n : ℕ). is_accepting n c.args.request.now.row.next_job ≡ true) count (takes_one c.in_ok-unfinished.unfinished c.args.request.now.row.next_job takes)) in
    made.damaged clean (subst HasSchema (sym same) has) (ap (λ e. Err e) is)
    (subst (λ (db : Database). job_at db c.args.request.now.account (pos job.job) ≡ None) (sym same) (subst (λ (j : Job). job_at (state g.S.Store old).now c.args.request.now.account (pos j.job) ≡ None) (sym is_job) free.0))
    (subst (λ (db : Database). IsFree c.args.request.now.account (first_of job.job c.first_document.result) db) (sym same) (subst (λ (d : Option Document). IsFree c.args.request.now.account d (state g.S.Store old).now) (sym is_first) free.1)))
    (λ has. leaves_as g.S.Store mid new (MakesJob c.args.request.now.account job (first_of job.job c.first_document.result)) (DoesMake c.args.request.now.account c.args.request.now.now ask)
    (λ clean has_mid after it.
    let was : HasCleanDisk (state g.S.Store mid) = omega (arith, made.makes.whole.keeps.clean, clean) in
    let same = (passed.same was has).now in
    let there = subst (HasAccountRow c.args.request.now.account c.args.request.now.row) (sym same) (opened clean has) in (
      it.alone c.args.request.now.row there,
      λ of held.
          let own = account_in_room _ c.args.request.now.account c.args.request.now.row there of.0 held.room in
          let counted = c.in_ok-unfinished.ensures.counted was has of.0 (subst (λ db. HoldsRoom db c.args.request.now.account of.0) same held.room) in
          grown of.0 c.args.request.now.row own c.in_ok-unfinished.unfinished counted takes ask c.args.request.now.now job (first_of job.job c.first_document.result) is_job is_first c.args.request.now.ask_in_range moment after c.args.request.now.account (it.room of.0 held.room),
    ))
    made.makes.crash))

pub returns-clause-served : goal.returns-clause-served
returns-clause-served g c opened =
    let ask = plain_ask c.args.request.now.ask in
    let old = c.args.connection.now in
    let mid = c.count_unfinished.new.connection in
    let new = c.make_job.new.connection in
    let name = c.args.request.now.account in
    let account = c.args.request.now.row in
    let job = c.in_ok-job.job in
    let first = first_of job.job c.first_document.result in
    let is_job = c.in_ok-job.ensures.job in
    let moment = subst (λ (j : Job). j.standing.created ≤ last_moment) is_job c.in_ok-job.ensures.limits.created in
    let is_first = c.first_document.ensures job.job ∙ ap (λ (j : Job). new_document j.job ask) is_job in
    let passed = read_passed g.S.Store old mid _ c.in_ok-unfinished.ensures.reads in
    let made = c.in_ok-make_job.ensures in
    let takes = sym c.check_accepting.ensures ∙ c.in_default.is in
    changed_after _ _ _ _ _ g.S.Store old mid passed new c.in_ok-answered.answered made.makes.whole
    (λ was clean has same.
    let has_mid = subst HasSchema (sym same) has in
    let after = made.makes.made clean has_mid in (
      after.0,
      after.1.alone account (subst (HasAccountRow name account) (sym same) (opened clean has)),
      λ of held.
          let own = account_in_room _ name account (opened clean has) of.0 held.room in
          let counted = c.in_ok-unfinished.ensures.counted was has of.0 held.room in (
            c.in_ok-answered.ensures.answered ∙ told of.0 account own c.in_ok-unfinished.unfinished counted takes ask c.args.request.now.now job first is_job is_first name (plain_place c.place.result) c.place.ensures.place _ c.made_names.ensures,
            grown of.0 account own c.in_ok-unfinished.unfinished counted takes ask c.args.request.now.now job first is_job is_first c.args.request.now.ask_in_range moment (state g.S.Store new).now name (after.1.room of.0 (subst (λ db. HoldsRoom db name of.0) (sym same) held.room)),
          ),
    ))
    (λ has. leaves_as g.S.Store mid new (MakesJob c.args.request.now.account job (first_of job.job c.first_document.result)) (DoesMake c.args.request.now.account c.args.request.now.now ask)
    (λ clean has_mid after it.
    let was : HasCleanDisk (state g.S.Store mid) = omega (arith, made.makes.whole.keeps.clean, clean) in
    let same = (passed.same was has).now in
    let there = subst (HasAccountRow c.args.request.now.account c.args.request.now.row) (sym same) (opened clean has) in (
      it.alone c.args.request.now.row there,
      λ of held.
          let own = account_in_room _ c.args.request.now.account c.args.request.now.row there of.0 held.room in
          let counted = c.in_ok-unfinished.ensures.counted was has of.0 (subst (λ db. HoldsRoom db c.args.request.now.account of.0) same held.room) in
          grown of.0 c.args.request.now.row own c.in_ok-unfinished.unfinished counted takes ask c.args.request.now.now job (first_of job.job c.first_document.result) is_job is_first c.args.request.now.ask_in_range moment after c.args.request.now.account (it.room of.0 held.room),
    ))
    made.makes.crash)

pub returns-in_err-make_job-clause-connection : goal.returns-in_err-make_job-clause-connection
returns-in_err-make_job-clause-connection g c =
    let mid = c.count_unfinished.new.connection in
    let new = c.make_job.new.connection in
    let fault = err_from_is_err_and c.from_residual-in_err-make_job.result c.from_residual-in_err-make_job.ensures.1 in
    goes_after g.S.Store c.args.connection.now mid new c.from_residual-in_err-make_job.result (read_passed g.S.Store _ _ _ c.in_ok-unfinished.ensures.reads)
    (subst (StaysOpen g.S.Store mid new) (sym fault.1) (record { keeps = c.in_err-make_job.ensures.makes.whole.keeps; opened = λ clean. tt }))

pub returns-clause-connection : goal.returns-clause-connection
returns-clause-connection g c =
    let whole = c.in_ok-make_job.ensures.makes.whole in
    goes_after g.S.Store c.args.connection.now c.count_unfinished.new.connection c.make_job.new.connection _ (read_passed g.S.Store _ _ _ c.in_ok-unfinished.ensures.reads)
    (record { keeps = whole.keeps; opened = λ clean _. (whole.opened clean).1 })
