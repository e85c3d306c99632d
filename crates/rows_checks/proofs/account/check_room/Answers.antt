use Rattle.std.proofs.Common.{◌≡◌, ◌∙◌, ◌<◌, ◌≤◌, length, Ok, Err, Some, OnOk, sym, ap, arith}
use Rattle.std.proofs.lemmas.Result.{err_from_is_err_and}
use Rattle.sqlite.specs.Effect.{Database}
use Rattle.sqlite.specs.Held.{state}
use Rattle.account_rules.specs.Limits.{most_unfinished}
use Rattle.rows_tables.specs.Accounts.{IsSound}
use Rattle.rows_tables.specs.declared.fault.TableFault.TheVariants.{Damaged}
use Rattle.rows_tables.proofs.KeyedRows.{same_fault}
use Rattle.rows_checks.specs.Checks.{DocumentsAreInOrder, GrantsAreInOrder, OthersAreInOrder}
use Rattle.rows_statements.specs.SoundRows.{unfinished_rows}
use Rattle.rows_statements.proofs.ReadsAgain.{reads_again}
use Rattle.rows_checks.proofs.ReadsBefore.{on_ok_with, told_before}
use Rattle.rows_statements.proofs.SoundReads.{sound_rows_are_read}
use Rattle.rows_checks.proofs.account.check_room.Goals as goal

pub returns-in_err-check_jobs-clause-damaged : goal.returns-in_err-check_jobs-clause-damaged
returns-in_err-check_jobs-clause-damaged g c clean has is_damaged =
    let told = err_from_is_err_and c.from_residual.result c.from_residual.ensures.1 in
    let fault : c.in_err-check_jobs.field-0.0 ≡ Damaged = sym told.2 ∙ same_fault (sym told.1 ∙ is_damaged) in
    c.in_err-check_jobs.ensures.damaged clean has (ap Err fault)

pub returns-in_err-count_unfinished-clause-damaged : goal.returns-in_err-count_unfinished-clause-damaged
returns-in_err-count_unfinished-clause-damaged g c clean has is_damaged room held next =
    let db = (state g.R.S.Store (g.R.Reads.held c.args.connection.now)).now in
    let told = err_from_is_err_and c.from_residual-in_err-count_unfinished.result c.from_residual-in_err-count_unfinished.ensures.1 in
    let fault : c.in_err-count_unfinished.field-0.0 ≡ Damaged = sym told.2 ∙ same_fault (sym told.1 ∙ is_damaged) in
    let many = told_before g.R.S.Store (g.R.Reads.held c.args.connection.now) (g.R.Reads.held c.check_jobs.new.connection) (g.R.Reads.held c.count_unfinished.new.connection) tt c.in_ok-check_jobs.ensures.reads c.in_err-count_unfinished.ensures.reads.keeps
    (λ (d : Database). most_unfinished < length (unfinished_rows d c.args.account)) (λ clean has. c.in_err-count_unfinished.ensures.damaged clean has (ap Err fault)) clean has in
    let few = (sound_rows_are_read.accounts db c.args.account has (Some room, held)).few in
    omega (arith, many, few)

pub returns-in_err-check_places-clause-damaged : goal.returns-in_err-check_places-clause-damaged
returns-in_err-check_places-clause-damaged g c clean has is_damaged room held next =
    let told = err_from_is_err_and c.from_residual-in_err-check_places.result c.from_residual-in_err-check_places.ensures.1 in
    let fault : c.in_err-check_places.field-0.0 ≡ Damaged = sym told.2 ∙ same_fault (sym told.1 ∙ is_damaged) in
    let first = reads_again g.R.S.Store (g.R.Reads.held c.args.connection.now) (g.R.Reads.held c.check_jobs.new.connection) (g.R.Reads.held c.count_unfinished.new.connection) tt (Ok c.in_ok-count_unfinished.field-0) c.in_ok-check_jobs.ensures.reads c.in_ok-count_unfinished.ensures.reads in
    told_before g.R.S.Store (g.R.Reads.held c.args.connection.now) (g.R.Reads.held c.count_unfinished.new.connection) (g.R.Reads.held c.check_places.new.connection) c.in_ok-count_unfinished.field-0 first c.in_err-check_places.ensures.reads.keeps
    (λ (d : Database). IsSound d c.args.account → ⊥) (λ clean has. c.in_err-check_places.ensures.damaged clean has (ap Err fault)) clean has (Some room, held)

pub returns-clause-damaged : goal.returns-clause-damaged
returns-clause-damaged g c clean has is_damaged room held next =
    let first = reads_again g.R.S.Store (g.R.Reads.held c.args.connection.now) (g.R.Reads.held c.check_jobs.new.connection) (g.R.Reads.held c.count_unfinished.new.connection) tt (Ok c.in_ok-count_unfinished.field-0) c.in_ok-check_jobs.ensures.reads c.in_ok-count_unfinished.ensures.reads in
    let second = reads_again g.R.S.Store (g.R.Reads.held c.args.connection.now) (g.R.Reads.held c.count_unfinished.new.connection) (g.R.Reads.held c.check_places.new.connection) c.in_ok-count_unfinished.field-0 (Ok tt) first c.in_ok-check_places.ensures.reads in
    told_before g.R.S.Store (g.R.Reads.held c.args.connection.now) (g.R.Reads.held c.check_places.new.connection) (g.R.Reads.held c.check_grants.new.connection) tt second c.check_grants.ensures.reads.keeps
    (λ (d : Database). IsSound d c.args.account → ⊥) (λ clean has. c.check_grants.ensures.damaged clean has is_damaged) clean has (Some room, held)

pub returns-clause-in_order : goal.returns-clause-in_order
returns-clause-in_order g c clean has =
    let old = (g.R.Reads.held c.args.connection.now) in
    let db = (state g.R.S.Store old).now in
    let name = c.args.account in
    let first = reads_again g.R.S.Store old (g.R.Reads.held c.check_jobs.new.connection) (g.R.Reads.held c.count_unfinished.new.connection) tt (Ok c.in_ok-count_unfinished.field-0) c.in_ok-check_jobs.ensures.reads c.in_ok-count_unfinished.ensures.reads in
    let second = reads_again g.R.S.Store old (g.R.Reads.held c.count_unfinished.new.connection) (g.R.Reads.held c.check_places.new.connection) c.in_ok-count_unfinished.field-0 (Ok tt) first c.in_ok-check_places.ensures.reads in
    let jobs = c.in_ok-check_jobs.ensures.in_order (omega (arith, c.in_ok-count_unfinished.ensures.reads.keeps.clean, c.in_ok-check_places.ensures.reads.keeps.clean, c.check_grants.ensures.reads.keeps.clean, clean)) has in
    let counted : c.in_ok-count_unfinished.field-0 ≡ length (unfinished_rows db name) = told_before g.R.S.Store old (g.R.Reads.held c.check_jobs.new.connection) (g.R.Reads.held c.count_unfinished.new.connection) tt c.in_ok-check_jobs.ensures.reads c.in_ok-count_unfinished.ensures.reads.keeps
    (λ (d : Database). c.in_ok-count_unfinished.field-0 ≡ length (unfinished_rows d name)) c.in_ok-count_unfinished.ensures.rows (omega (arith, c.in_ok-check_places.ensures.reads.keeps.clean, c.check_grants.ensures.reads.keeps.clean, clean)) has in
    let few : length (unfinished_rows db name) ≤ most_unfinished = omega (arith, counted, c.in_ok-count_unfinished.ensures.few) in
    let documents = told_before g.R.S.Store old (g.R.Reads.held c.count_unfinished.new.connection) (g.R.Reads.held c.check_places.new.connection) c.in_ok-count_unfinished.field-0 first c.in_ok-check_places.ensures.reads.keeps
    (λ (d : Database). DocumentsAreInOrder d name) c.in_ok-check_places.ensures.in_order (omega (arith, c.check_grants.ensures.reads.keeps.clean, clean)) has in
    let grants = told_before g.R.S.Store old (g.R.Reads.held c.check_places.new.connection) (g.R.Reads.held c.check_grants.new.connection) tt second c.check_grants.ensures.reads.keeps
    (λ (d : Database). OnOk c.check_grants.result (GrantsAreInOrder d name)) c.check_grants.ensures.in_order clean has in
    on_ok_with {Q = OthersAreInOrder db name c.args.next_job} c.check_grants.result (λ grants. record { jobs = jobs; few = few; documents = documents; grants = grants }) grants
