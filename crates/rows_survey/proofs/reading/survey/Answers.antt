use Rattle.std.proofs.Common.{◌≡◌, Ok, Err, sym, subst, ap, ◌∙◌, arith}
use Rattle.std.proofs.lemmas.Result.{err_from_is_err_and}
use Rattle.sqlite.specs.Effect.{Database}
use Rattle.sqlite.specs.Held.{state}
use Rattle.sqlite.specs.State.{HasCleanDisk}
use Rattle.rows_tables.proofs.KeyedRows.{same_fault}
use Rattle.rows_tables.specs.Accounts.{HoldsRoom}
use Rattle.rows_tables.specs.Keyed.{HasSchema}
use Rattle.rows_tables.specs.declared.fault.TableFault.TheVariants.{Damaged}
use Rattle.rows_statements.proofs.ReadsAgain.{answered_as, failed_as, reads_again}
use Rattle.rows_survey.specs.Reading.{SurveyIsReadable}
use Rattle.rows_survey.proofs.reading.survey.Goals as goal

-- ---- where all is read

pub returns-clause-reads : goal.returns-clause-reads
returns-clause-reads g c =
    let old = (g.R.Reads.held c.args.connection.now) in
    let one = reads_again g.R.S.Store old (g.R.Reads.held c.summarize.new.connection) (g.R.Reads.held c.granted_to.new.connection) _ (Ok c.in_ok-granted.granted) c.in_ok-summary.ensures.reads c.in_ok-granted.ensures.reads in
    let two = reads_again g.R.S.Store old (g.R.Reads.held c.granted_to.new.connection) (g.R.Reads.held c.charges_of.new.connection) _ (Ok c.in_ok-days.days) one c.in_ok-days.ensures.reads in
    let all = reads_again g.R.S.Store old (g.R.Reads.held c.charges_of.new.connection) (g.R.Reads.held c.unfinished_jobs.new.connection) _ (Ok c.in_ok-unfinished.unfinished) two c.in_ok-unfinished.ensures.reads in
    answered_as g.R.S.Store old (g.R.Reads.held c.unfinished_jobs.new.connection) _ all _

pub returns-clause-told : goal.returns-clause-told
returns-clause-told g c clean has room holds =
    let old = (g.R.Reads.held c.args.connection.now) in
    let one = reads_again g.R.S.Store old (g.R.Reads.held c.summarize.new.connection) (g.R.Reads.held c.granted_to.new.connection) _ (Ok c.in_ok-granted.granted) c.in_ok-summary.ensures.reads c.in_ok-granted.ensures.reads in
    let two = reads_again g.R.S.Store old (g.R.Reads.held c.granted_to.new.connection) (g.R.Reads.held c.charges_of.new.connection) _ (Ok c.in_ok-days.days) one c.in_ok-days.ensures.reads in
    let clean3 : HasCleanDisk (state g.R.S.Store (g.R.Reads.held c.charges_of.new.connection)) = omega (arith, c.in_ok-unfinished.ensures.reads.keeps.clean, clean) in
    let clean2 : HasCleanDisk (state g.R.S.Store (g.R.Reads.held c.granted_to.new.connection)) = omega (arith, c.in_ok-days.ensures.reads.keeps.clean, clean3) in
    let clean1 : HasCleanDisk (state g.R.S.Store (g.R.Reads.held c.summarize.new.connection)) = omega (arith, c.in_ok-granted.ensures.reads.keeps.clean, clean2) in
    let same1 = (c.in_ok-summary.ensures.reads.same clean1 has).now in
    let same2 = (one.same clean2 has).now in
    let same3 = (two.same clean3 has).now in
    record {
      granted = c.in_ok-granted.ensures.granted clean2 (subst HasSchema (sym same1) has) room (subst (λ (db : Database). HoldsRoom db c.args.account room) (sym same1) holds);
      summary = c.in_ok-summary.ensures.told clean1 has room holds;
      days = c.in_ok-days.ensures.told clean3 (subst HasSchema (sym same2) has) room (subst (λ (db : Database). HoldsRoom db c.args.account room) (sym same2) holds);
      unfinished = c.in_ok-unfinished.ensures.listed clean (subst HasSchema (sym same3) has) room (subst (λ (db : Database). HoldsRoom db c.args.account room) (sym same3) holds);
    }

-- ---- where one of the reads fails

pub returns-in_err-granted-clause-reads : goal.returns-in_err-granted-clause-reads
returns-in_err-granted-clause-reads g c =
    let told = err_from_is_err_and c.from_residual-in_err-granted.result c.from_residual-in_err-granted.ensures.1 in
    failed_as g.R.S.Store (g.R.Reads.held c.args.connection.now) (g.R.Reads.held c.granted_to.new.connection) c.in_err-granted.field-0.0 _ told.0 told.1
    (reads_again g.R.S.Store (g.R.Reads.held c.args.connection.now) (g.R.Reads.held c.summarize.new.connection) (g.R.Reads.held c.granted_to.new.connection) _ (Err c.in_err-granted.field-0.0) c.in_ok-summary.ensures.reads c.in_err-granted.ensures.reads)

pub returns-in_err-days-clause-reads : goal.returns-in_err-days-clause-reads
returns-in_err-days-clause-reads g c =
    let old = (g.R.Reads.held c.args.connection.now) in
    let one = reads_again g.R.S.Store old (g.R.Reads.held c.summarize.new.connection) (g.R.Reads.held c.granted_to.new.connection) _ (Ok c.in_ok-granted.granted) c.in_ok-summary.ensures.reads c.in_ok-granted.ensures.reads in
    let told = err_from_is_err_and c.from_residual-in_err-days.result c.from_residual-in_err-days.ensures.1 in
    failed_as g.R.S.Store old (g.R.Reads.held c.charges_of.new.connection) c.in_err-days.field-0.0 _ told.0 told.1
    (reads_again g.R.S.Store old (g.R.Reads.held c.granted_to.new.connection) (g.R.Reads.held c.charges_of.new.connection) _ (Err c.in_err-days.field-0.0) one c.in_err-days.ensures.reads)

pub returns-in_err-unfinished-clause-reads : goal.returns-in_err-unfinished-clause-reads
returns-in_err-unfinished-clause-reads g c =
    let old = (g.R.Reads.held c.args.connection.now) in
    let one = reads_again g.R.S.Store old (g.R.Reads.held c.summarize.new.connection) (g.R.Reads.held c.granted_to.new.connection) _ (Ok c.in_ok-granted.granted) c.in_ok-summary.ensures.reads c.in_ok-granted.ensures.reads in
    let two = reads_again g.R.S.Store old (g.R.Reads.held c.granted_to.new.connection) (g.R.Reads.held c.charges_of.new.connection) _ (Ok c.in_ok-days.days) one c.in_ok-days.ensures.reads in
    let told = err_from_is_err_and c.from_residual-in_err-unfinished.result c.from_residual-in_err-unfinished.ensures.1 in
    failed_as g.R.S.Store old (g.R.Reads.held c.unfinished_jobs.new.connection) c.in_err-unfinished.field-0.0 _ told.0 told.1
    (reads_again g.R.S.Store old (g.R.Reads.held c.charges_of.new.connection) (g.R.Reads.held c.unfinished_jobs.new.connection) _ (Err c.in_err-unfinished.field-0.0) two c.in_err-unfinished.ensures.reads)

-- ---- where it is damaged

pub returns-in_err-summary-clause-damaged : goal.returns-in_err-summary-clause-damaged
returns-in_err-summary-clause-damaged g c clean has is_damaged readable =
    let told = err_from_is_err_and c.from_residual.result c.from_residual.ensures.1 in
    let fault : c.in_err-summary.field-0.0 ≡ Damaged = sym told.2 ∙ same_fault (sym told.1 ∙ is_damaged) in
    c.in_err-summary.ensures.damaged clean has (ap Err fault) readable.jobs

pub returns-in_err-granted-clause-damaged : goal.returns-in_err-granted-clause-damaged
returns-in_err-granted-clause-damaged g c clean has is_damaged readable =
    let told = err_from_is_err_and c.from_residual-in_err-granted.result c.from_residual-in_err-granted.ensures.1 in
    let fault : c.in_err-granted.field-0.0 ≡ Damaged = sym told.2 ∙ same_fault (sym told.1 ∙ is_damaged) in
    let before : HasCleanDisk (state g.R.S.Store (g.R.Reads.held c.summarize.new.connection)) = omega (arith, c.in_err-granted.ensures.reads.keeps.clean, clean) in
    let same = (c.in_ok-summary.ensures.reads.same before has).now in
    let there = subst (λ (db : Database). SurveyIsReadable c.args.account c.args.month db) (sym same) readable in
    c.in_err-granted.ensures.damaged clean (subst HasSchema (sym same) has) (ap Err fault) there.grants

pub returns-in_err-days-clause-damaged : goal.returns-in_err-days-clause-damaged
returns-in_err-days-clause-damaged g c clean has is_damaged readable =
    let old = (g.R.Reads.held c.args.connection.now) in
    let one = reads_again g.R.S.Store old (g.R.Reads.held c.summarize.new.connection) (g.R.Reads.held c.granted_to.new.connection) _ (Ok c.in_ok-granted.granted) c.in_ok-summary.ensures.reads c.in_ok-granted.ensures.reads in
    let told = err_from_is_err_and c.from_residual-in_err-days.result c.from_residual-in_err-days.ensures.1 in
    let fault : c.in_err-days.field-0.0 ≡ Damaged = sym told.2 ∙ same_fault (sym told.1 ∙ is_damaged) in
    let before : HasCleanDisk (state g.R.S.Store (g.R.Reads.held c.granted_to.new.connection)) = omega (arith, c.in_err-days.ensures.reads.keeps.clean, clean) in
    let same = (one.same before has).now in
    let there = subst (λ (db : Database). SurveyIsReadable c.args.account c.args.month db) (sym same) readable in
    c.in_err-days.ensures.damaged clean (subst HasSchema (sym same) has) (ap Err fault) there.jobs

pub returns-in_err-unfinished-clause-damaged : goal.returns-in_err-unfinished-clause-damaged
returns-in_err-unfinished-clause-damaged g c clean has is_damaged readable =
    let old = (g.R.Reads.held c.args.connection.now) in
    let one = reads_again g.R.S.Store old (g.R.Reads.held c.summarize.new.connection) (g.R.Reads.held c.granted_to.new.connection) _ (Ok c.in_ok-granted.granted) c.in_ok-summary.ensures.reads c.in_ok-granted.ensures.reads in
    let two = reads_again g.R.S.Store old (g.R.Reads.held c.granted_to.new.connection) (g.R.Reads.held c.charges_of.new.connection) _ (Ok c.in_ok-days.days) one c.in_ok-days.ensures.reads in
    let told = err_from_is_err_and c.from_residual-in_err-unfinished.result c.from_residual-in_err-unfinished.ensures.1 in
    let fault : c.in_err-unfinished.field-0.0 ≡ Damaged = sym told.2 ∙ same_fault (sym told.1 ∙ is_damaged) in
    let before : HasCleanDisk (state g.R.S.Store (g.R.Reads.held c.charges_of.new.connection)) = omega (arith, c.in_err-unfinished.ensures.reads.keeps.clean, clean) in
    let same = (two.same before has).now in
    let there = subst (λ (db : Database). SurveyIsReadable c.args.account c.args.month db) (sym same) readable in
    c.in_err-unfinished.ensures.damaged clean (subst HasSchema (sym same) has) (ap Err fault) there.unfinished
