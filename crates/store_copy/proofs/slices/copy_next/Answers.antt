use Rattle.std.proofs.Common.{◌≡◌, ◌∙◌, sym, ap, subst, arith, Err}
use Rattle.std.proofs.lemmas.Result.{err_from_is_err_and}
use Rattle.sqlite.specs.Effect.{Database}
use Rattle.sqlite.specs.Held.{state}
use Rattle.sqlite.specs.State.{HasCleanDisk}
use Rattle.rows_tables.specs.Keyed.{HasSchema}
use Rattle.rows_tables.specs.declared.fault.TableFault.TheVariants.{Damaged}
use Rattle.rows_tables.proofs.KeyedRows.{same_fault}
use Rattle.rows_statements.specs.SoundRows.{AccountsRead, CanBeListed}
use Rattle.rows_statements.proofs.SoundReads.{sound_rows_are_read}
use Rattle.store_copy.specs.Slices.{BeginsAtMost}
use Rattle.store_copy.proofs.slices.copy_next.Goals as goal

pub returns-in_err-copy_devices-clause-damaged : goal.returns-in_err-copy_devices-clause-damaged
returns-in_err-copy_devices-clause-damaged g c clean has is_damaged sound =
    let told = err_from_is_err_and c.from_residual-in_err-copy_devices.result c.from_residual-in_err-copy_devices.ensures.1 in
    let fault : c.in_err-copy_devices.field-0.0 ≡ Damaged = sym told.2 ∙ same_fault (sym told.1 ∙ is_damaged) in
    let before : HasCleanDisk (state g.S.Store c.next_account.new.source) = omega (arith, c.in_err-copy_devices.ensures.reads.keeps.clean, clean) in
    let same = (c.in_ok-account.ensures.reads.same before has).now in
    c.in_err-copy_devices.ensures.damaged clean (subst HasSchema (sym same) has) (ap Err fault) (subst CanBeListed (sym same) (sound_rows_are_read.of_devices _ has sound.devices).listed)

pub returns-in_err-further-clause-damaged : goal.returns-in_err-further-clause-damaged
returns-in_err-further-clause-damaged g c clean has is_damaged sound =
    let told = err_from_is_err_and c.from_residual-in_err-further.result c.from_residual-in_err-further.ensures.1 in
    let fault : c.in_err-further.field-0.0 ≡ Damaged = sym told.2 ∙ same_fault (sym told.1 ∙ is_damaged) in
    let name = c.in-Some.account in
    let before : HasCleanDisk (state g.S.Store c.next_account.new.source) = omega (arith, c.in_err-further.ensures.source.keeps.clean, clean) in
    let same = (c.in_ok-account.ensures.reads.same before has).now in
    c.in_err-further.ensures.damaged clean (subst HasSchema (sym same) has) (ap Err fault) (subst (λ (db : Database). AccountsRead db name) (sym same) (sound_rows_are_read.accounts _ name has (sound.accounts name)))

pub returns-clause-at_most : goal.returns-clause-at_most
returns-clause-at_most g c clean has =
    let before : HasCleanDisk (state g.S.Store c.next_account.new.source) = omega (arith, c.in_ok-further.ensures.source.keeps.clean, clean) in
    let same = (c.in_ok-account.ensures.reads.same before has).now in
    subst (λ (db : Database). BeginsAtMost c.args.most c.in_ok-further.further db) same (c.in_ok-further.ensures.at_most clean (subst HasSchema (sym same) has))
