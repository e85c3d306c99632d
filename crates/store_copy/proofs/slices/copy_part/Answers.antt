use Rattle.std.proofs.Common.{◌≡◌, ◌∙◌, sym, ap, Err}
use Rattle.std.proofs.lemmas.Result.{err_from_is_err_and}
use Rattle.rows_tables.specs.declared.fault.TableFault.TheVariants.{Damaged}
use Rattle.rows_tables.proofs.KeyedRows.{same_fault}
use Rattle.rows_statements.proofs.SoundReads.{sound_rows_are_read}
use Rattle.store_copy.proofs.slices.copy_part.Goals as goal

pub returns-in_err-further-in-Anew-clause-damaged : goal.returns-in_err-further-in-Anew-clause-damaged
returns-in_err-further-in-Anew-clause-damaged g c clean has is_damaged sound =
    let told = err_from_is_err_and c.from_residual.result c.from_residual.ensures.1 in
    let fault : c.in_err-further-in-Anew.field-0.0 ≡ Damaged = sym told.2 ∙ same_fault (sym told.1 ∙ is_damaged) in
    c.in_err-further-in-Anew.ensures.damaged clean has (ap Err fault) (sound_rows_are_read.accounts _ _ has (sound.accounts _))

pub returns-in_err-further-in-Within-clause-damaged : goal.returns-in_err-further-in-Within-clause-damaged
returns-in_err-further-in-Within-clause-damaged g c clean has is_damaged sound =
    let told = err_from_is_err_and c.from_residual-in_err-further-in-Within.result c.from_residual-in_err-further-in-Within.ensures.1 in
    let fault : c.in_err-further-in-Within.field-0.0 ≡ Damaged = sym told.2 ∙ same_fault (sym told.1 ∙ is_damaged) in
    c.in_err-further-in-Within.ensures.damaged clean has (ap Err fault) (sound_rows_are_read.accounts _ _ has (sound.accounts _))
