use Rattle.std.proofs.Common.{◌≡◌, ◌∙◌, Option, Err, refl, sym, ap, subst, arith}
use Rattle.std.proofs.lemmas.Result.{err_from_is_err_and}
use Rattle.sqlite.specs.Effect.{Database}
use Rattle.sqlite.specs.Held.{state}
use Rattle.sqlite.specs.State.{HasCleanDisk}
use Rattle.rows_tables.specs.Keyed.{HasSchema}
use Rattle.rows_tables.specs.declared.fault.TableFault.TheVariants.{Damaged}
use Rattle.rows_tables.proofs.Going.{goes_on}
use Rattle.rows_tables.proofs.KeyedRows.{same_fault}
use Rattle.store_copy.specs.All.{AreAllSound}
use Rattle.store_copy.specs.Slices.{CopiesSlice, IfNamed}
use Rattle.store_copy.specs.declared.slices.Progress.{Progress}
use Rattle.store_copy.proofs.ReadsKept.{keeps_itself, leaves_answered, leaves_itself, leaves_then}
use Rattle.store_copy.proofs.SoFar.{nothing_yet, slice_done, whole_of_one}
use Rattle.store_copy.proofs.every.copy_all.Goals as goal

pub loop-init : goal.loop-init
loop-init g c =
    let source = (state g.S.Store c.args.source.now).now in (
      leaves_itself g.S.Store c.args.source.now tt,
      keeps_itself (state g.T.Store c.args.copy.now),
      λ clean has. (has, λ source_clean source_has names are named none no_device. nothing_yet (λ db. db ≡ source) source (state g.T.Store c.args.copy.now).now none no_device),
    )

pub loop-preserved : goal.loop-preserved
loop-preserved g c =
    let source = (state g.S.Store c.args.source.now).now in
    let mid = state g.T.Store c.loop.copy in
    let after = state g.T.Store c.copy_slice.new.copy in
    let copies = c.in_ok-further.ensures.copies in (
      leaves_answered g.S.Store _ _ _ tt (leaves_then g.S.Store c.args.source.now c.loop.source c.copy_slice.new.source tt _ c.loop.invariant.0 c.in_ok-further.ensures.source),
      goes_on (state g.T.Store c.args.copy.now) mid after c.loop.invariant.1 copies.whole.keeps,
      λ clean has.
          let mid_clean : HasCleanDisk mid = omega (arith, copies.whole.keeps.clean, clean) in
          let so_far = c.loop.invariant.2 mid_clean has in
          let more = copies.made clean so_far.0 in (
            more.0,
            λ source_clean source_has names are named none no_device.
                let found_clean : HasCleanDisk (state g.S.Store c.loop.source) = omega (arith, c.in_ok-further.ensures.source.keeps.clean, source_clean) in
                let same = (c.loop.invariant.0.same found_clean source_has).now in
                let slice : CopiesSlice c.loop.progress c.in_ok-further.field-0 source mid.now after.now =
                subst (λ (db : Database). IfNamed db (CopiesSlice c.loop.progress c.in_ok-further.field-0 db mid.now after.now)) same (more.1 source_clean (subst HasSchema (sym same) source_has)) names are named in
                slice_done (λ db. db ≡ source) c.loop.progress c.in-Some.further source mid.now after.now refl (so_far.1 found_clean source_has names are named none no_device)
                (subst (λ (to : Option Progress). CopiesSlice c.loop.progress to source mid.now after.now) c.in-Some.is slice),
          ),
    )

pub returns-in_default-clause-copies : goal.returns-in_default-clause-copies
returns-in_default-clause-copies g c clean has =
    let source = (state g.S.Store c.args.source.now).now in
    let mid = state g.T.Store c.loop.copy in
    let after = state g.T.Store c.copy_slice.new.copy in
    let copies = c.in_ok-further.ensures.copies in
    let mid_clean : HasCleanDisk mid = omega (arith, copies.whole.keeps.clean, clean) in
    let so_far = c.loop.invariant.2 mid_clean has in
    let more = copies.made clean so_far.0 in (
      more.0,
      λ source_clean source_has names are named none no_device.
          let found_clean : HasCleanDisk (state g.S.Store c.loop.source) = omega (arith, c.in_ok-further.ensures.source.keeps.clean, source_clean) in
          let same = (c.loop.invariant.0.same found_clean source_has).now in
          let slice : CopiesSlice c.loop.progress c.in_ok-further.field-0 source mid.now after.now =
          subst (λ (db : Database). IfNamed db (CopiesSlice c.loop.progress c.in_ok-further.field-0 db mid.now after.now)) same (more.1 source_clean (subst HasSchema (sym same) source_has)) names are named in
          whole_of_one c.loop.progress source mid.now after.now (so_far.1 found_clean source_has names are named none no_device)
          (subst (λ (to : Option Progress). CopiesSlice c.loop.progress to source mid.now after.now) c.in_default.is slice),
    )

pub returns-in_err-further-clause-damaged : goal.returns-in_err-further-clause-damaged
returns-in_err-further-clause-damaged g c clean has is_damaged sound =
    let told = err_from_is_err_and c.from_residual.result c.from_residual.ensures.1 in
    let fault : c.in_err-further.field-0.0 ≡ Damaged = sym told.2 ∙ same_fault (sym told.1 ∙ is_damaged) in
    let before : HasCleanDisk (state g.S.Store c.loop.source) = omega (arith, c.in_err-further.ensures.source.keeps.clean, clean) in
    let same = (c.loop.invariant.0.same before has).now in
    c.in_err-further.ensures.damaged clean (subst HasSchema (sym same) has) (ap Err fault) (subst AreAllSound (sym same) sound)
