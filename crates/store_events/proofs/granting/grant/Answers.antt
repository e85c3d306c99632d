use Rattle.std.proofs.Common.{ℕ, List, Result, Err, sym, ap, subst, ◌∙◌, arith}
use Rattle.std.proofs.lemmas.Result.{err_from_is_err_and}
use Rattle.sqlite.specs.Effect.{Database}
use Rattle.sqlite.specs.Held.{state}
use Rattle.sqlite.specs.State.{HasCleanDisk}
use Rattle.account_machine.specs.Grants.{granted}
use Rattle.account_machine.specs.Steps.{Step, refusing_or, telling}
use Rattle.account_replies.specs.Grants.{grant_refusal}
use Rattle.account_replies.specs.declared.station_line.Success.TheVariants as success
use Rattle.account_rules.specs.declared.refusal.Word.{Word}
use Rattle.account_state.specs.Changes.{with_grant}
use Rattle.rows_statements.specs.Alone.{OnlyAccount}
use Rattle.rows_statements.specs.Changed.{GrantsPages}
use Rattle.rows_statements.proofs.Retelling.{leaves_as}
use Rattle.rows_statements.proofs.WalkLemmas.{never_damaged}
use Rattle.rows_tables.specs.Accounts.{HoldsRoom}
use Rattle.rows_tables.specs.Keyed.{HasSchema}
use Rattle.store_events.specs.Answers.{of_step}
use Rattle.store_events.specs.Serving.{ChangesRows, RowsHold}
use Rattle.store_events.proofs.FoundGrants.{found_grant, is_new_grant}
use Rattle.store_events.proofs.ServingLemmas.{changed_after, handed, not_changed_after, read_failed_as}
use Rattle.store_rounds.proofs.LookLemmas.{read_passed}
use Rattle.store_events.proofs.StepLemmas.{refuses_as}
use Rattle.store_events.proofs.granting.grant.Goals as goal

-- what it makes of the tables, as an event has it
abbrev DoesGrant : List ℕ → (month pages : ℕ) → Database → Database → Type 0
DoesGrant name month pages = ChangesRows (RowsHold name) (OnlyAccount name) (λ of db. HoldsRoom db name (granted of.0 month pages).room)

pub returns-in_err-held : goal.returns-in_err-held
returns-in_err-held g c =
    let told = err_from_is_err_and c.from_residual.result c.from_residual.ensures.1 in
    record {
      served = read_failed_as _ _ _ _ _ g.S.Store _ _ c.from_residual.result told.0 _ told.1 told.2 c.in_err-held.ensures.reads
          (λ clean has is readable. c.in_err-held.ensures.damaged clean has (ap (λ e. Err e) is) readable);
    }

pub returns-in-Err : goal.returns-in-Err
returns-in-Err g c =
    let old = c.args.connection.now in
    let mid = c.find_grant.new.connection in
    let name = c.args.account in
    record {
      served = refuses_as g.S.Store old mid name (read_passed g.S.Store old mid _ c.in_ok-held.ensures.reads) (λ room devices. granted room c.args.month c.args.pages) c.in-Err.word c.refused_by.result c.refused_by.ensures.answered c.refused_by.ensures.memory
          (λ clean has of held.
          let found = found_grant _ name c.args.month c.in_ok-held.held (c.in_ok-held.ensures.found clean has) of.0 held.room in
          ap (λ (d : Result (Unit {0}) Word). refusing_or of.0 d (λ _. telling (with_grant of.0 c.args.month c.args.pages) success.Ok))
          (ap (λ o. grant_refusal o c.args.pages) (sym found) ∙ sym c.check_grant.ensures ∙ c.in-Err.is));
    }

pub returns-in_err-add_grant : goal.returns-in_err-add_grant
returns-in_err-add_grant g c =
    let old = c.args.connection.now in
    let mid = c.find_grant.new.connection in
    let new = c.add_grant.new.connection in
    let name = c.args.account in
    let month = c.args.month in
    let pages = c.args.pages in
    let held_pages = c.in_ok-held.held in
    let accepts = sym c.check_grant.ensures ∙ c.in_default.is in
    let passed = read_passed g.S.Store old mid _ c.in_ok-held.ensures.reads in
    let fault = err_from_is_err_and c.from_residual-in_err-add_grant.result c.from_residual-in_err-add_grant.ensures.1 in
    let made = c.in_err-add_grant.ensures in
    record {
      served = handed _ _ _ _ _ g.S.Store old new c.from_residual-in_err-add_grant.result fault.0 _ fault.1 fault.2
          (not_changed_after _ _ _ _ _ g.S.Store old mid passed new _ made.grants.whole.keeps made.grants.whole.undone
          (λ was clean has same is readable. never_damaged c.in_err-add_grant.field-0.0 is)
          (λ has. leaves_as g.S.Store mid new (GrantsPages name month pages) (DoesGrant name month pages)
          (λ clean has_mid after it.
          let was : HasCleanDisk (state g.S.Store mid) = omega (arith, made.grants.whole.keeps.clean, clean) in
          let same = (passed.same was has).now in (
            it.alone,
            λ of held.
                let found = found_grant _ name month held_pages (c.in_ok-held.ensures.found was has) of.0 (subst (λ db. HoldsRoom db name of.0) same held.room) in
                let new_grant = is_new_grant of.0 month pages held_pages found accepts in
                subst (λ (s : Step). HoldsRoom after name s.room) (sym new_grant.1) (it.room of.0 held.room (record { is_new = new_grant.0; in_range = c.requires.grant })),
          ))
          made.grants.crash));
    }

pub returns : goal.returns
returns g c =
    let old = c.args.connection.now in
    let mid = c.find_grant.new.connection in
    let new = c.add_grant.new.connection in
    let name = c.args.account in
    let month = c.args.month in
    let pages = c.args.pages in
    let held_pages = c.in_ok-held.held in
    let accepts = sym c.check_grant.ensures ∙ c.in_default.is in
    let passed = read_passed g.S.Store old mid _ c.in_ok-held.ensures.reads in
    let made = c.in_ok-add_grant.ensures in
    record {
      served = changed_after _ _ _ _ _ g.S.Store old mid passed new c.in_ok-answered.answered made.grants.whole
          (λ was clean has same.
          let after = made.grants.made clean (subst HasSchema (sym same) has) in (
            after.0,
            after.1.alone,
            λ of held.
                let found = found_grant _ name month held_pages (c.in_ok-held.ensures.found was has) of.0 held.room in
                let new_grant = is_new_grant of.0 month pages held_pages found accepts in (
                  c.in_ok-answered.ensures.answered ∙ ap of_step (sym new_grant.1),
                  subst (λ (s : Step). HoldsRoom (state g.S.Store new).now name s.room) (sym new_grant.1) (after.1.room of.0 (subst (λ db. HoldsRoom db name of.0) (sym same) held.room) (record { is_new = new_grant.0; in_range = c.requires.grant })),
                ),
          ))
          (λ has. leaves_as g.S.Store mid new (GrantsPages name month pages) (DoesGrant name month pages)
          (λ clean has_mid after it.
          let was : HasCleanDisk (state g.S.Store mid) = omega (arith, made.grants.whole.keeps.clean, clean) in
          let same = (passed.same was has).now in (
            it.alone,
            λ of held.
                let found = found_grant _ name month held_pages (c.in_ok-held.ensures.found was has) of.0 (subst (λ db. HoldsRoom db name of.0) same held.room) in
                let new_grant = is_new_grant of.0 month pages held_pages found accepts in
                subst (λ (s : Step). HoldsRoom after name s.room) (sym new_grant.1) (it.room of.0 held.room (record { is_new = new_grant.0; in_range = c.requires.grant })),
          ))
          made.grants.crash);
    }
