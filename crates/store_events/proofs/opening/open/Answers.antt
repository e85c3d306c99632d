use Rattle.std.proofs.Common.{◌≡◌, ℕ, List, Option, None, Err, sym, ap, subst, ◌∙◌, arith}
use Rattle.std.proofs.lemmas.Result.{err_from_is_err_and}
use Rattle.sqlite.specs.Effect.{Database}
use Rattle.sqlite.specs.Held.{state}
use Rattle.sqlite.specs.State.{HasCleanDisk}
use Rattle.account_machine.specs.Events.{OfAccount, Open}
use Rattle.account_machine.specs.Machine.{answered}
use Rattle.account_rules.specs.Devices.{Devices}
use Rattle.account_state.specs.Rooms.{RoomValue}
use Rattle.rows_statements.specs.Alone.{OnlyAccount}
use Rattle.rows_statements.specs.Changed.{OpensAccount}
use Rattle.rows_statements.proofs.Retelling.{leaves_as}
use Rattle.rows_statements.proofs.WalkLemmas.{never_damaged}
use Rattle.rows_tables.specs.Accounts.{account_at, Holds}
use Rattle.rows_tables.specs.Keyed.{HasSchema}
use Rattle.store_events.specs.Serving.{ChangesRows, MayBeHeld}
use Rattle.store_events.proofs.Opened.{opens_now, was_not_open}
use Rattle.store_events.proofs.ServingLemmas.{changed_after, handed, not_changed_after, read_failed_as}
use Rattle.store_rounds.proofs.LookLemmas.{read_passed}
use Rattle.store_events.proofs.opening.open.Goals as goal

-- what it makes of the tables, as an event has it
abbrev DoesOpen : List ℕ → ℕ → Database → Database → Type 0
DoesOpen name now = ChangesRows (MayBeHeld name) (OnlyAccount name) (λ (of : Option RoomValue × Devices) db. Holds db name (answered of.0 of.1 now (OfAccount name Open)).room)

pub returns-in_err-find_account-clause-served : goal.returns-in_err-find_account-clause-served
returns-in_err-find_account-clause-served g c =
    let told = err_from_is_err_and c.from_residual.result c.from_residual.ensures.1 in
    read_failed_as _ _ _ _ _ g.S.Store _ _ c.from_residual.result told.0 _ told.1 told.2 c.in_err-find_account.ensures.reads
    (λ clean has is readable. c.in_err-find_account.ensures.damaged clean has (ap (λ e. Err e) is) (readable (λ short. short)).account)

pub returns-in_err-open_account-clause-served : goal.returns-in_err-open_account-clause-served
returns-in_err-open_account-clause-served g c =
    let old = c.args.connection.now in
    let mid = c.find_account.new.connection in
    let new = c.open_account.new.connection in
    let name = c.args.account in
    let now = c.args.now in
    let passed = read_passed g.S.Store old mid _ c.in_ok-find_account.ensures.reads in
    let none = was_not_open name c.in_ok-find_account.field-0 (sym c.is_some.ensures ∙ c.if-is_some.false) in
    let fault = err_from_is_err_and c.from_residual-in_err-open_account.result c.from_residual-in_err-open_account.ensures.1 in
    let made = c.in_err-open_account.ensures in
    handed _ _ _ _ _ g.S.Store old new c.from_residual-in_err-open_account.result fault.0 _ fault.1 fault.2
    (not_changed_after _ _ _ _ _ g.S.Store old mid passed new _ made.opens.whole.keeps made.opens.whole.undone
    (λ was clean has same is readable. never_damaged c.in_err-open_account.field-0.0 is)
    (λ has. leaves_as g.S.Store mid new (OpensAccount name now) (DoesOpen name now)
    (λ clean has_mid after it.
    let was : HasCleanDisk (state g.S.Store mid) = omega (arith, made.opens.whole.keeps.clean, clean) in
    let same = (passed.same was has).now in (
      it.alone,
      λ of held. (opens_now name now (state g.S.Store mid).now after (subst (λ db. account_at db name ≡ None) (sym same) (c.in_ok-find_account.ensures.found was has ∙ none)) it of held).1,
    ))
    made.opens.crash))

pub returns-clause-served : goal.returns-clause-served
returns-clause-served g c =
    let old = c.args.connection.now in
    let mid = c.find_account.new.connection in
    let new = c.open_account.new.connection in
    let name = c.args.account in
    let now = c.args.now in
    let passed = read_passed g.S.Store old mid _ c.in_ok-find_account.ensures.reads in
    let none = was_not_open name c.in_ok-find_account.field-0 (sym c.is_some.ensures ∙ c.if-is_some.false) in
    let made = c.in_ok-open_account.ensures in
    changed_after _ _ _ _ _ g.S.Store old mid passed new c.in_ok-answered.answered made.opens.whole
    (λ was clean has same.
    let after = made.opens.made clean (subst HasSchema (sym same) has) in (
      after.0,
      after.1.alone,
      λ of held.
          let mid_held = subst (MayBeHeld name of) (sym same) held in
          let it = opens_now name now (state g.S.Store mid).now (state g.S.Store new).now (subst (λ db. account_at db name ≡ None) (sym same) (c.in_ok-find_account.ensures.found was has ∙ none)) after.1 of mid_held in
          (c.in_ok-answered.ensures.answered ∙ it.0, it.1),
    ))
    (λ has. leaves_as g.S.Store mid new (OpensAccount name now) (DoesOpen name now)
    (λ clean has_mid after it.
    let was : HasCleanDisk (state g.S.Store mid) = omega (arith, made.opens.whole.keeps.clean, clean) in
    let same = (passed.same was has).now in (
      it.alone,
      λ of held. (opens_now name now (state g.S.Store mid).now after (subst (λ db. account_at db name ≡ None) (sym same) (c.in_ok-find_account.ensures.found was has ∙ none)) it of held).1,
    ))
    made.opens.crash)
