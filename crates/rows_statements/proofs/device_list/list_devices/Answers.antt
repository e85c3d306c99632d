use Rattle.std.proofs.Common.{◌≡◌, ℕ, Bool, ◌∙◌, List, [], ◌∷◌, ◌++◌, map, take, IsSome, Ok, Err, sym, ap, subst, arith}
use Rattle.std.specs.List.{AllByRecursion}
use Rattle.std.specs.FinMap.{values}
use Rattle.std.proofs.lemmas.List.{map-append, take_all, take_more}
use Rattle.std.proofs.lemmas.Result.{err_from_is_err_and}
use Rattle.sqlite_trees.proofs.ListLemmas.{all-append}
use Rattle.sqlite_rules.proofs.ListLemmas.{all_has, has_at}
use Rattle.sqlite.specs.State.{HasCleanDisk}
use Rattle.sqlite.specs.Held.{state}
use Rattle.rows_tables.specs.Devices.{device_at, rate_at}
use Rattle.rows_tables.specs.Keyed.{HasSchema}
use Rattle.rows_tables.specs.declared.fault.TableFault.TheVariants.{Damaged}
use Rattle.rows_tables.proofs.KeyedRows.{same_fault}
use Rattle.rows_statements.specs.DeviceLists.{switch_of, HasRate}
use Rattle.rows_statements.proofs.DeviceListing.{switches_listed, switches_there, switches_unsound, rated_are, values_rated}
use Rattle.rows_statements.proofs.ReadsAgain.{reads_again, answered_as, failed_after, failed_as}
use Rattle.rows_statements.proofs.device_list.list_devices.Goals as goal

pub returns-in_err-walk_switches-clause-damaged : goal.returns-in_err-walk_switches-clause-damaged
returns-in_err-walk_switches-clause-damaged g c clean has is_damaged =
    let told = err_from_is_err_and c.from_residual.result c.from_residual.ensures.1 in
    let fault : c.in_err-walk_switches.field-0.0 ≡ Damaged = sym told.2 ∙ same_fault (sym told.1 ∙ is_damaged) in
    switches_unsound (state g.R.S.Store (g.R.Reads.held c.args.connection.now)).now has _ ((c.in_err-walk_switches.ensures.walks clean has).damaged (ap Err fault))

pub loop-name-init : goal.loop-name-init
loop-name-init g c = (
  record {
    keeps = c.in_ok-walk_switches.ensures.connection.keeps;
    opened = c.in_ok-walk_switches.ensures.connection.opened;
    same = λ clean has. (c.in_ok-walk_switches.ensures.walks clean has).same;
    stays = λ clean has. (c.in_ok-walk_switches.ensures.walks clean has).stays;
    crash = λ clean has. (c.in_ok-walk_switches.ensures.walks clean has).crash;
  },
  ap (map switch_of) c.new-items.ensures.items,
  λ clean has. subst (AllByRecursion (HasRate (state g.R.S.Store (g.R.Reads.held c.args.connection.now)).now)) (sym c.new-items.ensures.items) tt,
  λ clean. clean,
)

pub returns-in_err-with_rate-clause-damaged : goal.returns-in_err-with_rate-clause-damaged
returns-in_err-with_rate-clause-damaged g c clean has is_damaged listed =
    let db = (state g.R.S.Store (g.R.Reads.held c.args.connection.now)).now in
    let told = err_from_is_err_and c.from_residual-in_err-with_rate.result c.from_residual-in_err-with_rate.ensures.1 in
    let fault : c.in_err-with_rate.field-0.0 ≡ Damaged = sym told.2 ∙ same_fault (sym told.1 ∙ is_damaged) in
    let before : HasCleanDisk (state g.R.S.Store (g.R.Reads.held c.loop-name.connection)) = omega (arith, c.in_err-with_rate.ensures.reads.keeps.clean, clean) in
    let same = (c.loop-name.invariant.0.same before has).now in
    let item = c.loop-name-item.result in
    let there = switches_there db has _ c.walk_switches.new.switches c.new.ensures.items (c.in_ok-walk_switches.ensures.walks (c.loop-name.invariant.3 before) has).all in
    let some : IsSome (device_at db item.0) =
    all_has (λ (switch : List ℕ × Bool). IsSome (device_at db switch.0)) c.as_slice-name-items.result.now item (subst (AllByRecursion (λ (switch : List ℕ × Bool). IsSome (device_at db switch.0))) (sym c.as_slice-name-items.ensures) there)
    (has_at c.as_slice-name-items.result.now c.loop-name.name-index item c.loop-name-test.true c.loop-name-item.is) in
    let rate = listed.rates item.0 some in
    c.in_err-with_rate.ensures.damaged clean (subst HasSchema (sym same) has) (ap Err fault) rate.0 rate.1 (ap (λ db. rate_at db item.0) same ∙ rate.2)

pub returns-in_err-with_rate-clause-reads : goal.returns-in_err-with_rate-clause-reads
returns-in_err-with_rate-clause-reads g c =
    let told = err_from_is_err_and c.from_residual-in_err-with_rate.result c.from_residual-in_err-with_rate.ensures.1 in
    failed_as g.R.S.Store (g.R.Reads.held c.args.connection.now) (g.R.Reads.held c.with_rate.new.connection) c.in_err-with_rate.field-0.0 c.from_residual-in_err-with_rate.result told.0 told.1
    (reads_again g.R.S.Store (g.R.Reads.held c.args.connection.now) (g.R.Reads.held c.loop-name.connection) (g.R.Reads.held c.with_rate.new.connection) tt (Err c.in_err-with_rate.field-0.0) c.loop-name.invariant.0 c.in_err-with_rate.ensures.reads)

pub returns-in_err-push-clause-reads : goal.returns-in_err-push-clause-reads
returns-in_err-push-clause-reads g c =
    let told = err_from_is_err_and c.from_residual-in_err-push.result c.from_residual-in_err-push.ensures.1 in
    failed_after g.R.S.Store (g.R.Reads.held c.args.connection.now) (g.R.Reads.held c.with_rate.new.connection) c.in_ok-with_rate.field-0
    (reads_again g.R.S.Store (g.R.Reads.held c.args.connection.now) (g.R.Reads.held c.loop-name.connection) (g.R.Reads.held c.with_rate.new.connection) tt (Ok c.in_ok-with_rate.field-0) c.loop-name.invariant.0 c.in_ok-with_rate.ensures.reads) c.from_residual-in_err-push.result told.0 told.1

pub loop-name-preserved : goal.loop-name-preserved
loop-name-preserved g c =
    let db = (state g.R.S.Store (g.R.Reads.held c.args.connection.now)).now in
    let before : HasCleanDisk (state g.R.S.Store (g.R.Reads.held c.with_rate.new.connection)) → HasCleanDisk (state g.R.S.Store (g.R.Reads.held c.loop-name.connection)) = λ clean. omega (arith, c.in_ok-with_rate.ensures.reads.keeps.clean, clean) in
    let device = c.in_ok-with_rate.field-0 in
    let item = c.loop-name-item.result in
    let all = c.as_slice-name-items.result.now in (
      answered_as g.R.S.Store (g.R.Reads.held c.args.connection.now) (g.R.Reads.held c.with_rate.new.connection) device
          (reads_again g.R.S.Store (g.R.Reads.held c.args.connection.now) (g.R.Reads.held c.loop-name.connection) (g.R.Reads.held c.with_rate.new.connection) tt (Ok device) c.loop-name.invariant.0 c.in_ok-with_rate.ensures.reads) tt,
      ap (map switch_of) c.in_ok-push.ensures.items
          ∙ map-append switch_of c.loop-name.items.items (device ∷ [])
          ∙ ap (λ (l : List (List ℕ × Bool)). l ++ switch_of device ∷ []) c.loop-name.invariant.1
          ∙ ap (λ (s : List ℕ × Bool). take c.loop-name.name-index all ++ s ∷ []) (c.in_ok-with_rate.ensures.told ∙ c.loop-name-item.is)
          ∙ sym (take_more all c.loop-name.name-index item c.loop-name-test.true),
      λ clean has.
          let same = (c.loop-name.invariant.0.same (before clean) has).now in
          subst (AllByRecursion (HasRate db)) (sym c.in_ok-push.ensures.items)
          (all-append (HasRate db) c.loop-name.items.items (device ∷ []) (c.loop-name.invariant.2 (before clean) has) (subst (λ db. HasRate db device) same (c.in_ok-with_rate.ensures.rated clean (subst HasSchema (sym same) has)), tt)),
      λ clean. c.loop-name.invariant.3 (before clean),
    )

pub returns-clause-listed : goal.returns-clause-listed
returns-clause-listed g c clean has devices held =
    let db = (state g.R.S.Store (g.R.Reads.held c.args.connection.now)).now in
    let all = c.as_slice-name-items.result.now in
    let walked = (c.in_ok-walk_switches.ensures.walks (c.loop-name.invariant.3 clean) has).all in
    let told = c.loop-name.invariant.1 ∙ take_all c.loop-name.name-index all c.loop-name-test.false ∙ c.as_slice-name-items.ensures ∙ switches_listed db has _ c.walk_switches.new.switches c.new.ensures.items walked devices held in
    rated_are db (values devices) c.loop-name.items.items told (values_rated db devices held) (c.loop-name.invariant.2 clean has)

pub returns-clause-reads : goal.returns-clause-reads
returns-clause-reads g c = answered_as g.R.S.Store (g.R.Reads.held c.args.connection.now) (g.R.Reads.held c.loop-name.connection) tt c.loop-name.invariant.0 c.loop-name.items.items
