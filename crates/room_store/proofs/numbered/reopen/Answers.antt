use Rattle.std.proofs.Common.{◌≡◌, false, sym, subst, ◌∙◌, arith, rules}
use Rattle.sqlite_trees.specs.View.{IsClean, IsOrdered}
use Rattle.sqlite.specs.Held.{state}
use Rattle.rows_tables.specs.Tables.{room_schema}
use Rattle.room_store.proofs.NumberedLemmas.{numbered_of, open_unless_broken}
use Rattle.room_store.proofs.numbered.reopen.Goals as goal

pub invariant_of-result : goal.invariant_of-result
invariant_of-result g c clean =
    let store = c.into_store-store.result in
    let view = g.S.Store.view store in
    let new = state g.S.Store c.in-Ok.connection in
    let was : IsClean view = omega (arith, c.in-Ok.ensures.clean, clean) in
    let unbroken : view.is_broken ≡ false = sym (c.is_broken.ensures was) ∙ c.if-is_broken.false in
    numbered_of view.shape room_schema.tables new.now (subst (IsOrdered view.shape) (sym (c.in-Ok.ensures.trees clean)) (g.met.S.Store.ordered store unbroken)) (c.are_tables.ensures (search rules))

pub returns-in-Ok : goal.returns-in-Ok
returns-in-Ok g c =
    let store = c.into_store-store.result in
    let view = g.S.Store.view store in
    record {
      rows = λ clean.
          let was : IsClean view = omega (arith, c.in-Ok.ensures.clean, clean) in
          let unbroken : view.is_broken ≡ false = sym (c.is_broken.ensures was) ∙ c.if-is_broken.false in
          c.in-Ok.ensures.trees clean ∙ (c.into_store-store.ensures.undone.undone (open_unless_broken view.is_open view.is_broken (g.met.S.Store.broken_if_shut store) unbroken)).0;
    }
