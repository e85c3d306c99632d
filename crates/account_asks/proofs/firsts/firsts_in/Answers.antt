use Rattle.std.proofs.Common.{◌<◌, not, length, sym, ap, subst, ◌∙◌, arith, rules}
use Rattle.account_asks.proofs.Sorts.{Entry, sorted_so}
use Rattle.account_asks.proofs.Marks.{none_marked, first_marked, same_passed, same_unless, all_marked}
use Rattle.account_asks.proofs.firsts.firsts_in.Goals as goal
use Rattle.account_asks.proofs.firsts.firsts_in.Goals.{then-turn-eq0, then-turn-eq0-via-then-turn-eq0, then-turn-eq0-via-else-turn-eq0+then-ne, else-turn-eq0+else-ne}

pub loop-turn-init : goal.loop-turn-init
loop-turn-init c = none_marked c.in_ok-firsts.firsts.items c.sort_unstable.new.self.items c.args.attributes.now (search rules)

pub index_mut-requires : goal.index_mut-requires
index_mut-requires c =
    let sorted = sorted_so c.in_ok-keys.keys.items c.sort_unstable.new.self.items c.args.attributes.now c.in_ok-keys.ensures c.sort_unstable.ensures.permutation c.sort_unstable.ensures.sorted in
    let below : c.loop-turn.turn < length c.sort_unstable.new.self.items = omega (arith, c.loop-turn-test.true, c.len-turn-end.ensures) in
    let placed = subst (λ (e : Entry). e.1 < length c.args.attributes.now) (sym c.index.ensures) (sorted.each c.loop-turn.turn c.index.result.now below).0 in
    omega (arith, placed, c.loop-turn.invariant.all)

pub loop-turn-preserved : goal.loop-turn-preserved
loop-turn-preserved c =
    let xs = c.args.attributes.now in
    let keys = c.sort_unstable.new.self.items in
    let firsts = c.loop-turn.firsts.items in
    let turn = c.loop-turn.turn in
    let b = c.index.result.now in
    let sorted = sorted_so c.in_ok-keys.keys.items keys xs c.in_ok-keys.ensures c.sort_unstable.ensures.permutation c.sort_unstable.ensures.sorted in
    let below : turn < length keys = omega (arith, c.loop-turn-test.true, c.len-turn-end.ensures) in
    elim c.if-turn-eq0.branch [
      | then-turn-eq0 w ↦
          rw w.firsts-is (elim w.then-turn-eq0.branch [
            | then-turn-eq0-via-then-turn-eq0 v ↦ first_marked keys xs sorted firsts turn b below c.index.ensures (λ after. absurd (omega (arith, after, v.if-turn-eq0.true))) c.loop-turn.invariant
            | then-turn-eq0-via-else-turn-eq0+then-ne v ↦
                first_marked keys xs sorted firsts turn b below c.index.ensures
                (λ after. same_unless keys turn b v.index-else-turn-eq0.result.now v.ne.result below v.index-else-turn-eq0.ensures v.ne.ensures ∙ ap not v.if-ne.true) c.loop-turn.invariant
          ])
      | else-turn-eq0+else-ne w ↦
          rw w.firsts-is (same_passed keys xs sorted firsts turn b below c.index.ensures (omega (arith, w.if-turn-eq0.false))
          (same_unless keys turn b w.index-else-turn-eq0.result.now w.ne.result below w.index-else-turn-eq0.ensures w.ne.ensures ∙ ap not w.if-ne.false) c.loop-turn.invariant)
    ]

pub returns-clause-firsts : goal.returns-clause-firsts
returns-clause-firsts c =
    let sorted = sorted_so c.in_ok-keys.keys.items c.sort_unstable.new.self.items c.args.attributes.now c.in_ok-keys.ensures c.sort_unstable.ensures.permutation c.sort_unstable.ensures.sorted in
    all_marked c.sort_unstable.new.self.items c.args.attributes.now sorted c.loop-turn.firsts.items c.loop-turn.turn (omega (arith, c.loop-turn-test.false, c.len-turn-end.ensures)) c.loop-turn.invariant
