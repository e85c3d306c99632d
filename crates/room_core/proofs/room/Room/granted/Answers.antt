use Rattle.std.proofs.Common.{◌≡◌, ◌≤◌, pos, refl, sym, ap, subst, ◌∙◌, arith}
use Rattle.std.proofs.lemmas.Int.{ints}
use Rattle.account_rules.specs.Limits.{most_units}
use Rattle.account_state.specs.RoomRules.{IsRoom}
use Rattle.account_state.specs.Sums.{granted_to}
use Rattle.room_core.proofs.GrantLists.{granted_seen}
use Rattle.account_state.proofs.Bounds.{granted_bound}
use Rattle.room_core.proofs.room.Room.granted.Goals as goal

pub pages_up_to-requires : goal.pages_up_to-requires
pages_up_to-requires c = subst (λ n. n ≤ most_units) (granted_seen _ _ c.self.inside.grants _ c.args.month c.self.view_is refl c.as_slice.ensures c.self.invariant.2)
    (granted_bound c.args.self.now c.args.month (subst IsRoom c.self.view_is c.self.invariant.3))

pub returns-clause-granted : goal.returns-clause-granted
returns-clause-granted c =
    let is : c.pages_up_to.result ≡ pos (granted_to c.args.self.now c.args.month) = c.pages_up_to.ensures
    ∙ ap pos (sym (granted_seen _ _ c.self.inside.grants _ c.args.month c.self.view_is refl c.as_slice.ensures c.self.invariant.2)) in
    let few : granted_to c.args.self.now c.args.month ≤ most_units = granted_bound c.args.self.now c.args.month (subst IsRoom c.self.view_is c.self.invariant.3) in
    omega (arith, ints)

pub returns-clause-bound : goal.returns-clause-bound
returns-clause-bound c = granted_bound c.args.self.now c.args.month (subst IsRoom c.self.view_is c.self.invariant.3)
