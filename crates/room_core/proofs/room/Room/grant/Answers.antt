use Rattle.std.proofs.Common.{◌≡◌, sym, ap, subst, ◌∙◌, ◌==◌, option_map}
use Rattle.std.specs.List.{find as first}
use Rattle.std.specs.FinMap.{get}
use Rattle.account_rules.specs.declared.account.Grant.{Grant}
use Rattle.account_state.specs.Rooms.{RoomValue}
use Rattle.account_state.specs.RoomRules.{IsRoom, IsGrant}
use Rattle.room_core.proofs.GrantLists.{get_pages}
use Rattle.room_core.proofs.Lookups.{value_keeps}
use Rattle.room_core.proofs.room.Room.grant.Goals as goal

found : (c : goal.After-find_pages) → c.find_pages.result ≡ get c.args.self.now.grants c.args.month
found c = c.find_pages.ensures ∙ ap (λ grants. option_map (λ (grant : Grant). grant.pages) (first (λ (grant : Grant). grant.month == c.args.month) grants)) c.as_slice.ensures
    ∙ sym (get_pages c.self.inside.grants c.args.month) ∙ ap (λ (room : RoomValue). get room.grants c.args.month) c.self.view_is

pub returns-clause-grant : goal.returns-clause-grant
returns-clause-grant c = found c

pub returns-clause-by_the_rules : goal.returns-clause-by_the_rules
returns-clause-by_the_rules c = value_keeps (IsGrant c.args.month) c.find_pages.result _ (found c) ((subst IsRoom c.self.view_is c.self.invariant.3).grants c.args.month)
