use Rattle.std.proofs.Common.{◌≡◌, ◌-◌, take}
use Rattle.std.specs.List.{sum_by}
use Rattle.page_pages.specs.Movements.{pages_within}
use Rattle.page_pages.proofs.movement.granted_before.Given as goal

-- less what the grants so far gave
abbrev pub invariant-loop-grant : goal.invariant-loop-grant
invariant-loop-grant l = l.rest ≡ l.fn.granted - sum_by (pages_within l.fn.first l.fn.last) (take l.grant-index l.grants)
