use Rattle.std.proofs.Common.{◌≡◌, ◌++◌, take, flat_map}
use Rattle.page_pages.specs.DeskGrants.{grant_item}
use Rattle.page_pages.proofs.desk_grants.put_grant_items.Given as goal

-- the rows so far
abbrev pub invariant-loop-grant : goal.invariant-loop-grant
invariant-loop-grant l = l.out.items ≡ l.fn.out.items ++ flat_map grant_item (take l.grant-index l.grants)
