use Rattle.std.proofs.Common.{◌≡◌, ◌++◌, take, flat_map}
use Rattle.page_pages.specs.StatementSums.{grant_if_then}
use Rattle.page_pages.proofs.statement_sums.put_grants_then.Given as goal

-- the grants so far
abbrev pub invariant-loop-grant : goal.invariant-loop-grant
invariant-loop-grant l = l.out.items ≡ l.fn.out.items ++ flat_map (grant_if_then l.fn.first l.fn.last) (take l.grant-index l.grants)
