use Rattle.std.proofs.Common.{◌≡◌, ◌++◌, take, flat_map}
use Rattle.page_pages.specs.Accounts.{accounts_item}
use Rattle.page_pages.proofs.accounts.put_lines.Given as goal

-- the lines so far
abbrev pub invariant-loop-line : goal.invariant-loop-line
invariant-loop-line l = l.out.items ≡ l.fn.out.items ++ flat_map accounts_item (take l.line-index l.lines)
