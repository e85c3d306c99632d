use Rattle.std.proofs.Common.{◌≡◌, ◌++◌, flat_map, option_to_list}
use Rattle.std.specs.Array.Iter.{array_into_iter_items}
use Rattle.rows_statements.proofs.documents.in_order.Given as goal

-- what was pushed, and then what is left
abbrev pub invariant-loop-place : goal.invariant-loop-place
invariant-loop-place l = flat_map option_to_list l.fn.places ≡ l.items.items ++ flat_map option_to_list (array_into_iter_items l.place-iterator)
