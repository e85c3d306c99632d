use Rattle.std.proofs.Common.{◌≡◌, ◌++◌, map}
use Rattle.std.specs.Vec.Iter.{into_iter_items}
use Rattle.account_replies.specs.Parts.{part_of}
use Rattle.store_events.proofs.stations.parts.Given as goal

-- what was pushed, and then what is left
abbrev pub invariant-loop-document : goal.invariant-loop-document
invariant-loop-document l = map (part_of l.copies) l.fn.documents ≡ l.items.items ++ map (part_of l.copies) (into_iter_items l.document-iterator)
