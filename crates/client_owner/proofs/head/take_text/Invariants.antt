use Rattle.std.proofs.Common.{◌≤◌, ◌-◌, length}
use Rattle.std.specs.Io.KnownBytes.{Consumes}
use Rattle.input_http.specs.Limits.{longest_head}
use Rattle.client_owner.proofs.head.take_text.Given as goal

abbrev pub invariant-loop-byte : goal.invariant-loop-byte
invariant-loop-byte g l = (length l.text.items ≤ longest_head)
    × Consumes (g.R.Read.remaining l.initial.reader) (g.R.Read.remaining l.reader) l.text.items

abbrev pub decreases-loop-byte : goal.decreases-loop-byte
decreases-loop-byte g l = longest_head - length l.text.items
