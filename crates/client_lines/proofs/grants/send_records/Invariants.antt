use Rattle.std.proofs.Common.{◌≡◌, ◌≤◌, length, take}
use Rattle.std.specs.Io.KnownBytes.{Appends}
use Rattle.client_lines.specs.GrantReplies.{GrantsAnswered}
use Rattle.client_lines.specs.Grants.{records_sent}
use Rattle.client_lines.proofs.grants.send_records.Given as goal

abbrev pub invariant-loop-index : goal.invariant-loop-index
invariant-loop-index g l = Appends (g.W.Write.contents l.initial.peer.writer)
    (g.W.Write.contents l.peer.writer) (records_sent (take l.index l.records))
    × ((done : GrantsAnswered (take l.index l.records)
    (g.R.Read.remaining l.initial.peer.reader) (g.R.Read.remaining l.peer.reader)
    (g.O.Write.contents l.initial.output) (g.O.Write.contents l.output) l.outcome)
    × (l.index ≡ length done.all))
    × (l.outcome.refused ≤ l.index)
