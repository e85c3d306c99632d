use Rattle.std.proofs.Common.{◌≤◌, length, take, subst, length-take-le}
use Rattle.std.specs.Io.BufRead.{FillKeeps}
use Rattle.std.proofs.BufReadLemmas.{Consumes_shown}
use Rattle.client_lines.proofs.line.take_piece.Goals as goal

pub returns-clause-took : goal.returns-clause-took
returns-clause-took g c =
    let rested = c.fill_buf.follows.lender-at-none in
    let filled = subst (FillKeeps _ (g.R.Read.remaining rested) (g.R.BufRead.consumable_len rested)) c.in-Ok.is c.fill_buf.follows.holds-at-none in
    let count = c.in_ok-count.count in
    let moved = Consumes_shown _ _ _ _ c.in-Ok.shown.now count c.in_ok-count.ensures.shown c.in-Ok.ensures.front c.in-Ok.ensures.end filled.0 filled.1 c.consume.ensures.bytes in
    let long : length (take count c.in-Ok.shown.now) ≤ c.args.room = rw (length-take-le count c.in-Ok.shown.now c.in_ok-count.ensures.shown) c.in_ok-count.ensures.room in
    (take count c.in-Ok.shown.now, moved.0, long, c.in_ok-count.ensures.adds)

pub returns-clause-end : goal.returns-clause-end
returns-clause-end g c = λ end.
    let rested = c.fill_buf.follows.lender-at-none in
    let filled = subst (FillKeeps _ (g.R.Read.remaining rested) (g.R.BufRead.consumable_len rested)) c.in-Ok.is c.fill_buf.follows.holds-at-none in
    let count = c.in_ok-count.count in
    let moved = Consumes_shown _ _ _ _ c.in-Ok.shown.now count c.in_ok-count.ensures.shown c.in-Ok.ensures.front c.in-Ok.ensures.end filled.0 filled.1 c.consume.ensures.bytes in
    let none = c.in_ok-count.ensures.end (cc) in
    moved.1 none
