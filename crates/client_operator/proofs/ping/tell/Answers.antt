use Rattle.std.proofs.lemmas.Result.{on_ok_weaker}
use Rattle.client_operator.proofs.Told.{GetsDone-of}
use Rattle.client_operator.proofs.ping.tell.Goals as goal

pub returns : goal.returns
returns g c =
    let prints = rw c.as_slice.ensures.value at c.in_ok-print_line.ensures in
    let judged = rw c.as_slice-2.ensures.value at c.judge.ensures.done in
    on_ok_weaker c.judge.result (GetsDone-of _ _ _ _ _ _ c.args.line.now c.in_ok-told.told.items
    c.in_ok-told.ensures.sent c.in_ok-told.ensures.heard prints) judged
