use Rattle.std.proofs.Common.{◌++◌, codes}
use Rattle.client_lines.proofs.Fronts.{AppendsUpTo-whole}
use Rattle.client_lines.proofs.Printed.{AnsweredOnce-kept}
use Rattle.client_lines.proofs.Refused.{OnErr-of}
use Rattle.client_lines.proofs.SentLines.{SendsFront-line, SendsOn-line}
use Rattle.client_lines.proofs.lines.send_next.Goals as goal

pub returns-in_err-say-clause-front : goal.returns-in_err-say-clause-front
returns-in_err-say-clause-front g c =
    let found = rw c.in-Some.is at c.in_ok-line.ensures.taken in
    let short = rw c.in-Some.is at c.in_ok-line.ensures.line in
    let front = rw c.as_slice.ensures.value at c.in_err-say.ensures.front in
    OnErr-of _ _ (SendsFront-line _ _ _ _ c.in-Some.line.items found short front)

pub returns-in_err-answer-clause-front : goal.returns-in_err-answer-clause-front
returns-in_err-answer-clause-front g c =
    let found = rw c.in-Some.is at c.in_ok-line.ensures.taken in
    let short = rw c.in-Some.is at c.in_ok-line.ensures.line in
    let sent = rw (c.as_slice.ensures.value, ← c.in_err-answer.ensures.writer) at c.in_ok-say.ensures.sent in
    OnErr-of _ _ (SendsFront-line _ _ _ _ c.in-Some.line.items found short
    (AppendsUpTo-whole _ _ (c.in-Some.line.items ++ codes "\n") sent))

pub returns-in_err-flush-clause-front : goal.returns-in_err-flush-clause-front
returns-in_err-flush-clause-front g c =
    let found = rw c.in-Some.is at c.in_ok-line.ensures.taken in
    let short = rw c.in-Some.is at c.in_ok-line.ensures.line in
    let sent = rw (c.as_slice.ensures.value, ← c.in_ok-answer.ensures.writer) at c.in_ok-say.ensures.sent in
    OnErr-of _ _ (SendsFront-line _ _ _ _ c.in-Some.line.items found short
    (AppendsUpTo-whole _ _ (c.in-Some.line.items ++ codes "\n") sent))

pub returns-clause-sent : goal.returns-clause-sent
returns-clause-sent g c =
    let found = rw c.in-Some.is at c.in_ok-line.ensures.taken in
    let short = rw c.in-Some.is at c.in_ok-line.ensures.line in
    let sent = rw (c.as_slice.ensures.value, ← c.in_ok-answer.ensures.writer) at c.in_ok-say.ensures.sent in
    SendsOn-line _ _ _ _ c.in-Some.line.items found short sent

pub returns-clause-answered : goal.returns-clause-answered
returns-clause-answered g c =
    let sent = rw (c.as_slice.ensures.value, ← c.in_ok-answer.ensures.writer) at c.in_ok-say.ensures.sent in
    let answered = rw (c.as_slice-2.ensures.value, c.in_ok-say.ensures.reader) at c.in_ok-answer.ensures.answered in
    (c.in-Some.line.items, sent, AnsweredOnce-kept _ _ _ _ _ _ c.in-Some.line.items c.in_ok-answer.answer answered c.in_ok-flush.ensures.bytes)
