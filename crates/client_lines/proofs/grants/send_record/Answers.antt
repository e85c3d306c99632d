use Rattle.std.proofs.Common.{◌++◌, codes, sym, subst}
use Rattle.std.specs.Io.KnownBytes.{Appends}
use Rattle.client_lines.specs.Sending.{AppendsUpTo}
use Rattle.client_lines.proofs.Fronts.{AppendsUpTo-whole}
use Rattle.client_lines.proofs.PrintedGrants.{GrantAnswered-bad, GrantAnswered-good}
use Rattle.client_lines.proofs.Refused.{IfOk-map, OnOk-of}
use Rattle.client_lines.proofs.SentRecords.{record_sent-line}
use Rattle.client_lines.proofs.grants.send_record.Goals as goal

pub returns-in_err-say-clause-front : goal.returns-in_err-say-clause-front
returns-in_err-say-clause-front g c =
    let asked = rw c.in-Some.is at c.in_ok-line.ensures in
    let front = rw c.as_slice.ensures.value at c.in_err-say.ensures.front in
    subst (AppendsUpTo _ _) (sym (record_sent-line c.args.said.now c.in-Some.line.items asked)) front

pub returns-clause-front : goal.returns-clause-front
returns-clause-front g c =
    let asked = rw c.in-Some.is at c.in_ok-line.ensures in
    let sent = rw (c.as_slice.ensures.value, ← c.take_result.ensures.writer) at c.in_ok-say.ensures.sent in
    subst (AppendsUpTo _ _) (sym (record_sent-line c.args.said.now c.in-Some.line.items asked))
    (AppendsUpTo-whole _ _ (c.in-Some.line.items ++ codes "\n") sent)

pub returns-clause-sent : goal.returns-clause-sent
returns-clause-sent g c =
    let asked = rw c.in-Some.is at c.in_ok-line.ensures in
    let sent = rw (c.as_slice.ensures.value, ← c.take_result.ensures.writer) at c.in_ok-say.ensures.sent in
    OnOk-of c.take_result.result _
    (subst (Appends _ _) (sym (record_sent-line c.args.said.now c.in-Some.line.items asked)) sent)

pub returns-in_default-clause-answered : goal.returns-in_default-clause-answered
returns-in_default-clause-answered g c =
    let bad = rw c.in_default.is at c.in_ok-line.ensures in
    GrantAnswered-bad c.args.said.now c.args.number _ _ _ bad c.in_ok-print_bad.ensures.printed

pub returns-clause-answered : goal.returns-clause-answered
returns-clause-answered g c =
    let asked = rw c.in-Some.is at c.in_ok-line.ensures in
    let heard = rw c.in_ok-say.ensures.reader at c.take_result.ensures.heard in
    IfOk-map c.take_result.result _ _
    (λ says hears. GrantAnswered-good c.args.said.now c.in-Some.line.items c.args.number _ _ _ _ says asked hears)
    heard
