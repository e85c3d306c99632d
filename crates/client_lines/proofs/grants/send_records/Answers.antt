use Rattle.std.proofs.Common.{◌+◌, sym, subst, rules, drop, take, suc}
use Rattle.std.specs.Io.KnownBytes.{Appends}
use Rattle.std.proofs.KnownBytes.{Appends-nil, Appends-trans}
use Rattle.client_lines.proofs.PrintedGrants.{GrantsAnswered-more, GrantsAnswered-none}
use Rattle.client_lines.specs.Grants.{record_sent, records_sent}
use Rattle.client_lines.specs.Sending.{AppendsUpTo}
use Rattle.client_lines.proofs.Fronts.{AppendsUpTo-behind, AppendsUpTo-longer}
use Rattle.client_lines.proofs.SentRecords.{records_sent-at, records_sent-more, take_one}
use Rattle.client_lines.proofs.grants.send_records.Goals as goal

pub returns-in_err-answer-clause-front : goal.returns-in_err-answer-clause-front
returns-in_err-answer-clause-front g c =
    let records = c.args.records.now in
    let index = c.loop-index.index in
    let one = c.index-records-index.result in
    subst (AppendsUpTo _ _)
    (sym (records_sent-at records index one (search rules) c.index-records-index.is))
    (AppendsUpTo-longer _ _ _ (records_sent (drop (suc index) records))
    (AppendsUpTo-behind _ _ _ (records_sent (take index records)) (record_sent one)
    c.loop-index.invariant.0 c.in_err-answer.ensures.front))

pub loop-index-init : goal.loop-index-init
loop-index-init g c = (Appends-nil _, GrantsAnswered-none _ _, search rules)

pub loop-index-preserved : goal.loop-index-preserved
loop-index-preserved g c =
    let records = c.args.records.now in
    let index = c.loop-index.index in
    let one = c.index-records-index.result in
    let step = c.in_ok-answer.ensures in
    let before = c.loop-index.invariant in
    let longer = take_one records index one (search rules) c.index-records-index.is in (
      subst (Appends _ _) (sym (records_sent-more records index one (search rules) c.index-records-index.is))
          (Appends-trans _ _ _ (records_sent (take index records)) (record_sent one) before.0 step.sent),
      GrantsAnswered-more (take index records) (take (index + 1) records) one _ _ _ _ _ _ c.loop-index.outcome _ c.in_ok-answer.answer index before.1.0 before.1.1 step.answered c.after-outcome.ensures.after longer,
      c.after-outcome.ensures.fewer,
    )
