use Rattle.std.proofs.Common.{ap, map, sym, ◌∙◌}
use Rattle.client_operator.proofs.AskedLists.{AsksList-of}
use Rattle.client_operator.proofs.ListedJobs.{ListsAccount-of}
use Rattle.client_operator.proofs.waiting.list_account.Goals as goal

pub returns : goal.returns
returns g c =
    let asks = AsksList-of _ _ _ _ _ _ _ _ _ (c.as_slice.ensures.value ∙ c.in_ok-asked.ensures)
    (ap (map _) (sym c.as_slice-2.ensures.value)) c.in_ok-lines.ensures.sent c.in_ok-lines.ensures.heard in
    ListsAccount-of c.args.age c.args.account.now _ c.new-records.result.items c.put_jobs.new.records.items _ _ _ _
    asks c.new-records.ensures.items c.in_ok-put_jobs.ensures c.as_slice-3.ensures.value
    c.in_ok-write_all.ensures.bytes
