use Rattle.client_operator.specs.Reports.{ReportsAccount, report_head}
use Rattle.client_operator.proofs.Reported.{PrintsTable-of}
use Rattle.client_operator.proofs.report.report.Goals as goal

pub returns : goal.returns
returns g c =
    PrintsTable-of report_head (ReportsAccount c.args.month.month) c.in_ok-names.names.items
    c.as_slice.result.now _ _ _ _ _ _ _ c.as_slice.ensures.value (c.in_ok-names.ensures _)
    c.in_ok-print_head.ensures c.in_ok-report_each.ensures c.in_ok-flush.ensures.bytes
