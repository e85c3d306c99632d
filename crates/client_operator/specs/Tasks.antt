-- Rule: What each task of an operator sends, hears and prints (this project's own).
use Rattle.std.specs.Prelude.{◌≡◌, ℕ, Bool, true, Some, codes}
use Rattle.client_operator.specs.Devices.{ReportsDevices}
use Rattle.client_operator.specs.Expiry.{Expires}
use Rattle.client_operator.specs.Refunds.{Refunds}
use Rattle.client_operator.specs.Reports.{ReportsAccount, report_head}
use Rattle.client_operator.specs.Tables.{PrintsTable}
use Rattle.client_operator.specs.Talks.{At, EndsProcess, GetsDone}
use Rattle.client_operator.specs.Waiting.{ListsAccount, waiting_head}
use Rattle.client_operator.specs.declared.task.Task.{Task}
use Rattle.client_operator.specs.declared.task.Task.TheVariants as task

-- what was sent, heard and printed of a task at the moment now, and whether all of it was done
abbrev pub Performs : Task → (now : ℕ) (done : Bool) (from to : At) → Type 0
Performs task.Ping now done from to = GetsDone from to (codes "ping") × (done ≡ true)
Performs task.End now done from to = EndsProcess from to × (done ≡ true)
Performs (task.Report month) now done from to =
    PrintsTable report_head (ReportsAccount month.month) from to × (done ≡ true)
Performs task.Devices now done from to = ReportsDevices from to × (done ≡ true)
Performs (task.Waiting days) now done from to =
    PrintsTable waiting_head (ListsAccount (record { days = days; now = now })) from to × (done ≡ true)
Performs (task.Expire days shown_only) now done from to =
    Expires (record { age = record { days = Some days; now = now }; shown_only = shown_only }) done from to
Performs (task.Refund account pages) now done from to = Refunds account pages from to × (done ≡ true)
