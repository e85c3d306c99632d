-- The operations that a printer shows, beside those that are read.
use Rattle.std.proofs.Common.{◌≡◌, ◌||◌, ◌==◌, Bool, true, false, if◌then◌else◌, Option, Some, is_some, refl}
use Rattle.account_asks.specs.declared.operation.Operation.{Operation}
use Rattle.account_asks.specs.declared.operation.Operation.TheVariants.{PrintJob, ValidateJob, CreateJob, SendDocument, CancelJob, GetJobAttributes, GetJobs, GetPrinterAttributes, HoldJob, ReleaseJob}
use Rattle.account_machine.specs.OperationLaws.{ShownAreServed}

one_more : (is : Bool) (operation : Operation) (shown : Bool) (served : Option Operation) → shown ≡ is_some served → (is || shown) ≡ is_some (if is then Some operation else served)
one_more true operation shown served same = refl
one_more false operation shown served same = same

pub shown_are_served : ShownAreServed
shown_are_served id =
    one_more (id == 2) PrintJob _ _ (one_more (id == 4) ValidateJob _ _ (one_more (id == 5) CreateJob _ _ (one_more (id == 6) SendDocument _ _ (one_more (id == 8) CancelJob _ _
    (one_more (id == 9) GetJobAttributes _ _ (one_more (id == 10) GetJobs _ _ (one_more (id == 11) GetPrinterAttributes _ _ (one_more (id == 12) HoldJob _ _ (one_more (id == 13) ReleaseJob _ _ refl)))))))))
