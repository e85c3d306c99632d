-- The operations of the profile: their ids, and which of them is for what (RFC 8011 sections 4.2,
-- 4.3 and 5.4.15).
use Rattle.std.specs.Prelude.{◌≡◌, ◌⊎◌, ℕ, List, [], ◌∷◌}
use Rattle.account_asks.specs.declared.operation.Operation.{Operation}
use Rattle.account_asks.specs.declared.operation.Operation.TheVariants.{PrintJob, ValidateJob, CreateJob, SendDocument, CancelJob, GetJobAttributes, GetJobs, GetPrinterAttributes, HoldJob, ReleaseJob}

-- the ids (section 5.4.15)
abbrev pub id_of : Operation → ℕ
id_of PrintJob = 0x02
id_of ValidateJob = 0x04
id_of CreateJob = 0x05
id_of SendDocument = 0x06
id_of CancelJob = 0x08
id_of GetJobAttributes = 0x09
id_of GetJobs = 0x0A
id_of GetPrinterAttributes = 0x0B
id_of HoldJob = 0x0C
id_of ReleaseJob = 0x0D

-- the id of one of them
abbrev pub IsOperation : ℕ → Type 0
IsOperation id = (operation : Operation) × (id ≡ id_of operation)

-- ---- which of them

-- the operation is one of these
abbrev pub IsOneOf : (operations : List Operation) (operation : Operation) → Type 0
IsOneOf [] operation = ⊥
IsOneOf (one ∷ more) operation = (operation ≡ one) ⊎ IsOneOf more operation

-- for a job of a queue (section 4.3); any other is for the queue (section 4.2)
abbrev pub AsksJob : Operation → Type 0
AsksJob operation =
    IsOneOf (SendDocument ∷ CancelJob ∷ GetJobAttributes ∷ HoldJob ∷ ReleaseJob ∷ []) operation

-- it makes a job, or would (sections 4.2.1, 4.2.3 and 4.2.4)
abbrev pub MakesJob : Operation → Type 0
MakesJob operation = IsOneOf (PrintJob ∷ ValidateJob ∷ CreateJob ∷ []) operation

-- it tells of a document (sections 4.2.1, 4.2.3 and 4.3.1)
abbrev pub TellsOfDocument : Operation → Type 0
TellsOfDocument operation = IsOneOf (PrintJob ∷ ValidateJob ∷ SendDocument ∷ []) operation

-- it brings one (sections 4.2.1 and 4.3.1)
abbrev pub BringsDocument : Operation → Type 0
BringsDocument operation = IsOneOf (PrintJob ∷ SendDocument ∷ []) operation

-- it lists the attributes that the requester names (sections 4.3.4, 4.2.6 and 4.2.5)
abbrev pub WantsAttributes : Operation → Type 0
WantsAttributes operation =
    IsOneOf (GetJobAttributes ∷ GetJobs ∷ GetPrinterAttributes ∷ []) operation

-- this holds of an operation that is so, and that of any other
abbrev pub Whether : (IsSo This That : Type 0) → Type 0
Whether IsSo This That = (IsSo × This) ⊎ ((IsSo → ⊥) × That)
