-- What a request says by its operation (RFC 8011 sections 4.2 and 4.3). What an operation does not
-- read is as where it is absent.
use Rattle.std.specs.Prelude.{◌≡◌, false, codes, List, []}
use Rattle.ipp_coding.specs.Plain.{PlainAttribute, PlainGroup}
use Rattle.account_asks.specs.Asks.{PlainAsk}
use Rattle.account_asks.specs.declared.operation.Operation.{Operation}
use Rattle.account_asks.specs.declared.operation.Operation.TheVariants.{SendDocument, GetJobs}
use Rattle.account_laws.specs.OperationIds.{BringsDocument, MakesJob, TellsOfDocument, WantsAttributes, Whether}
use Rattle.account_laws.specs.SpelledAttributes.{IsBoolean, Says}
use Rattle.account_laws.specs.SpelledFields.{DescribesDocument, DescribesJob, DescribesList, HandsInDocument, SaysNames}

pub record SaysAll (operation : Operation) (groups : List PlainGroup)
    (attributes : List PlainAttribute) (ask : PlainAsk) : Type 0 where
  -- of a job that is to be made
  pub job : Whether (MakesJob operation)
      (DescribesJob groups attributes ask)
      (DescribesJob [] [] ask)
  -- of a document
  pub document : Whether (TellsOfDocument operation)
      (DescribesDocument attributes ask)
      (DescribesDocument [] ask)
  pub handed_in : BringsDocument operation → HandsInDocument ask
  -- Send-Document says whether it is the last (section 4.3.1)
  pub last : Whether (operation ≡ SendDocument)
      (Says IsBoolean (codes "last-document") attributes ask.last)
      (ask.last ≡ false)
  -- Get-Jobs says which jobs are to be listed (section 4.2.6)
  pub jobs : Whether (operation ≡ GetJobs) (DescribesList attributes ask) (DescribesList [] ask)
  -- and which attributes are
  pub names : Whether (WantsAttributes operation)
      (SaysNames attributes ask.wanted)
      (SaysNames [] ask.wanted)
