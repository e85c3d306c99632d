-- Rows of the table of job attributes.
use Rattle.std.proofs.Common.{◌≡◌, ◌≢◌, ℕ, Option, List, [], ◌∷◌, map, refl, codes}
use Rattle.account_replies.specs.declared.job.JobAttribute.{JobAttribute}
use Rattle.account_replies.specs.declared.job.JobAttribute.TheVariants as attribute
use Rattle.account_replies.specs.JobAttributes.{job_attributes}
use Rattle.account_replies.specs.ProofJobPlaces.{job_row, wanted_rows}
use Rattle.account_replies.specs.Tables.{is_wanted}

-- all but two are in the group of names `job-description`
pub job_described : (a : JobAttribute) → a ≢ attribute.Copies → a ≢ attribute.HoldUntil → (job_row a).group ≡ codes "job-description"
unfolding job_attributes
job_described attribute.Uri copies hold = refl
job_described attribute.Id copies hold = refl
job_described attribute.PrinterUri copies hold = refl
job_described attribute.Name copies hold = refl
job_described attribute.UserName copies hold = refl
job_described attribute.State copies hold = refl
job_described attribute.StateReasons copies hold = refl
job_described attribute.Documents copies hold = refl
job_described attribute.Impressions copies hold = refl
job_described attribute.ImpressionsCompleted copies hold = refl
job_described attribute.Created copies hold = refl
job_described attribute.Started copies hold = refl
job_described attribute.Ended copies hold = refl
job_described attribute.UpTime copies hold = refl
job_described attribute.Charset copies hold = refl
job_described attribute.NaturalLanguage copies hold = refl
job_described attribute.Copies copies hold = absurd (copies refl)
job_described attribute.HoldUntil copies hold = absurd (hold refl)

-- the attributes of the program, row by row, are the table
pub job_rows : map job_row (attribute.Uri ∷ attribute.Id ∷ attribute.PrinterUri ∷ attribute.Name ∷ attribute.UserName ∷ attribute.State ∷ attribute.StateReasons ∷ attribute.Documents ∷ attribute.Impressions ∷ attribute.ImpressionsCompleted ∷ attribute.Created ∷ attribute.Started ∷ attribute.Ended ∷ attribute.UpTime ∷ attribute.Charset ∷ attribute.NaturalLanguage ∷ attribute.Copies ∷ attribute.HoldUntil ∷ []) ≡ job_attributes
unfolding job_attributes
job_rows = refl

-- which attributes of the program are wanted, one by one
pub rows_wanted : (wanted : Option (List (List ℕ))) → map (λ (a : JobAttribute). is_wanted wanted (job_row a).name (job_row a).group) (attribute.Uri ∷ attribute.Id ∷ attribute.PrinterUri ∷ attribute.Name ∷ attribute.UserName ∷ attribute.State ∷ attribute.StateReasons ∷ attribute.Documents ∷ attribute.Impressions ∷ attribute.ImpressionsCompleted ∷ attribute.Created ∷ attribute.Started ∷ attribute.Ended ∷ attribute.UpTime ∷ attribute.Charset ∷ attribute.NaturalLanguage ∷ attribute.Copies ∷ attribute.HoldUntil ∷ []) ≡ wanted_rows wanted
unfolding job_attributes
rows_wanted wanted = refl
