-- For the proof of the code alone: where in the table of a job's attributes an attribute of the
-- program stands, and the attributes that were picked of it.
use Rattle.std.specs.Prelude.{ℕ, Bool, List, [], map, Option, slice_index_or}
use Rattle.std.specs.List.{flat_map}
use Rattle.ipp_coding.specs.Plain.{PlainGroup}
use Rattle.ipp_coding.specs.Spelling.{attribute_spelling}
use Rattle.account_rules.specs.declared.job.Job.{Job}
use Rattle.account_replies.specs.declared.job.JobAttribute.{JobAttribute}
use Rattle.account_replies.specs.declared.job.JobAttribute.TheVariants as attribute
use Rattle.account_replies.specs.JobAttributes.{described, job_attributes}
use Rattle.account_replies.specs.Places.{PlainPlace}
use Rattle.account_replies.specs.ProofRowTexts.{picked}
use Rattle.account_replies.specs.Tables.{ShownRow, is_wanted, row_attribute}

-- which attributes of the table are wanted, one by one
abbrev pub wanted_rows : Option (List (List ℕ)) → List Bool
wanted_rows wanted =
    map (λ (row : ShownRow Job). is_wanted wanted row.name row.group) job_attributes

-- the group of a job, with the attributes of it that were picked before, by a flag for each
abbrev pub selected_group : (at : PlainPlace) (job : Job) (flags : List Bool) → PlainGroup
selected_group at job flags = record {
  tag = 0x02;
  attributes = map (row_attribute at job) (picked flags job_attributes);
}

abbrev pub job_place : JobAttribute → ℕ
job_place attribute.Uri = 0
job_place attribute.Id = 1
job_place attribute.PrinterUri = 2
job_place attribute.Name = 3
job_place attribute.UserName = 4
job_place attribute.State = 5
job_place attribute.StateReasons = 6
job_place attribute.Documents = 7
job_place attribute.Impressions = 8
job_place attribute.ImpressionsCompleted = 9
job_place attribute.Created = 10
job_place attribute.Started = 11
job_place attribute.Ended = 12
job_place attribute.UpTime = 13
job_place attribute.Charset = 14
job_place attribute.NaturalLanguage = 15
job_place attribute.Copies = 16
job_place attribute.HoldUntil = 17

abbrev pub job_row : JobAttribute → ShownRow Job
job_row attribute =
    slice_index_or job_attributes (job_place attribute) (described [] (λ at job. []))

-- the attributes of the program whose flag is set
abbrev pub picked_text : (at : PlainPlace) (job : Job) (flags : List Bool)
    (attributes : List JobAttribute) → List ℕ
picked_text at job flags attributes =
    flat_map
    (λ (a : JobAttribute). attribute_spelling (row_attribute at job (job_row a)))
    (picked flags attributes)
