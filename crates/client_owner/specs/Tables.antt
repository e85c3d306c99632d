-- Rule: The table of an owner's jobs (this project's own; RFC 8011 sections 5.2 and 5.3 have what
-- is told of a job).
use Rattle.std.specs.Prelude.{◌≡◌, ℕ, ◌-◌, ◌==◌, if◌then◌else◌, List, [], ◌∷◌, ◌++◌, codes, decimal, Option, Some, None, option_map}
use Rattle.ipp_coding.specs.Plain.{PlainAttribute, PlainGroup}
use Rattle.ipp_coding.specs.Reading.{◌>>=◌}
use Rattle.client_operator.specs.Csv.{record_text}
use Rattle.client_operator.specs.Shown.{shown_text}
use Rattle.client_owner.specs.Answers.{number_named, text_named}
use Rattle.client_owner.specs.declared.jobs.JobRow.{JobRow}

-- a job, as its group tells it at a moment
pub record PlainRow : Type 0 where
  pub number : ℕ
  pub state : List ℕ
  pub made : ℕ
  pub copies : ℕ
  pub impressions : Option ℕ
  pub documents : ℕ
  pub name : List ℕ

abbrev pub plain_row : JobRow → PlainRow
plain_row row = record {
  number = row.number;
  state = row.state.now;
  made = row.made;
  copies = row.copies;
  impressions = row.impressions;
  documents = row.documents;
  name = row.name.now;
}

-- the states of a job that has not ended (RFC 8011 section 5.3.7)
abbrev pub state_word : (state : ℕ) → Option (List ℕ)
state_word state =
    if state == 3 then Some (codes "pending")
    else if state == 4 then Some (codes "held")
    else if state == 5 then Some (codes "processing")
    else if state == 6 then Some (codes "stopped")
    else None

-- the moment at which it was made: as long before now as time-at-creation is before
-- job-printer-up-time
abbrev pub moment_made : (now up created : ℕ) → ℕ
moment_made now up created = now - (up - created)

unfoldable pub row_told : (now : ℕ) (attributes : List PlainAttribute) → Option PlainRow
row_told now attributes = do
  number ← number_named (codes "job-id") attributes
  code ← number_named (codes "job-state") attributes
  state ← state_word code
  created ← number_named (codes "time-at-creation") attributes
  up ← number_named (codes "job-printer-up-time") attributes
  copies ← number_named (codes "copies") attributes
  documents ← number_named (codes "number-of-documents") attributes
  name ← text_named (codes "job-name") attributes
  Some (record {
    number = number;
    state = state;
    made = moment_made now up created;
    copies = copies;
    impressions = number_named (codes "job-impressions") attributes;
    documents = documents;
    name = name;
  })

abbrev pub head_fields : List (List ℕ)
head_fields = codes "job" ∷ codes "state" ∷ codes "made" ∷ codes "copies" ∷ codes "impressions"
    ∷ codes "documents" ∷ codes "name" ∷ []

-- none is an empty field
abbrev pub number_field : Option ℕ → List ℕ
number_field None = []
number_field (Some number) = decimal number

abbrev pub row_fields : PlainRow → List (List ℕ)
row_fields row = decimal row.number ∷ row.state ∷ decimal row.made ∷ decimal row.copies
    ∷ number_field row.impressions ∷ decimal row.documents ∷ shown_text row.name ∷ []

-- a group of job attributes has the record of its job, another has none
abbrev pub record_told : (now : ℕ) → PlainGroup → Option (List ℕ)
record_told now group =
    if group.tag == 2
    then option_map (λ row. record_text (row_fields row)) (row_told now group.attributes)
    else Some []

-- behind the records that are there comes that of the job of a group
pub record ListsJob (now : ℕ) (group : PlainGroup) (before after : List ℕ) : Type 0 where
  pub line : List ℕ
  pub told : record_told now group ≡ Some line
  pub lists : after ≡ before ++ line
