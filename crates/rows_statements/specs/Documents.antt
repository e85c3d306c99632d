-- The documents of a job, as they are read from the rows of the table `document` (all this
-- project's own).
use Rattle.std.specs.Prelude.{◌≡◌, ℕ, ◌-◌, ◌≤◌, Bool, List, [], ◌∷◌, length, map, filter, Option, Some, slice_set}
use Rattle.sqlite_value.specs.declared.value.Value.TheVariants.{Null, Text, Blob}
use Rattle.sqlite_value.specs.Order.{Row, column}
use Rattle.sqlite_value.specs.Keys.{plain}
use Rattle.sqlite_schema.specs.Rules.{agree}
use Rattle.sqlite.specs.Effect.{Database}
use Rattle.account_rules.specs.Formats.{media_type}
use Rattle.account_rules.specs.Limits.{longest_document, most_documents}
use Rattle.account_rules.specs.declared.job.Document.{Document}
use Rattle.rows_tables.specs.Places.{document_column, job_places}
use Rattle.rows_tables.specs.Tables.{document as document_table}
use Rattle.rows_tables.specs.Cells.{number}
use Rattle.rows_statements.specs.declared.documents.Found.{Found}

-- the row, its row number first, is of a document of the job
abbrev pub is_of_job : (name : List ℕ) (job : ℕ) (row : Row) → Bool
is_of_job name job row =
    agree plain job_places row job_places (Null ∷ Text name ∷ number job ∷ [])

-- what is shown of the documents of the job: of each the columns after that of the job
abbrev pub shown_documents : (db : Database) (name : List ℕ) (job : ℕ) → List Row
shown_documents db name job = map (λ row. column row document_column.number
    ∷ column row document_column.format ∷ column row document_column.bytes ∷ [])
    (filter (is_of_job name job) (db.trees document_table.tree))

-- what is shown tells the document
pub record ShowsDocument (row : Row) (document : Document) : Type 0 where
  pub number : column row 0 ≡ number document.number
  pub format : column row 1 ≡ Text (media_type document.format)
  pub bytes : column row 2 ≡ Blob document.bytes

-- in the ranges that a document of the job keeps
pub record IsDocumentOf (job : ℕ) (document : Document) : Type 0 where
  pub of_job : document.job ≡ job
  pub from_one : 1 ≤ document.number
  pub to_last : document.number ≤ most_documents
  pub fits : length document.bytes ≤ longest_document

-- ---- the documents of a job in places, that of the number 1 in the first

-- the row tells a document of the job, which is put in its place
pub record GathersDocument (job : ℕ) (first : List (Option Document)) (row : Row)
    (last : List (Option Document)) : Type 0 where
  pub document : Document
  pub told : ShowsDocument row document
  pub in_range : IsDocumentOf job document
  pub put : last ≡ slice_set first (document.number - 1) (Some document)

-- as a walk over the documents gathers it: the job stays
abbrev pub gathers_document : Found → Row → Found → Type 0
gathers_document first row last =
    (last.job ≡ first.job) × GathersDocument first.job first.places row last.places

abbrev pub refuses_document : (job : ℕ) (row : Row) → Type 0
refuses_document job row =
    (document : Document) → IsDocumentOf job document → ShowsDocument row document → ⊥
