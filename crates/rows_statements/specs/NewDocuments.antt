-- A document that is to be inserted, as a document of its job (all this project's own).
use Rattle.std.specs.Prelude.{ℕ, Option, option_map}
use Rattle.account_rules.specs.declared.job.Document.{Document}
use Rattle.rows_statements.specs.declared.new_document.NewDocument.{NewDocument}

abbrev pub document_of : (job : ℕ) (it : NewDocument) → Document
document_of job it = record {
  job = job;
  number = it.number;
  format = it.format;
  bytes = it.bytes.now;
}

abbrev pub first_of : (job : ℕ) (it : Option NewDocument) → Option Document
first_of job it = option_map (document_of job) it
