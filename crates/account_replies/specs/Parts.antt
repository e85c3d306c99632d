-- Rule: A document as it is handed to a device (this project's own).
use Rattle.std.specs.Prelude.{ℕ, length}
use Rattle.account_rules.specs.declared.job.Document.{Document}
use Rattle.account_replies.specs.declared.part.Part.{Part}
use Rattle.account_replies.specs.Lines.{success_text}
use Rattle.account_replies.specs.declared.station_line.Success.TheVariants.{Started}

abbrev pub part_of : (copies : ℕ) (document : Document) → Part
part_of copies document = record {
  line = success_text (Started document.job copies document.format (length document.bytes));
  bytes = document.bytes;
}
