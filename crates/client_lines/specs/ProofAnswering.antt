-- For the proof of the code alone: how one answer, document or record is heard and printed.
use Rattle.std.specs.Prelude.{◌≡◌, ℕ, List, ◌++◌, All, codes, decimal, length, Some, IfSome}
use Rattle.std.specs.List.{flat_map}
use Rattle.std.specs.Io.KnownBytes.{Appends, Consumes}
use Rattle.input_fields.specs.declared.grant_line.GrantLine.{GrantLine}
use Rattle.client_lines.specs.declared.answer.Answer.{Answer}
use Rattle.client_lines.specs.Answers.{answer_said}
use Rattle.client_lines.specs.GrantReplies.{AnswersLine, line_heard, line_printed}
use Rattle.client_lines.specs.Replies.{Document, IsDocumentOf, IsOfJob, IsReply, IsText, Known, Reply, Shows, document_heard, document_printed, documents_printed, documents_said, heard, lines_said, printed, printed_as, whole_line, whole_lines}

-- one answer to the line was heard and printed
pub record AnsweredOnce (shown : Shows) (heard_before heard_after : Known)
    (printed_before printed_after : Known) (asked : List ℕ) (answer : Answer) : Type 0 where
  pub reply : Reply
  pub asks : reply.asked ≡ asked
  pub said : IsReply reply
  pub heard_whole : Consumes heard_before heard_after (heard reply)
  pub printed_whole : IfSome (printed shown reply) (Appends printed_before printed_after)
  pub came_to : answer ≡ reply.says

-- a line was sent, and its answer heard and printed
abbrev pub SentAndAnswered : (shown : Shows) (sent_before sent_after : Known)
    → (heard_before heard_after : Known) (printed_before printed_after : Known) → Answer → Type 0
SentAndAnswered shown sent_before sent_after heard_before heard_after printed_before printed_after
    answer = (asked : List ℕ) × Appends sent_before sent_after (asked ++ codes "\n")
    × AnsweredOnce shown heard_before heard_after printed_before printed_after asked answer

-- so many documents of the job were heard and printed
abbrev pub TakesDocuments : (shown : Shows) (heard_before heard_after : Known)
    → (printed_before printed_after : Known) (account : List ℕ) (job count : ℕ) → Type 0
TakesDocuments shown heard_before heard_after printed_before printed_after account job count =
    (documents : List Document) × (length documents ≡ count)
    × Consumes heard_before heard_after (flat_map document_heard documents)
    × IfSome (documents_printed shown account job 1 documents)
    (Appends printed_before printed_after) × All (IsDocumentOf job) documents

-- the document of the number was
abbrev pub HearsDocument : (shown : Shows) (heard_before heard_after : Known)
    → (printed_before printed_after : Known) (account : List ℕ) (job number : ℕ) → Type 0
HearsDocument shown heard_before heard_after printed_before printed_after account job number =
    (document : Document) × Consumes heard_before heard_after (document_heard document)
    × IfSome (document_printed shown account job number document)
    (Appends printed_before printed_after) × IsDocumentOf job document

-- so many lines were heard and printed
pub record TakesLines (heard_before heard_after : Known) (printed_before printed_after : Known)
    (count : ℕ) : Type 0 where
  pub lines : List (List ℕ)
  pub line_count : length lines ≡ count
  pub each_text : All IsText lines
  pub heard_whole : Consumes heard_before heard_after (flat_map whole_line lines)
  pub printed_whole : Appends printed_before printed_after (flat_map whole_line lines)

-- the answer of the text to the line was printed, and what follows the text heard
pub record PrintsAnswer (shown : Shows) (heard_before heard_after : Known)
    (printed_before printed_after : Known) (asked text : List ℕ) (says : Answer) : Type 0 where
  pub lines : List (List ℕ)
  pub line_count : length lines ≡ lines_said says
  pub each_text : All IsText lines
  pub account : List ℕ
  pub job : ℕ
  pub of_job : IsOfJob says asked account job
  pub documents : List Document
  pub count : length documents ≡ documents_said says
  pub each : All (IsDocumentOf job) documents
  pub heard_rest : Consumes heard_before heard_after
      (flat_map whole_line lines ++ flat_map document_heard documents)
  pub printed_whole : IfSome (printed_as says (documents_printed shown account job 1 documents)
      (Some (whole_lines text lines))) (Appends printed_before printed_after)

-- the answer to the record of the number was heard and printed, or it is bad and `bad` was
pub record GrantAnswered (asked : GrantLine) (number : ℕ) (heard_before heard_after : Known)
    (printed_before printed_after : Known) (says : Answer) : Type 0 where
  pub line : List ℕ
  pub said : AnswersLine asked line says
  pub heard : Consumes heard_before heard_after (line_heard asked line)
  pub printed : Appends printed_before printed_after (line_printed number asked line)

-- an answer was heard, and printed after the number of its record
abbrev pub HearsResult : (number : ℕ) (heard_before heard_after : Known)
    → (printed_before printed_after : Known) → Answer → Type 0
HearsResult number heard_before heard_after printed_before printed_after says =
    (line : List ℕ) × (answer_said line ≡ Some says)
    × Consumes heard_before heard_after (line ++ codes "\n")
    × Appends printed_before printed_after ((decimal number ++ codes " ") ++ (line ++ codes "\n"))
