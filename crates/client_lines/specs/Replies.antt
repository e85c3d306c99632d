-- Rule: What answers lines, what is printed of it, and what it comes to (all this project's own).
use Rattle.std.specs.Prelude.{All, ◌≡◌, ℕ, ◌+◌, List, [], ◌∷◌, ◌++◌, codes, length, IsTrue, Option, Some, IfSome, ⊤}
use Rattle.std.specs.List.{flat_map}
use Rattle.std.specs.Io.KnownBytes.{Appends, Consumes, prepend_known}
use Rattle.std.specs.Fmt.{option_append}
use Rattle.client_lines.specs.declared.answer.Answer.{Answer}
use Rattle.client_lines.specs.declared.answer.Answer.TheVariants as answer_is
use Rattle.client_lines.specs.declared.outcome.Outcome.{Outcome}
use Rattle.client_lines.specs.Answers.{answer_said, is_text}
use Rattle.client_lines.specs.Names.{document_name}
use Rattle.client_lines.specs.Outcomes.{nothing_sent, outcome_after}
use Rattle.client_lines.specs.Words.{AsksDocumentsOf, IsHeadOf}

-- bytes that may be known
abbrev pub Known : Type 0
Known = Option (List ℕ)

-- what a keeper prints of a document of the name and the bytes
abbrev pub Shows : Type 0
Shows = (name bytes : List ℕ) → Known

-- a document of an answer: its line, and its bytes
pub record Document : Type 0 where
  pub head : List ℕ
  pub bytes : List ℕ

-- an answer: the line that it answers, its first line with what that says, the lines after it, and
-- the documents after it, which are those of one job of an account
pub record Reply : Type 0 where
  pub asked : List ℕ
  pub line : List ℕ
  pub says : Answer
  pub lines : List (List ℕ)
  pub account : List ℕ
  pub job : ℕ
  pub documents : List Document

abbrev pub document_heard : Document → List ℕ
document_heard document = (document.head ++ codes "\n") ++ (document.bytes ++ codes "\n")

-- a line with the line feed that ends it
abbrev pub whole_line : (line : List ℕ) → List ℕ
whole_line line = line ++ codes "\n"

-- the first line of an answer, and those after it
abbrev pub whole_lines : (line : List ℕ) (lines : List (List ℕ)) → List ℕ
whole_lines line lines = whole_line line ++ flat_map whole_line lines

-- the bytes of an answer, as they come
abbrev pub heard : Reply → List ℕ
heard reply = whole_lines reply.line reply.lines ++ flat_map document_heard reply.documents

-- the line of a document, and what the keeper shows of it
abbrev pub document_printed : (shown : Shows)
    → (account : List ℕ) (job number : ℕ) → Document → Known
document_printed shown account job number document = prepend_known (document.head ++ codes "\n")
    (shown (document_name account job number) document.bytes)

-- the documents from this number on
abbrev pub documents_printed : (shown : Shows)
    → (account : List ℕ) (job number : ℕ) → List Document → Known
documents_printed shown account job number [] = Some []
documents_printed shown account job number (first ∷ rest) =
    option_append (document_printed shown account job number first)
    (documents_printed shown account job (number + 1) rest)

-- the documents, or the lines where it is another answer
abbrev pub printed_as : Answer → (documents lines : Known) → Known
printed_as (answer_is.Documents count) documents lines = documents
printed_as answer_is.Failed documents lines = lines
printed_as answer_is.BadLine documents lines = lines
printed_as (answer_is.Lines count) documents lines = lines
printed_as answer_is.Told documents lines = lines
printed_as answer_is.Refused documents lines = lines

-- what is printed of an answer, where it is known what the keeper shows
abbrev pub printed : (shown : Shows) → Reply → Known
printed shown reply = printed_as reply.says
    (documents_printed shown reply.account reply.job 1 reply.documents)
    (Some (whole_lines reply.line reply.lines))

-- of one answer after another
abbrev pub all_printed : (shown : Shows) → List Reply → Known
all_printed shown [] = Some []
all_printed shown (first ∷ rest) = option_append (printed shown first) (all_printed shown rest)

abbrev pub documents_said : Answer → ℕ
documents_said (answer_is.Documents count) = count
documents_said answer_is.Failed = 0
documents_said answer_is.BadLine = 0
documents_said (answer_is.Lines count) = 0
documents_said answer_is.Told = 0
documents_said answer_is.Refused = 0

abbrev pub lines_said : Answer → ℕ
lines_said (answer_is.Lines count) = count
lines_said answer_is.Failed = 0
lines_said answer_is.BadLine = 0
lines_said (answer_is.Documents count) = 0
lines_said answer_is.Told = 0
lines_said answer_is.Refused = 0

-- documents answer a line that asks for those of the job
abbrev pub IsOfJob : Answer → (asked account : List ℕ) (job : ℕ) → Type 0
IsOfJob (answer_is.Documents count) asked account job = AsksDocumentsOf asked account job
IsOfJob answer_is.Failed asked account job = ⊤
IsOfJob answer_is.BadLine asked account job = ⊤
IsOfJob (answer_is.Lines count) asked account job = ⊤
IsOfJob answer_is.Told asked account job = ⊤
IsOfJob answer_is.Refused asked account job = ⊤

-- its line tells of the job, and of as many bytes as it has
abbrev pub IsDocumentOf : (job : ℕ) → Document → Type 0
IsDocumentOf job document = IsHeadOf document.head job (length document.bytes)

-- what can be shown as it is
abbrev pub IsText : (line : List ℕ) → Type 0
IsText line = IsTrue (is_text line)

-- the line says so, and as many lines follow as it says, and as many documents, of the job that was
-- asked for
pub record IsReply (reply : Reply) : Type 0 where
  pub said : answer_said reply.line ≡ Some reply.says
  pub line_count : length reply.lines ≡ lines_said reply.says
  pub each_text : All IsText reply.lines
  pub count : length reply.documents ≡ documents_said reply.says
  pub of_job : IsOfJob reply.says reply.asked reply.account reply.job
  pub each : All (IsDocumentOf reply.job) reply.documents

-- the line that it answers, as it was sent
abbrev pub asked_of : Reply → List ℕ
asked_of reply = reply.asked ++ codes "\n"

-- what answers to lines come to, the first of which has this number
abbrev pub outcome_from : (number : ℕ) (outcome : Outcome) (replies : List Reply) → Outcome
outcome_from number outcome [] = outcome
outcome_from number outcome (first ∷ rest) =
    outcome_from (number + 1) (outcome_after outcome number first.says) rest

-- lines were sent, and their answers heard one after another and printed, and came to the outcome
pub record Answered (shown : Shows) (sent_before sent_after : Known) (heard_before heard_after : Known)
    (printed_before printed_after : Known) (outcome : Outcome) : Type 0 where
  pub replies : List Reply
  pub said : All IsReply replies
  pub sent_all : Appends sent_before sent_after (flat_map asked_of replies)
  pub heard_all : Consumes heard_before heard_after (flat_map heard replies)
  pub printed_all : IfSome (all_printed shown replies) (Appends printed_before printed_after)
  pub came_to : outcome ≡ outcome_from 1 nothing_sent replies
