-- What a station is answered that asks for a job's documents again, by what was told (this
-- project's own).
use Rattle.std.specs.Prelude.{ℕ, Bool, false, not, bytes_eq, List, [], ◌∷◌, ◌++◌}
use Rattle.account_laws.specs.AccountsTold.{AccountTold}
use Rattle.account_laws.specs.JobsTold.{JobTold, Stage, Prints, is_printing, is_stopping}
use Rattle.account_laws.specs.LinesTold.{IsAnswered}
use Rattle.account_laws.specs.Refusals.{Check, first_refusal}
use Rattle.account_laws.specs.StationAnswers.{account_checks, device_checks, documents_told, job_checks, line_of, with_its_job}
use Rattle.account_machine.specs.declared.event.Reply.{Reply}
use Rattle.account_questions.specs.declared.question.About.TheVariants.{Again}
use Rattle.account_questions.specs.declared.question.Question.TheVariants.{Account}
use Rattle.account_rules.specs.declared.refusal.Word.{Word}
use Rattle.account_rules.specs.declared.refusal.Word.TheVariants.{NotProcessing, OtherDevice, Stopping}

abbrev pub is_printed_elsewhere : (device : List ℕ) → Stage → Bool
is_printed_elsewhere device (Prints by rate units since is_canceled) = not (bytes_eq by device)
is_printed_elsewhere device _ = false

-- this device prints it, and nobody canceled it meanwhile
abbrev pub again_checks : (device : List ℕ) → Stage → List (Check Word)
again_checks device stage =
    (not (is_printing stage), NotProcessing)
    ∷ (is_printed_elsewhere device stage, OtherDevice)
    ∷ (is_stopping stage, Stopping)
    ∷ []

-- as when it was started
abbrev pub again_answer : (device : List ℕ) (number : ℕ) (told : AccountTold) → Reply
again_answer device number told =
    line_of
    (first_refusal
    (account_checks told
    (device_checks told device
    ++ job_checks told number (λ (job : JobTold). again_checks device job.stage))))
    (with_its_job told number (documents_told number))

abbrev pub AgainIsTold : Type 0
AgainIsTold = (account device : List ℕ) (number : ℕ)
    → IsAnswered (Account account (Again device number)) (again_answer device number)
