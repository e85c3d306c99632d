-- Rule: What came of the last act, told at the head of the owner's page.
use Rattle.std.specs.Prelude.{ℕ, List, [], ◌∷◌, ◌++◌, Option, Some, None, codes}
use Rattle.account_rules.specs.declared.refusal.Word.{Word}
use Rattle.page_markup.specs.Parts.{Part, html, Mark, Number}
use Rattle.page_pages.specs.Reasons.{reason}
use Rattle.page_pages.specs.declared.markup.TheConstants.{END_OF_NOTE}
use Rattle.page_pages.specs.declared.outcome.Act.{Act}
use Rattle.page_pages.specs.declared.outcome.Act.TheVariants.{Release, Hold, Cancel, Print}
use Rattle.page_pages.specs.declared.outcome.Outcome.{Outcome}
use Rattle.page_pages.specs.declared.outcome.Outcome.TheVariants.{Done, Refused, Failed}
use Rattle.page_pages.specs.declared.texts.TheConstants.{DONE_CANCEL, DONE_HOLD, DONE_PRINT, DONE_RELEASE, JOB, NOT_CANCEL, NOT_DONE, NOT_HOLD, NOT_PRINT, NOT_RELEASE, THEN_CANCEL, THEN_HOLD, THEN_PRINT, THEN_RELEASE, TRY_AGAIN}

-- ---- words of an act

abbrev pub done : Act → List ℕ
done Release = DONE_RELEASE.now
done Hold = DONE_HOLD.now
done Cancel = DONE_CANCEL.now
done Print = DONE_PRINT.now

-- what follows once the act was done
abbrev pub next_of : Act → List ℕ
next_of Release = THEN_RELEASE.now
next_of Hold = THEN_HOLD.now
next_of Cancel = THEN_CANCEL.now
next_of Print = THEN_PRINT.now

abbrev pub not_done : Act → List ℕ
not_done Release = NOT_RELEASE.now
not_done Hold = NOT_HOLD.now
not_done Cancel = NOT_CANCEL.now
not_done Print = NOT_PRINT.now

-- ---- the sentences

-- that an act was done, and what follows
unfoldable pub done_note : (number : ℕ) (said next : List ℕ) → List Part
done_note number said next =
    Mark (codes "<div class=\"note good\" role=\"status\">")
    ∷ Mark (codes "<svg class=\"sign\" aria-hidden=\"true\"><use href=\"#done\"/></svg>")
    ∷ Mark (codes "<p><strong>")
    ∷ Mark JOB.now
    ∷ Mark (codes " ")
    ∷ Number number
    ∷ Mark said
    ∷ Mark (codes "</strong> ")
    ∷ Mark next
    ∷ Mark (codes "</p></div>\n")
    ∷ []

-- what was not done with a job
unfoldable pub refused_job : (number : ℕ) (said : List ℕ) → List Part
refused_job number said =
    Mark (codes "<div class=\"note\" role=\"alert\">")
    ∷ Mark (codes "<svg class=\"sign\" aria-hidden=\"true\"><use href=\"#failed\"/></svg>")
    ∷ Mark (codes "<p><strong>")
    ∷ Mark JOB.now
    ∷ Mark (codes " ")
    ∷ Number number
    ∷ Mark said
    ∷ Mark (codes "</strong> ")
    ∷ []

-- that a file was not taken
unfoldable pub refused_file : List Part
refused_file =
    Mark (codes "<div class=\"note\" role=\"alert\">")
    ∷ Mark (codes "<svg class=\"sign\" aria-hidden=\"true\"><use href=\"#failed\"/></svg>")
    ∷ Mark (codes "<p><strong>")
    ∷ Mark NOT_PRINT.now
    ∷ Mark (codes "</strong> ")
    ∷ []

-- that the store failed
unfoldable pub failed_note : List Part
failed_note =
    Mark (codes "<div class=\"note\" role=\"alert\">")
    ∷ Mark (codes "<svg class=\"sign\" aria-hidden=\"true\"><use href=\"#failed\"/></svg>")
    ∷ Mark (codes "<p><strong>")
    ∷ Mark NOT_DONE.now
    ∷ Mark (codes "</strong> ")
    ∷ Mark TRY_AGAIN.now
    ∷ Mark (codes "</p></div>\n")
    ∷ []

-- where printing is refused there is no job to name
abbrev pub refused_start : Act → (number : ℕ) → List ℕ
refused_start Release number = html (refused_job number NOT_RELEASE.now)
refused_start Hold number = html (refused_job number NOT_HOLD.now)
refused_start Cancel number = html (refused_job number NOT_CANCEL.now)
refused_start Print number = html refused_file

unfoldable pub refused : Act → (number : ℕ) → Word → List ℕ
refused act number word = refused_start act number ++ (reason word ++ END_OF_NOTE.now)

abbrev pub told : Outcome → List ℕ
told (Done act number) = html (done_note number (done act) (next_of act))
told (Refused act number word) = refused act number word
told Failed = html failed_note

abbrev pub outcome_if_any : Option Outcome → List ℕ
outcome_if_any None = []
outcome_if_any (Some it) = told it
