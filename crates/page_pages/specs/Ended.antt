-- Rule: The jobs that ended, as a table: on the owner's page and on a statement.
use Rattle.std.specs.Prelude.{ℕ, ◌==◌, if◌then◌else◌, length, List, [], ◌∷◌, ◌++◌, Option, Some, None, codes, flat_map}
use Rattle.account_rules.specs.declared.job.Job.{Job}
use Rattle.page_pages.specs.Frames.{card, remark}
use Rattle.page_markup.specs.Parts.{Part, html, Mark, Text, Number, Ending}
use Rattle.page_pages.specs.Phases.{phase_of, sign, word}
use Rattle.page_pages.specs.declared.markup.TheConstants.{END_OF_CARD, END_OF_TABLE}
use Rattle.page_pages.specs.declared.texts.TheConstants.{DEVICE, JOB, LAST_ENDED, NOTHING_ENDED, NO_DEVICE, NUMBER, STATE, UNITS_CHARGED, WHEN_ENDED}

-- ---- a job

-- the number and the name of a job, and how it ended
unfoldable pub ended_name : (number : ℕ) (name symbol state : List ℕ) → List Part
ended_name number name symbol state =
    Mark (codes "<tr><td class=\"number\" data-label=\"")
    ∷ Mark JOB.now
    ∷ Mark (codes "\">")
    ∷ Number number
    ∷ Mark (codes "</td><th scope=\"row\"><bdi>")
    ∷ Text name
    ∷ Mark (codes "</bdi></th>\n<td><span class=\"state\">")
    ∷ Mark (codes "<svg class=\"sign\" aria-hidden=\"true\"><use href=\"#")
    ∷ Mark symbol
    ∷ Mark (codes "\"/></svg>")
    ∷ Mark state
    ∷ Mark (codes "</span></td>\n")
    ∷ []

-- where and when a job ended, and what it was charged
unfoldable pub ended_counts : (device : List ℕ) (ended : Option ℕ) (charged : ℕ) → List Part
ended_counts device ended charged =
    Mark (codes "<td data-label=\"")
    ∷ Mark DEVICE.now
    ∷ Mark (codes "\">")
    ∷ Text device
    ∷ Mark (codes "</td><td class=\"when\" data-label=\"")
    ∷ Mark WHEN_ENDED.now
    ∷ Mark (codes "\">")
    ∷ Ending ended
    ∷ Mark (codes "</td><td class=\"count\" data-label=\"")
    ∷ Mark UNITS_CHARGED.now
    ∷ Mark (codes "\">")
    ∷ Number charged
    ∷ Mark (codes "</td></tr>\n")
    ∷ []

abbrev pub device_or_none : Option (List ℕ) → List ℕ
device_or_none (Some name) = name
device_or_none None = NO_DEVICE.now

unfoldable pub ended_job : Job → List ℕ
ended_job it =
    html (ended_name it.job it.name (sign (phase_of it)) (word (phase_of it)))
    ++ html (ended_counts
    (device_or_none it.standing.device)
    it.standing.ended
    it.standing.charged)

-- ---- the table

-- the heads of the columns of jobs that ended
unfoldable pub ended_columns : List Part
ended_columns =
    Mark (codes "<table class=\"jobs dense\">\n<thead><tr><th scope=\"col\" class=\"number\">")
    ∷ Mark NUMBER.now
    ∷ Mark (codes "</th><th scope=\"col\">")
    ∷ Mark JOB.now
    ∷ Mark (codes "</th><th scope=\"col\">")
    ∷ Mark STATE.now
    ∷ Mark (codes "</th><th scope=\"col\">")
    ∷ Mark DEVICE.now
    ∷ Mark (codes "</th><th scope=\"col\">")
    ∷ Mark WHEN_ENDED.now
    ∷ Mark (codes "</th><th scope=\"col\" class=\"count\">")
    ∷ Mark UNITS_CHARGED.now
    ∷ Mark (codes "</th></tr></thead>\n<tbody>\n")
    ∷ []

abbrev pub table_of_ended : List Job → List ℕ
table_of_ended jobs =
    if length jobs == 0
    then html (remark NOTHING_ENDED.now)
    else html ended_columns ++ (flat_map ended_job jobs ++ END_OF_TABLE.now)

unfoldable pub ended_card : List Job → List ℕ
ended_card jobs =
    html (card (codes "ended") LAST_ENDED.now) ++ (table_of_ended jobs ++ END_OF_CARD.now)
