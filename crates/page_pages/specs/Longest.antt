-- Rule: The card of the jobs that have waited longest, on the print room's page.
use Rattle.std.specs.Prelude.{ℕ, ◌==◌, if◌then◌else◌, length, List, [], ◌∷◌, ◌++◌, codes, flat_map}
use Rattle.page_pages.specs.Frames.{card, remark}
use Rattle.page_markup.specs.Parts.{Part, html, Mark, Text, Number, Moment}
use Rattle.page_pages.specs.Phases.{sign, word}
use Rattle.page_pages.specs.declared.longest.LongestLine.{LongestLine}
use Rattle.page_pages.specs.declared.markup.TheConstants.{END_OF_CARD, END_OF_TABLE}
use Rattle.page_pages.specs.declared.texts.TheConstants.{ACCOUNT, JOB, LONGEST, NOTHING_WAITS, SINCE, STATE}

-- the row of a job that waits
unfoldable pub longest_row : (account : List ℕ) (job : ℕ) (symbol state : List ℕ) (created : ℕ)
    → List Part
longest_row account job symbol state created =
    Mark (codes "<tr><th scope=\"row\"><a href=\"/")
    ∷ Text account
    ∷ Mark (codes "\">")
    ∷ Text account
    ∷ Mark (codes "</a></th>\n<td class=\"count\" data-label=\"")
    ∷ Mark JOB.now
    ∷ Mark (codes "\">")
    ∷ Number job
    ∷ Mark (codes "</td><td><span class=\"state\">")
    ∷ Mark (codes "<svg class=\"sign\" aria-hidden=\"true\"><use href=\"#")
    ∷ Mark symbol
    ∷ Mark (codes "\"/></svg>")
    ∷ Mark state
    ∷ Mark (codes "</span></td><td class=\"when\" data-label=\"")
    ∷ Mark SINCE.now
    ∷ Mark (codes "\">")
    ∷ Moment created
    ∷ Mark (codes "</td></tr>\n")
    ∷ []

abbrev pub longest_item : LongestLine → List ℕ
longest_item it = html (longest_row it.account it.job (sign it.phase) (word it.phase) it.created)

-- the heads of the columns of what waits
unfoldable pub longest_columns : List Part
longest_columns =
    Mark (codes "<table class=\"jobs dense\">\n<thead><tr><th scope=\"col\">")
    ∷ Mark ACCOUNT.now
    ∷ Mark (codes "</th><th scope=\"col\" class=\"count\">")
    ∷ Mark JOB.now
    ∷ Mark (codes "</th><th scope=\"col\">")
    ∷ Mark STATE.now
    ∷ Mark (codes "</th><th scope=\"col\">")
    ∷ Mark SINCE.now
    ∷ Mark (codes "</th></tr></thead>\n<tbody>\n")
    ∷ []

abbrev pub table_of_longest : List LongestLine → List ℕ
table_of_longest lines =
    if length lines == 0
    then html (remark NOTHING_WAITS.now)
    else html longest_columns ++ (flat_map longest_item lines ++ END_OF_TABLE.now)

unfoldable pub longest_card : List LongestLine → List ℕ
longest_card lines =
    html (card (codes "longest") LONGEST.now) ++ (table_of_longest lines ++ END_OF_CARD.now)
