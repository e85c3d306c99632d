-- Rule: The card of the jobs that devices began and have not settled.
use Rattle.std.specs.Prelude.{ℕ, ◌==◌, if◌then◌else◌, length, List, [], ◌∷◌, ◌++◌, codes, flat_map}
use Rattle.page_pages.specs.Frames.{card, remark}
use Rattle.page_markup.specs.Parts.{Part, html, Mark, Text, Number, Moment}
use Rattle.page_pages.specs.declared.begun.BegunLine.{BegunLine}
use Rattle.page_pages.specs.declared.markup.TheConstants.{END_OF_CARD, END_OF_TABLE}
use Rattle.page_pages.specs.declared.texts.TheConstants.{ACCOUNT, BEGUN, BEGUN_AT, DEVICE, JOB, NOTHING_BEGUN}

-- the row of a job that a device began
unfoldable pub begun_row : (account : List ℕ) (job : ℕ) (device : List ℕ) (started : ℕ) → List Part
begun_row account job device started =
    Mark (codes "<tr><th scope=\"row\"><a href=\"/")
    ∷ Text account
    ∷ Mark (codes "\">")
    ∷ Text account
    ∷ Mark (codes "</a></th>\n<td class=\"count\" data-label=\"")
    ∷ Mark JOB.now
    ∷ Mark (codes "\">")
    ∷ Number job
    ∷ Mark (codes "</td><td data-label=\"")
    ∷ Mark DEVICE.now
    ∷ Mark (codes "\">")
    ∷ Text device
    ∷ Mark (codes "</td><td class=\"when\" data-label=\"")
    ∷ Mark BEGUN_AT.now
    ∷ Mark (codes "\">")
    ∷ Moment started
    ∷ Mark (codes "</td></tr>\n")
    ∷ []

abbrev pub begun_item : BegunLine → List ℕ
begun_item it = html (begun_row it.account it.job it.device it.started)

-- the heads of the columns of what was begun
unfoldable pub begun_columns : List Part
begun_columns =
    Mark (codes "<table class=\"jobs dense\">\n<thead><tr><th scope=\"col\">")
    ∷ Mark ACCOUNT.now
    ∷ Mark (codes "</th><th scope=\"col\" class=\"count\">")
    ∷ Mark JOB.now
    ∷ Mark (codes "</th><th scope=\"col\">")
    ∷ Mark DEVICE.now
    ∷ Mark (codes "</th><th scope=\"col\">")
    ∷ Mark BEGUN_AT.now
    ∷ Mark (codes "</th></tr></thead>\n<tbody>\n")
    ∷ []

abbrev pub table_of_begun : List BegunLine → List ℕ
table_of_begun lines =
    if length lines == 0
    then html (remark NOTHING_BEGUN.now)
    else html begun_columns ++ (flat_map begun_item lines ++ END_OF_TABLE.now)

unfoldable pub begun_card : List BegunLine → List ℕ
begun_card lines =
    html (card (codes "begun") BEGUN.now) ++ (table_of_begun lines ++ END_OF_CARD.now)
