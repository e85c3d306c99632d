-- Rule: The units of each day of a month, as bars and as a table.
use Rattle.std.specs.Prelude.{ℕ, ◌-◌, max, fold, length, List, [], ◌∷◌, ◌++◌, codes, flat_map}
use Rattle.page_pages.specs.Balances.{permille}
use Rattle.page_markup.specs.Parts.{Part, html, Mark, Number, Month}
use Rattle.page_pages.specs.declared.chart.DayLine.{DayLine}
use Rattle.page_pages.specs.declared.markup.TheConstants.{END_OF_CHART}
use Rattle.page_pages.specs.declared.texts.TheConstants.{AS_TABLE, CHART, DAY, HIGHEST, UNITS_IN_MONTH, UNITS_OF_DAY}

-- the start of the card, and of the drawing
unfoldable pub chart_start : (month highest last : ℕ) → List Part
chart_start month highest last =
    Mark (codes "<section class=\"card\" aria-labelledby=\"month\">\n<header><h2 ")
    ∷ Mark (codes "id=\"month\">")
    ∷ Mark UNITS_IN_MONTH.now
    ∷ Month month
    ∷ Mark (codes "</h2><span class=\"quiet\">")
    ∷ Mark HIGHEST.now
    ∷ Mark (codes ": ")
    ∷ Number highest
    ∷ Mark (codes "</span></header>\n<figure class=\"chart\">\n<svg viewBox=\"0 0 ")
    ∷ Number last
    ∷ Mark (codes " 1000\" preserveAspectRatio=\"none\" role=\"img\" aria-label=\"")
    ∷ Mark CHART.now
    ∷ Mark (codes "\">\n")
    ∷ []

-- the bar of a day, in thousandths of the drawing
unfoldable pub bar_of_day : (left top_of height : ℕ) → List Part
bar_of_day left top_of height =
    Mark (codes "<rect class=\"charged\" x=\"")
    ∷ Number left
    ∷ Mark (codes ".15\" y=\"")
    ∷ Number top_of
    ∷ Mark (codes "\" width=\".7\" height=\"")
    ∷ Number height
    ∷ Mark (codes "\"/>\n")
    ∷ []

-- what stands between the chart and its table
unfoldable pub chart_middle : (last : ℕ) → List Part
chart_middle last =
    Mark (codes "</svg>\n<figcaption class=\"quiet\" aria-hidden=\"true\"><span>1</span>")
    ∷ Mark (codes "<span>")
    ∷ Number last
    ∷ Mark (codes "</span></figcaption>\n</figure>\n<details>\n<summary>")
    ∷ Mark AS_TABLE.now
    ∷ Mark (codes "</summary>\n<div class=\"days\"><table class=\"dense\">\n<thead><tr>")
    ∷ Mark (codes "<th scope=\"col\">")
    ∷ Mark DAY.now
    ∷ Mark (codes "</th><th scope=\"col\" class=\"count\">")
    ∷ Mark UNITS_OF_DAY.now
    ∷ Mark (codes "</th></tr></thead>\n<tbody>\n")
    ∷ []

-- the row of a day and its units
unfoldable pub row_of_day : (day units : ℕ) → List Part
row_of_day day units =
    Mark (codes "<tr><th scope=\"row\">")
    ∷ Number day
    ∷ Mark (codes "</th><td class=\"count\">")
    ∷ Number units
    ∷ Mark (codes "</td></tr>\n")
    ∷ []

-- the most units of a day, and 0 where there is none
abbrev pub highest : List DayLine → ℕ
highest days = fold (λ (most : ℕ) (it : DayLine). max most it.units) 0 days

-- its place in a chart that is as wide as there are days
abbrev pub bar_item : (highest : ℕ) → DayLine → List ℕ
bar_item highest it = html
    (bar_of_day
    (it.day - 1)
    (1000 - permille it.units highest)
    (permille it.units highest))

abbrev pub day_item : DayLine → List ℕ
day_item it = html (row_of_day it.day it.units)

unfoldable pub chart : (month : ℕ) → List DayLine → List ℕ
chart month days =
    html (chart_start month (highest days) (length days))
    ++ (flat_map (bar_item (highest days)) days
    ++ (html (chart_middle (length days)) ++ (flat_map day_item days ++ END_OF_CHART.now)))
