-- Rule: A statement for paper: the balance of an account as a month or a year begins, each grant for
-- it and each job that ended in it, and the balance as it ends.
use Rattle.std.specs.Prelude.{ℕ, ◌+◌, ◌-◌, ◌/◌, ◌==◌, Bool, not, nat_lt, if◌then◌else◌, List, [], ◌∷◌, ◌++◌, codes}
use Rattle.account_rules.specs.Limits.{first_month}
use Rattle.page_pages.specs.Frames.{top}
use Rattle.page_pages.specs.Movements.{drawn_in}
use Rattle.page_markup.specs.Parts.{Part, html, Mark, Text, Number, Moment, Month, MonthNumber}
use Rattle.page_pages.specs.StatementRows.{statement_rows}
use Rattle.page_pages.specs.declared.markup.TheConstants.{DOCUMENT, END_OF_PAGE}
use Rattle.page_pages.specs.declared.statement.Form.{Form}
use Rattle.page_pages.specs.declared.statement.Form.TheVariants.{Paper, Csv}
use Rattle.page_pages.specs.declared.statement.Statement.{Statement}
use Rattle.page_pages.specs.declared.texts.TheConstants.{AS_CSV, BACK_TO, DRAWN_UP, PRINT_ROOM, PRODUCT, STATEMENT, TIMES, UNITS}
use Rattle.page_pages.specs.StatementSums.{statement_grants, statement_jobs, sums}

-- the start of the page, up to where its title names the months
unfoldable pub title_start : (account : List ℕ) → List Part
title_start account =
    Mark DOCUMENT.now
    ∷ Mark (codes "<title>")
    ∷ Text account
    ∷ Mark (codes ", ")
    ∷ []

-- the end of the title
unfoldable pub title_end : List Part
title_end =
    Mark (codes " - ")
    ∷ Mark STATEMENT.now
    ∷ Mark (codes " - ")
    ∷ Mark PRODUCT.now
    ∷ Mark (codes "</title>\n")
    ∷ []

-- a month in words
unfoldable pub of_month : (month : ℕ) → List Part
of_month month =
    Month month
    ∷ []

-- a year
unfoldable pub of_year : (year : ℕ) → List Part
of_year year =
    Number year
    ∷ []

-- the start of the links, with the one to the owner's page
unfoldable pub back_link : (account : List ℕ) → List Part
back_link account =
    Mark (codes "<nav class=\"pager screen sheet\"><a href=\"/")
    ∷ Text account
    ∷ Mark (codes "\">")
    ∷ Mark BACK_TO.now
    ∷ Text account
    ∷ Mark (codes "</a>")
    ∷ []

-- a link to the statement of a month
unfoldable pub month_link : (month : ℕ) → List Part
month_link month =
    Mark (codes "\n<a href=\"?month=")
    ∷ MonthNumber month
    ∷ Mark (codes "\">")
    ∷ Month month
    ∷ Mark (codes "</a>")
    ∷ []

-- a link to the statement of a year
unfoldable pub year_link : (year : ℕ) → List Part
year_link year =
    Mark (codes "\n<a href=\"?year=")
    ∷ Number year
    ∷ Mark (codes "\">")
    ∷ Number year
    ∷ Mark (codes "</a>")
    ∷ []

-- the link to the table of a month, and ends the links
unfoldable pub month_table_link : (account : List ℕ) (month : ℕ) → List Part
month_table_link account month =
    Mark (codes "\n<a href=\"/")
    ∷ Text account
    ∷ Mark (codes "/statement.csv?month=")
    ∷ MonthNumber month
    ∷ Mark (codes "\">")
    ∷ Mark AS_CSV.now
    ∷ Mark (codes "</a></nav>\n")
    ∷ []

-- the link to the table of a year, and ends the links
unfoldable pub year_table_link : (account : List ℕ) (year : ℕ) → List Part
year_table_link account year =
    Mark (codes "\n<a href=\"/")
    ∷ Text account
    ∷ Mark (codes "/statement.csv?year=")
    ∷ Number year
    ∷ Mark (codes "\">")
    ∷ Mark AS_CSV.now
    ∷ Mark (codes "</a></nav>\n")
    ∷ []

-- the heading, up to where it names the months
unfoldable pub heading_start : (account : List ℕ) → List Part
heading_start account =
    Mark (codes "<article class=\"card sheet\">\n<header><div><p class=\"quiet\">")
    ∷ Mark STATEMENT.now
    ∷ Mark (codes "</p>\n<h1>")
    ∷ Text account
    ∷ Mark (codes "</h1>\n<p>")
    ∷ []

-- the rest of the heading: when the statement was drawn up
unfoldable pub heading_end : (now : ℕ) → List Part
heading_end now =
    Mark (codes "</p></div>\n<p class=\"quiet\">")
    ∷ Mark DRAWN_UP.now
    ∷ Moment now
    ∷ Mark (codes " UTC</p></header>\n")
    ∷ []

-- the end of the statement, and the foot of the page
unfoldable pub sheet_foot : List Part
sheet_foot =
    Mark (codes "</section>\n</article>\n</main>\n<footer class=\"foot sheet\"><p ")
    ∷ Mark (codes "class=\"quiet\">")
    ∷ Mark UNITS.now
    ∷ Mark (codes " ")
    ∷ Mark TIMES.now
    ∷ []

-- ---- the months

-- one month, or else the twelve of a year
abbrev pub is_year : Statement → Bool
is_year it = not (it.first == it.last)

-- as November 2026, or as 2026
abbrev pub months : (year : Bool) (month : ℕ) → List ℕ
months year month = if year then html (of_year (month / 12)) else html (of_month month)

-- ---- the links

abbrev pub link : (year : Bool) (month : ℕ) → List ℕ
link year month = if year then html (year_link (month / 12)) else html (month_link month)

-- to what comes before
abbrev pub earlier : Statement → List ℕ
earlier it = if nat_lt first_month it.first then link (is_year it) (it.first - 1) else []

-- to what comes behind, if that has begun
abbrev pub later : Statement → List ℕ
later it = if nat_lt it.last (drawn_in it) then link (is_year it) (it.last + 1) else []

abbrev pub table_link : Statement → List ℕ
table_link it =
    if is_year it then html (year_table_link it.account (it.first / 12))
    else html (month_table_link it.account it.first)

-- to the owner's page; before and behind; of a month its year, of a year its first month; the table
unfoldable pub links : Statement → List ℕ
links it =
    html (back_link it.account)
    ++ (earlier it ++ (later it ++ (link (not (is_year it)) it.first ++ table_link it)))

-- ---- the start

unfoldable pub title : Statement → List ℕ
title it = html (title_start it.account) ++ (months (is_year it) it.first ++ html title_end)

unfoldable pub heading : Statement → List ℕ
heading it =
    html (heading_start it.account)
    ++ (months (is_year it) it.first ++ html (heading_end it.drawn_up))

unfoldable pub statement_start : Statement → List ℕ
statement_start it = title it ++ (html (top PRINT_ROOM.now) ++ (links it ++ heading it))

-- ---- the page

unfoldable pub statement_paper : Statement → List ℕ
statement_paper it =
    statement_start it
    ++ (sums it
    ++ (statement_grants it ++ (statement_jobs it ++ (html sheet_foot ++ END_OF_PAGE.now))))

-- the page, or the same rows as a table
abbrev pub statement_in : Form → Statement → List ℕ
statement_in Paper it = statement_paper it
statement_in Csv it = statement_rows it

abbrev pub statement_page : Statement → List ℕ
statement_page it = statement_in it.form it
