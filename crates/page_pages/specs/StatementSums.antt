-- Rule: The sums of a statement for paper: how its balances come about, and the rows of its grants and
-- its jobs.
use Rattle.std.specs.Prelude.{ℕ, ◌==◌, if◌then◌else◌, List, [], ◌∷◌, ◌++◌, codes, flat_map}
use Rattle.std.specs.Fmt.{signed_decimal}
use Rattle.account_rules.specs.declared.account.Grant.{Grant}
use Rattle.account_rules.specs.declared.job.Job.{Job}
use Rattle.page_pages.specs.Balances.{left_text}
use Rattle.page_pages.specs.Ended.{ended_columns, ended_job}
use Rattle.page_pages.specs.Movements.{charged_before, charged_then, closing, drawn_in, given_back, granted_before, granted_then, is_then, is_within, opening}
use Rattle.page_markup.specs.Parts.{Part, html, Mark, Number, Month}
use Rattle.page_pages.specs.declared.statement.Statement.{Statement}
use Rattle.page_pages.specs.declared.texts.TheConstants.{CHARGED_BEFORE, CLOSING, GIVEN_BACK, GRANTED, GRANTED_BEFORE, JOBS_ENDED, LEFT_NOW, LESS_CHARGED, MONTH, OPENING, PLUS_GRANTED, RESERVED_NOW, UNITS_CHARGED}

-- the start of the sums: how the opening balance comes about, which is the text `left`
unfoldable pub sums_before : (granted given_back charged : ℕ) (left : List ℕ) → List Part
sums_before granted given_back charged left =
    Mark (codes "<table class=\"dense sum\"><tbody>\n")
    ∷ Mark (codes "<tr><th scope=\"row\">")
    ∷ Mark GRANTED_BEFORE.now
    ∷ Mark (codes "</th><td class=\"count\">")
    ∷ Number granted
    ∷ Mark (codes "</td></tr>\n")
    ∷ Mark (codes "<tr><th scope=\"row\">")
    ∷ Mark GIVEN_BACK.now
    ∷ Mark (codes "</th><td class=\"count\">")
    ∷ Number given_back
    ∷ Mark (codes "</td></tr>\n")
    ∷ Mark (codes "<tr><th scope=\"row\">")
    ∷ Mark CHARGED_BEFORE.now
    ∷ Mark (codes "</th><td class=\"count\">")
    ∷ Number charged
    ∷ Mark (codes "</td></tr>\n")
    ∷ Mark (codes "</tbody><tbody>\n<tr><th scope=\"row\"><strong>")
    ∷ Mark OPENING.now
    ∷ Mark (codes "</strong></th><td class=\"count\"><strong>")
    ∷ Mark left
    ∷ Mark (codes "</strong></td></tr>\n")
    ∷ []

-- what moved, and the closing balance, which is the text `left`
unfoldable pub sums_then : (granted charged : ℕ) (left : List ℕ) → List Part
sums_then granted charged left =
    Mark (codes "<tr><th scope=\"row\">")
    ∷ Mark PLUS_GRANTED.now
    ∷ Mark (codes "</th><td class=\"count\">")
    ∷ Number granted
    ∷ Mark (codes "</td></tr>\n")
    ∷ Mark (codes "<tr><th scope=\"row\">")
    ∷ Mark LESS_CHARGED.now
    ∷ Mark (codes "</th><td class=\"count\">")
    ∷ Number charged
    ∷ Mark (codes "</td></tr>\n")
    ∷ Mark (codes "</tbody><tfoot>\n")
    ∷ Mark (codes "<tr><th scope=\"row\">")
    ∷ Mark CLOSING.now
    ∷ Mark (codes "</th><td class=\"count\">")
    ∷ Mark left
    ∷ Mark (codes "</td></tr>\n")
    ∷ []

-- what is reserved now, and what that leaves, which is the text `left`
unfoldable pub sums_now : (reserved : ℕ) (left : List ℕ) → List Part
sums_now reserved left =
    Mark (codes "<tr><th scope=\"row\">")
    ∷ Mark RESERVED_NOW.now
    ∷ Mark (codes "</th><td class=\"count\">")
    ∷ Number reserved
    ∷ Mark (codes "</td></tr>\n")
    ∷ Mark (codes "<tr><th scope=\"row\">")
    ∷ Mark LEFT_NOW.now
    ∷ Mark (codes "</th><td class=\"count\">")
    ∷ Mark left
    ∷ Mark (codes "</td></tr>\n")
    ∷ []

-- the end of the sums, and the start of the table of grants
unfoldable pub grants_start : List Part
grants_start =
    Mark (codes "</tfoot></table>\n<section aria-labelledby=\"granted\"><h2 id=\"granted\">")
    ∷ Mark GRANTED.now
    ∷ Mark (codes "</h2>\n<table class=\"dense\">\n<thead><tr><th scope=\"col\">")
    ∷ Mark MONTH.now
    ∷ Mark (codes "</th><th scope=\"col\" class=\"count\">")
    ∷ Mark UNITS_CHARGED.now
    ∷ Mark (codes "</th></tr></thead>\n<tbody>\n")
    ∷ []

-- the row of a grant
unfoldable pub grant_row : (month pages : ℕ) → List Part
grant_row month pages =
    Mark (codes "<tr><th scope=\"row\">")
    ∷ Month month
    ∷ Mark (codes "</th><td class=\"count\">")
    ∷ Number pages
    ∷ Mark (codes "</td></tr>\n")
    ∷ []

-- the end of the table of grants, with their sum, and the heading of the jobs
unfoldable pub grants_end : (granted : ℕ) → List Part
grants_end granted =
    Mark (codes "</tbody><tfoot>\n")
    ∷ Mark (codes "<tr><th scope=\"row\">")
    ∷ Mark PLUS_GRANTED.now
    ∷ Mark (codes "</th><td class=\"count\">")
    ∷ Number granted
    ∷ Mark (codes "</td></tr>\n")
    ∷ Mark (codes "</tfoot></table>\n</section>\n<section aria-labelledby=\"ended\"><h2 id=\"ended\">")
    ∷ Mark JOBS_ENDED.now
    ∷ Mark (codes "</h2>\n")
    ∷ []

-- the end of the table of jobs, with the sum of their charges
unfoldable pub jobs_end : (charged : ℕ) → List Part
jobs_end charged =
    Mark (codes "</tbody><tfoot>\n<tr><th scope=\"row\" colspan=\"5\">")
    ∷ Mark LESS_CHARGED.now
    ∷ Mark (codes "</th><td class=\"count\">")
    ∷ Number charged
    ∷ Mark (codes "</td></tr>\n</tfoot></table>\n")
    ∷ []

-- ---- the sums

-- what is reserved now is told where the last month is that in which the statement is drawn up
abbrev pub reserved_now : Statement → List ℕ
reserved_now it =
    if it.last == drawn_in it
    then html (sums_now it.reserved (left_text it.granted it.reserved it.charged)) else []

abbrev pub opening_sums : Statement → List ℕ
opening_sums it = html (sums_before (granted_before it.first it) (given_back it)
    (charged_before it.first it) (signed_decimal (opening it)))

abbrev pub closing_sums : Statement → List ℕ
closing_sums it =
    html (sums_then (granted_then it) (charged_then it) (signed_decimal (closing it)))

unfoldable pub sums : Statement → List ℕ
sums it = opening_sums it ++ (closing_sums it ++ reserved_now it)

-- ---- the rows

-- of a grant for one of the months
abbrev pub grant_if_then : (first last : ℕ) → Grant → List ℕ
grant_if_then first last grant =
    if is_within first last grant.month then html (grant_row grant.month grant.pages) else []

unfoldable pub statement_grants : Statement → List ℕ
statement_grants it =
    html grants_start
    ++ (flat_map (grant_if_then it.first it.last) it.grants
    ++ html (grants_end (granted_then it)))

-- of a job that ended in one of the months
abbrev pub job_if_then : (first last : ℕ) → Job → List ℕ
job_if_then first last job =
    if is_then first last job.standing.ended then ended_job job else []

unfoldable pub statement_jobs : Statement → List ℕ
statement_jobs it =
    html ended_columns
    ++ (flat_map (job_if_then it.first it.last) it.ended ++ html (jobs_end (charged_then it)))
