-- Rule: The card of accounts, on the print room's page: what each has left, and how much waits.
use Rattle.std.specs.Prelude.{ℕ, ◌==◌, if◌then◌else◌, length, List, [], ◌∷◌, ◌++◌, Option, Some, None, codes, flat_map}
use Rattle.std.specs.Fmt.{signed_decimal}
use Rattle.page_pages.specs.Frames.{card, remark}
use Rattle.page_markup.specs.Parts.{Part, html, Mark, Text, Number}
use Rattle.page_pages.specs.declared.accounts.AccountLine.{AccountLine}
use Rattle.page_pages.specs.declared.markup.TheConstants.{END_OF_CARD, END_OF_TABLE}
use Rattle.page_pages.specs.declared.texts.TheConstants.{ACCOUNT, ACCOUNTS, JOBS_WAITING, LEFT, NEXT_ACCOUNTS, NO_ACCOUNTS}

-- the row of an account
unfoldable pub account_row : (account left : List ℕ) (waiting : ℕ) → List Part
account_row account left waiting =
    Mark (codes "<tr><th scope=\"row\"><a href=\"/")
    ∷ Text account
    ∷ Mark (codes "\">")
    ∷ Text account
    ∷ Mark (codes "</a></th><td class=\"count\">")
    ∷ Mark left
    ∷ Mark (codes "</td><td class=\"count\">")
    ∷ Number waiting
    ∷ Mark (codes "</td></tr>\n")
    ∷ []

abbrev pub accounts_item : AccountLine → List ℕ
accounts_item it = html (account_row it.account (signed_decimal it.left) it.waiting)

-- the heads of the columns of accounts
unfoldable pub accounts_columns : List Part
accounts_columns =
    Mark (codes "<table class=\"dense\">\n<thead><tr><th scope=\"col\">")
    ∷ Mark ACCOUNT.now
    ∷ Mark (codes "</th><th scope=\"col\" class=\"count\">")
    ∷ Mark LEFT.now
    ∷ Mark (codes "</th><th scope=\"col\" class=\"count\">")
    ∷ Mark JOBS_WAITING.now
    ∷ Mark (codes "</th></tr></thead>\n<tbody>\n")
    ∷ []

abbrev pub table_of_accounts : List AccountLine → List ℕ
table_of_accounts lines =
    if length lines == 0
    then html (remark NO_ACCOUNTS.now)
    else html accounts_columns ++ (flat_map accounts_item lines ++ END_OF_TABLE.now)

-- the way to the accounts that come next
unfoldable pub next_link : (front behind : List ℕ) → List Part
next_link front behind =
    Mark (codes "<nav class=\"pager\"><a href=\"/?front=")
    ∷ Text front
    ∷ Mark (codes "&amp;behind=")
    ∷ Text behind
    ∷ Mark (codes "#accounts\">")
    ∷ Mark NEXT_ACCOUNTS.now
    ∷ Mark (codes "</a></nav>\n")
    ∷ []

abbrev pub link_if_more : (front : List ℕ) (behind : Option (List ℕ)) → List ℕ
link_if_more front None = []
link_if_more front (Some name) = html (next_link front name)

unfoldable pub accounts_card : (front : List ℕ) → List AccountLine
    → (behind : Option (List ℕ)) → List ℕ
accounts_card front lines behind =
    html (card (codes "accounts") ACCOUNTS.now)
    ++ (table_of_accounts lines ++ (link_if_more front behind ++ END_OF_CARD.now))
