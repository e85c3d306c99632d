-- Rule: The grants of an account, and the month by which units are given back (all this project's own).
use Rattle.std.specs.Prelude.{ℕ, zero, suc, ◌+◌, ◌-◌, Bool, ◌==◌, if◌then◌else◌, length, nat_lt, not, List, [], ◌∷◌, ◌++◌, codes, find, flat_map, Option}
use Rattle.std.specs.List.{list_any}
use Rattle.account_rules.specs.Limits.{first_month}
use Rattle.account_rules.specs.declared.account.Grant.{Grant}
use Rattle.page_markup.specs.Parts.{Part, html, Mark, Month, Number}
use Rattle.page_pages.specs.Frames.{card, remark}
use Rattle.page_pages.specs.Movements.{first_of_grants}
use Rattle.page_pages.specs.declared.markup.TheConstants.{END_OF_CARD, END_OF_TABLE}
use Rattle.page_pages.specs.declared.texts.TheConstants.{GRANTS, NO_GRANTS, IS_GIVEN_BACK, MONTH, UNITS_GIVEN}

-- the heads of the columns
unfoldable pub grants_columns : List Part
grants_columns =
    Mark (codes "<table class=\"dense\">\n<thead><tr><th scope=\"col\">")
    ∷ Mark MONTH.now
    ∷ Mark (codes "</th><th scope=\"col\" class=\"count\">")
    ∷ Mark UNITS_GIVEN.now
    ∷ Mark (codes "</th></tr></thead>\n<tbody>\n")
    ∷ []

-- a grant for a month from January 2000 on
unfoldable pub grant_row : (month units : ℕ) → List Part
grant_row month units =
    Mark (codes "<tr><th scope=\"row\">")
    ∷ Month month
    ∷ Mark (codes "</th><td class=\"count\">")
    ∷ Number units
    ∷ Mark (codes "</td></tr>\n")
    ∷ []

-- a grant by which units were given back
unfoldable pub given_back_row : (units : ℕ) → List Part
given_back_row units =
    Mark (codes "<tr><th scope=\"row\">")
    ∷ Mark IS_GIVEN_BACK.now
    ∷ Mark (codes "</th><td class=\"count\">")
    ∷ Number units
    ∷ Mark (codes "</td></tr>\n")
    ∷ []

abbrev pub grant_item : Grant → List ℕ
grant_item it =
    if nat_lt it.month first_of_grants then html (given_back_row it.pages)
    else html (grant_row it.month it.pages)

abbrev pub table_of_grants : List Grant → List ℕ
table_of_grants grants =
    if length grants == 0
    then html (remark NO_GRANTS.now)
    else html grants_columns ++ (flat_map grant_item grants ++ END_OF_TABLE.now)

unfoldable pub grants_card : List Grant → List ℕ
grants_card grants =
    html (card (codes "grants") GRANTS.now) ++ (table_of_grants grants ++ END_OF_CARD.now)

-- ---- the month by which units are given back

abbrev pub is_for : (month : ℕ) → Grant → Bool
is_for month it = it.month == month

-- so many months from 1970-01 on, the last first
unfoldable pub months_back : (count : ℕ) → List ℕ
months_back zero = []
months_back (suc count) = (first_month + count) ∷ months_back count

-- the first of them that has no grant
abbrev pub free_within : List Grant → (count : ℕ) → Option ℕ
free_within grants count =
    find (λ month. not (list_any (is_for month) grants)) (months_back count)

-- the last before January 2000
abbrev pub free_month : List Grant → Option ℕ
free_month grants = free_within grants (first_of_grants - first_month)
