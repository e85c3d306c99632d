-- Rule: The page of an account's owner: what is left, what waits and ended, the form to print.
use Rattle.std.specs.Prelude.{ℕ, Bool, true, false, ◌&&◌, not, ◌==◌, if◌then◌else◌, length, List, [], ◌∷◌, ◌++◌, codes, pos}
use Rattle.page_pages.specs.Balances.{balance}
use Rattle.account_rules.specs.Quota.{left_of}
use Rattle.page_pages.specs.Devices.{all_devices}
use Rattle.page_pages.specs.Ended.{ended_card}
use Rattle.page_pages.specs.Forms.{print_form}
use Rattle.page_pages.specs.Frames.{document, foot, reload, top}
use Rattle.page_pages.specs.Offers.{cheapest, dearest}
use Rattle.page_pages.specs.Outcomes.{outcome_if_any}
use Rattle.page_markup.specs.Parts.{Part, html, Mark, Text, Month, MonthNumber}
use Rattle.page_pages.specs.Waiting.{waiting_card}
use Rattle.page_pages.specs.declared.markup.TheConstants.{END_OF_PAGE, SCRIPT}
use Rattle.page_pages.specs.declared.offer.Terms.{Terms}
use Rattle.page_pages.specs.declared.owner.Owner.{Owner}
use Rattle.page_pages.specs.declared.texts.TheConstants.{ACCOUNT, PRINT_ROOM, RELOADS, START_RELOADING, STATEMENT_FOR, STAYS, STOP_RELOADING}

-- the name of the account, and the way to its statement
unfoldable pub account_title : (account : List ℕ) (month : ℕ) → List Part
account_title account month =
    Mark (codes "<div class=\"title\"><div><p class=\"quiet\">")
    ∷ Mark ACCOUNT.now
    ∷ Mark (codes "</p>\n<h1>")
    ∷ Text account
    ∷ Mark (codes "</h1></div>\n<a href=\"/")
    ∷ Text account
    ∷ Mark (codes "/statement?month=")
    ∷ MonthNumber month
    ∷ Mark (codes "\">")
    ∷ Mark STATEMENT_FOR.now
    ∷ Month month
    ∷ Mark (codes "</a></div>\n")
    ∷ []

-- that the page loads itself anew, and the way to stop that
unfoldable pub reloads : (account : List ℕ) → List Part
reloads account =
    Mark RELOADS.now
    ∷ Mark (codes " <a href=\"/")
    ∷ Text account
    ∷ Mark (codes "?still\">")
    ∷ Mark STOP_RELOADING.now
    ∷ Mark (codes "</a>")
    ∷ []

-- that the page stays as it is, and the way to change that
unfoldable pub stays : (account : List ℕ) → List Part
stays account =
    Mark STAYS.now
    ∷ Mark (codes " <a href=\"/")
    ∷ Text account
    ∷ Mark (codes "\">")
    ∷ Mark START_RELOADING.now
    ∷ Mark (codes "</a>")
    ∷ []

-- ---- whether it loads itself anew

-- something waits, and nobody stopped it
abbrev pub does_reload : Owner → Bool
does_reload owner = not owner.stays && not (length owner.waiting == 0)

abbrev pub reload_if : (reloads : Bool) (account : List ℕ) → List ℕ
reload_if true account = html (reload account)
reload_if false account = []

abbrev pub reload_words : Owner → List ℕ
reload_words owner =
    if owner.stays then html (stays owner.account) else html (reloads owner.account)

-- ---- the page

unfoldable pub owner_document : Owner → List ℕ
owner_document owner =
    html (document owner.account) ++ reload_if (does_reload owner) owner.account

unfoldable pub owner_start : Owner → List ℕ
owner_start owner = owner_document owner ++ (SCRIPT.now ++ html (top PRINT_ROOM.now))

unfoldable pub content : Owner → List ℕ
content owner =
    outcome_if_any owner.outcome
    ++ (html (account_title owner.account owner.month)
    ++ balance owner.granted owner.reserved owner.charged)

-- what prices and offers hang on
abbrev pub terms_of : Owner → Terms
terms_of owner = record {
  left = left_of (pos owner.granted) (pos owner.reserved) (pos owner.charged);
  cheapest = cheapest owner.devices;
  dearest = dearest owner.devices;
}

unfoldable pub lists : Owner → List ℕ
lists owner =
    waiting_card owner.account (terms_of owner) owner.waiting
    ++ (print_form owner.account owner.needs_password
    ++ (all_devices owner.devices ++ ended_card owner.ended))

unfoldable pub owner_end : Owner → List ℕ
owner_end owner = html foot ++ (reload_words owner ++ END_OF_PAGE.now)

unfoldable pub owner_page : Owner → List ℕ
owner_page owner = owner_start owner ++ (content owner ++ (lists owner ++ owner_end owner))
