-- Rule: What stands around the content of a page, and of a card of it.
use Rattle.std.specs.Prelude.{ℕ, List, [], ◌∷◌, codes}
use Rattle.page_markup.specs.Parts.{Part, Mark, Text}
use Rattle.page_pages.specs.declared.markup.TheConstants.{BODY, DOCUMENT, RELOAD, SIGNS}
use Rattle.page_pages.specs.declared.texts.TheConstants.{PRODUCT, SKIP, STALE, TIMES, UNITS}

-- the start of a page, with its title
unfoldable pub document : (title : List ℕ) → List Part
document title =
    Mark DOCUMENT.now
    ∷ Mark (codes "<title>")
    ∷ Text title
    ∷ Mark (codes " - ")
    ∷ Mark PRODUCT.now
    ∷ Mark (codes "</title>\n")
    ∷ []

-- what has a browser without scripts load the page of an account anew, with what the script says
-- where it could not
unfoldable pub reload : (account : List ℕ) → List Part
reload account =
    Mark RELOAD.now
    ∷ Mark STALE.now
    ∷ Mark (codes "\"><meta http-equiv=\"refresh\" content=\"30; url=/")
    ∷ Text account
    ∷ Mark (codes "\"></noscript>\n")
    ∷ []

-- the same of the print room's page
unfoldable pub reload_soon : List Part
reload_soon =
    Mark RELOAD.now
    ∷ Mark STALE.now
    ∷ Mark (codes "\"><meta http-equiv=\"refresh\" content=\"2\"></noscript>\n")
    ∷ []

-- what stands above the content of a page
unfoldable pub top : (place : List ℕ) → List Part
top place =
    Mark BODY.now
    ∷ Mark SIGNS.now
    ∷ Mark (codes "<a class=\"skip\" href=\"#main\">")
    ∷ Mark SKIP.now
    ∷ Mark (codes "</a>\n<header class=\"banner\"><div><span class=\"brand\">")
    ∷ Mark (codes "<svg class=\"sign\" aria-hidden=\"true\"><use href=\"#sprig\"/></svg>")
    ∷ Mark PRODUCT.now
    ∷ Mark (codes "</span><span class=\"quiet\">")
    ∷ Mark place
    ∷ Mark (codes "</span></div></header>\n<main id=\"main\">\n")
    ∷ []

-- the begin of a card with its heading
unfoldable pub card : (name heading : List ℕ) → List Part
card name heading =
    Mark (codes "<section class=\"card\" aria-labelledby=\"")
    ∷ Mark name
    ∷ Mark (codes "\">\n<header><h2 id=\"")
    ∷ Mark name
    ∷ Mark (codes "\">")
    ∷ Mark heading
    ∷ Mark (codes "</h2></header>\n")
    ∷ []

-- a sentence as a paragraph in small print
unfoldable pub remark : (said : List ℕ) → List Part
remark said =
    Mark (codes "<p class=\"quiet\">")
    ∷ Mark said
    ∷ Mark (codes "</p>\n")
    ∷ []

-- the head of what stands below the content
unfoldable pub foot : List Part
foot =
    Mark (codes "</main>\n<footer class=\"foot\"><p class=\"quiet\">")
    ∷ Mark UNITS.now
    ∷ Mark (codes " ")
    ∷ Mark TIMES.now
    ∷ Mark (codes "\n")
    ∷ []
