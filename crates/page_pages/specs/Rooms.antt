-- Rule: The print room's page, for operators: sums, a chart and lists over all accounts.
use Rattle.std.specs.Prelude.{ℕ, ◌||◌, Bool, true, false, List, [], ◌∷◌, ◌++◌, Option, Some, None, codes, is_none}
use Rattle.page_pages.specs.Accounts.{accounts_card}
use Rattle.page_pages.specs.Begun.{begun_card}
use Rattle.page_pages.specs.Charts.{chart}
use Rattle.page_pages.specs.Devices.{all_devices}
use Rattle.page_pages.specs.Frames.{document, foot, reload_soon, remark, top}
use Rattle.page_pages.specs.Longest.{longest_card}
use Rattle.page_markup.specs.Parts.{Part, html, Mark, Text, Number, Moment}
use Rattle.page_pages.specs.declared.markup.TheConstants.{END_OF_PAGE, END_OF_PAIR, PAIR, SCRIPT}
use Rattle.page_pages.specs.declared.room.Room.{Room}
use Rattle.page_pages.specs.declared.texts.TheConstants.{ACCOUNTS_OPEN, AS_OF, FIND, FIND_LABEL, HAS_MORE, IS_GATHERED, JOBS_WAITING, NOT_SETTLED, NOT_YET, OPERATORS, PRINT_ROOM, SKIPS, UNITS_BEYOND, UNITS_THIS_MONTH}

-- ---- the heading, and the form to find an account

unfoldable pub title_start : List Part
title_start =
    Mark (codes "<div class=\"title\"><div><h1>")
    ∷ Mark PRINT_ROOM.now
    ∷ Mark (codes "</h1>\n<p class=\"quiet\">")
    ∷ []

unfoldable pub as_of : ℕ → List Part
as_of at =
    Mark AS_OF.now
    ∷ Moment at
    ∷ Mark (codes " UTC")
    ∷ []

-- as of when it is, if something was gathered yet
abbrev pub as_of_text : Option ℕ → List ℕ
as_of_text None = NOT_YET.now
as_of_text (Some at) = html (as_of at)

unfoldable pub find_form : (front : List ℕ) → List Part
find_form front =
    Mark (codes "</p></div>\n")
    ∷ Mark (codes "<form class=\"find\" method=\"get\" action=\"/#accounts\" role=\"search\"><div>")
    ∷ Mark (codes "<label for=\"front\">")
    ∷ Mark FIND_LABEL.now
    ∷ Mark (codes "</label><input id=\"front\" name=\"front\" maxlength=\"32\" ")
    ∷ Mark (codes "autocapitalize=\"none\" autocomplete=\"off\" spellcheck=\"false\" value=\"")
    ∷ Text front
    ∷ Mark (codes "\"></div><button class=\"first\">")
    ∷ Mark FIND.now
    ∷ Mark (codes "</button></form></div>\n")
    ∷ []

unfoldable pub room_title : (at : Option ℕ) (front : List ℕ) → List ℕ
room_title at front = html title_start ++ (as_of_text at ++ html (find_form front))

-- the sums over all accounts
unfoldable pub tiles : (accounts waiting begun charged beyond : ℕ) → List Part
tiles accounts waiting begun charged beyond =
    Mark (codes "<section class=\"card\"><dl class=\"tiles\">\n<div><dt>")
    ∷ Mark ACCOUNTS_OPEN.now
    ∷ Mark (codes "</dt><dd>")
    ∷ Number accounts
    ∷ Mark (codes "</dd></div>\n<div><dt>")
    ∷ Mark JOBS_WAITING.now
    ∷ Mark (codes "</dt><dd>")
    ∷ Number waiting
    ∷ Mark (codes "</dd></div>\n<div><dt>")
    ∷ Mark NOT_SETTLED.now
    ∷ Mark (codes "</dt><dd>")
    ∷ Number begun
    ∷ Mark (codes "</dd></div>\n<div><dt>")
    ∷ Mark UNITS_THIS_MONTH.now
    ∷ Mark (codes "</dt><dd>")
    ∷ Number charged
    ∷ Mark (codes "</dd></div>\n<div><dt>")
    ∷ Mark UNITS_BEYOND.now
    ∷ Mark (codes "</dt><dd>")
    ∷ Number beyond
    ∷ Mark (codes "</dd></div>\n</dl></section>\n")
    ∷ []

abbrev pub front_text : Option (List ℕ) → List ℕ
front_text None = []
front_text (Some name) = name

-- ---- the page

abbrev pub reload_if : (reloads : Bool) → List ℕ
reload_if false = []
reload_if true = html reload_soon

-- a sentence, where it holds
abbrev pub remark_if : (holds : Bool) (said : List ℕ) → List ℕ
remark_if false said = []
remark_if true said = html (remark said)

-- the page loads itself again while all of it is gathered anew, and where nothing was gathered yet
unfoldable pub room_document : Room → List ℕ
room_document it =
    html (document OPERATORS.now) ++ reload_if (it.gathers || is_none it.as_of)

unfoldable pub room_start : Room → List ℕ
room_start it = room_document it ++ (SCRIPT.now ++ html (top OPERATORS.now))

unfoldable pub room_head : Room → List ℕ
room_head it =
    room_title it.as_of (front_text it.front)
    ++ (remark_if it.gathers IS_GATHERED.now
    ++ (remark_if it.skips SKIPS.now ++ remark_if it.has_more HAS_MORE.now))

unfoldable pub room_sums : Room → List ℕ
room_sums it =
    html (tiles it.open it.waiting it.unsettled it.charged it.beyond)
    ++ chart it.month it.days.now

unfoldable pub room_lists : Room → List ℕ
room_lists it =
    PAIR.now
    ++ (begun_card it.begun.now
    ++ (longest_card it.longest.now
    ++ (END_OF_PAIR.now
    ++ (all_devices it.devices.now
    ++ accounts_card (front_text it.front) it.accounts.now it.behind))))

unfoldable pub room_page : Room → List ℕ
room_page it =
    room_start it
    ++ (room_head it
    ++ (room_sums it ++ (room_lists it ++ (html foot ++ END_OF_PAGE.now))))
