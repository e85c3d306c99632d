-- Rule: The page that answers a form of the desk (all this project's own).
use Rattle.std.specs.Prelude.{ℕ, List, [], ◌∷◌, ◌++◌, codes}
use Rattle.page_markup.specs.Parts.{Part, html, Mark, Text}
use Rattle.page_pages.specs.Frames.{document, top}
use Rattle.page_pages.specs.Reasons.{reason}
use Rattle.page_pages.specs.declared.desk_told.Came.{Came}
use Rattle.page_pages.specs.declared.desk_told.Came.TheVariants.{Done, Refused, Failed, NoLine}
use Rattle.page_pages.specs.declared.desk_told.Deed.{Deed}
use Rattle.page_pages.specs.declared.desk_told.Deed.TheVariants.{Open, Grant, Cancel, Hold, TurnOn, TurnOff, Rate}
use Rattle.page_pages.specs.declared.desk_told.LineTold.{LineTold}
use Rattle.page_pages.specs.declared.desk_told.Onward.{Onward}
use Rattle.page_pages.specs.declared.desk_told.Onward.TheVariants.{Accounts, Devices, Account}
use Rattle.page_pages.specs.declared.texts.TheConstants.{BACK_TO, DESK, DEVICES, IS_CANCELED, IS_DONE, IS_GRANTED, IS_HELD_NOW, IS_NO_LINE, IS_OPEN, IS_RATED, IS_TURNED_OFF, IS_TURNED_ON, NOTHING, TO_ACCOUNTS, TRY_AGAIN, WAS_NOT_DONE, ASKED_BY, ASKED_LINE}

-- the start of the card
unfoldable pub told_start : (look heading : List ℕ) → List Part
told_start look heading =
    Mark (codes "<section class=\"card sheet")
    ∷ Mark look
    ∷ Mark (codes "\">\n<h1>")
    ∷ Mark heading
    ∷ Mark (codes "</h1>\n<p>")
    ∷ []

-- the line, and by whom it was asked
unfoldable pub told_line : (line operator : List ℕ) → List Part
told_line line operator =
    Mark (codes "</p>\n<p class=\"quiet\">")
    ∷ Mark ASKED_LINE.now
    ∷ Mark (codes " <code>")
    ∷ Text line
    ∷ Mark (codes "</code></p>\n<p class=\"quiet\">")
    ∷ Mark ASKED_BY.now
    ∷ Mark (codes " ")
    ∷ Text operator
    ∷ Mark (codes "</p>\n<p><a href=\"/")
    ∷ []

-- where to go on, and the end of the page
unfoldable pub told_end : (place label of : List ℕ) → List Part
told_end place label of =
    Text place
    ∷ Mark (codes "\">")
    ∷ Mark label
    ∷ Text of
    ∷ Mark (codes "</a></p>\n</section>\n</main>\n</body>\n</html>\n")
    ∷ []

-- ---- what it came to

-- the script sees by its class that a line was done
abbrev pub look_of : Came → List ℕ
look_of (Done deed) = codes " good"
look_of _ = NOTHING.now

abbrev pub heading_of : Came → List ℕ
heading_of (Done deed) = IS_DONE.now
heading_of _ = WAS_NOT_DONE.now

abbrev pub deed_text : Deed → List ℕ
deed_text Open = IS_OPEN.now
deed_text Grant = IS_GRANTED.now
deed_text Cancel = IS_CANCELED.now
deed_text Hold = IS_HELD_NOW.now
deed_text TurnOn = IS_TURNED_ON.now
deed_text TurnOff = IS_TURNED_OFF.now
deed_text Rate = IS_RATED.now

-- what was done, or why not
abbrev pub came_text : Came → List ℕ
came_text (Done deed) = deed_text deed
came_text (Refused word) = reason word
came_text Failed = TRY_AGAIN.now
came_text NoLine = IS_NO_LINE.now

abbrev pub end_of : Onward → List ℕ
end_of Accounts = html (told_end (codes "") TO_ACCOUNTS.now (codes ""))
end_of Devices = html (told_end (codes "devices.html") DEVICES.now (codes ""))
end_of (Account account) = html (told_end account BACK_TO.now account)

-- ---- the page

unfoldable pub told_page : LineTold → List ℕ
told_page it =
    html (document (heading_of it.came))
    ++ (html (top DESK.now)
    ++ (html (told_start (look_of it.came) (heading_of it.came))
    ++ (came_text it.came
    ++ (html (told_line it.line.now it.operator) ++ end_of it.onward))))
