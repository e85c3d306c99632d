-- Rule: The desk's first page (all this project's own).
use Rattle.std.specs.Prelude.{ℕ, ◌||◌, List, ◌++◌, is_none}
use Rattle.page_markup.specs.Parts.{html}
use Rattle.page_pages.specs.Accounts.{accounts_card}
use Rattle.page_pages.specs.Begun.{begun_card}
use Rattle.page_pages.specs.DeskForms.{desk_links, file_form, open_form}
use Rattle.page_pages.specs.Frames.{document, foot, top}
use Rattle.page_pages.specs.Longest.{longest_card}
use Rattle.page_pages.specs.Rooms.{front_text, reload_if, room_head}
use Rattle.page_pages.specs.declared.markup.TheConstants.{DESK_SCRIPTS, END_OF_PAGE, END_OF_PAIR, PAIR}
use Rattle.page_pages.specs.declared.room.Room.{Room}
use Rattle.page_pages.specs.declared.texts.TheConstants.{DESK}

-- it loads itself anew as the print room's page does
unfoldable pub desk_document : Room → List ℕ
desk_document it = html (document DESK.now) ++ reload_if (it.gathers || is_none it.as_of)

unfoldable pub desk_start : Room → List ℕ
desk_start it =
    desk_document it ++ (DESK_SCRIPTS.now ++ (html (top DESK.now) ++ html desk_links))

unfoldable pub desk_forms : List ℕ
desk_forms = PAIR.now ++ (html open_form ++ (html file_form ++ END_OF_PAIR.now))

unfoldable pub desk_lists : Room → List ℕ
desk_lists it =
    accounts_card (front_text it.front) it.accounts.now it.behind
    ++ (PAIR.now
    ++ (begun_card it.begun.now ++ (longest_card it.longest.now ++ END_OF_PAIR.now)))

unfoldable pub desk_page : Room → List ℕ
desk_page it =
    desk_start it
    ++ (room_head it ++ (desk_forms ++ (desk_lists it ++ (html foot ++ END_OF_PAGE.now))))
