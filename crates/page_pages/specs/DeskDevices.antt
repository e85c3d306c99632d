-- Rule: The desk's page of devices (all this project's own).
use Rattle.std.specs.Prelude.{ℕ, Bool, true, false, ◌==◌, if◌then◌else◌, length, List, [], ◌∷◌, ◌++◌, codes, flat_map}
use Rattle.account_rules.specs.declared.device.Device.{Device}
use Rattle.page_markup.specs.Parts.{Part, html, Mark, Number, Text}
use Rattle.page_pages.specs.DeskForms.{desk_links, device_form}
use Rattle.page_pages.specs.Devices.{on_sign, on_word}
use Rattle.page_pages.specs.Frames.{card, document, foot, remark, top}
use Rattle.page_pages.specs.declared.markup.TheConstants.{DESK_SCRIPTS, END_OF_CARD, END_OF_PAGE, END_OF_TABLE, LINE_FORM, RATE_FIELD}
use Rattle.page_pages.specs.declared.texts.TheConstants.{ALL_DEVICES, DESK, DEVICES, NO_KNOWN_DEVICES, TURN_OFF, TURN_ON, ACTS, DEVICE, SET, SET_RATE, STATE, UNITS_A_PAGE}

-- the heading of the page
unfoldable pub devices_title : List Part
devices_title =
    Mark (codes "<div class=\"title\"><h1>")
    ∷ Mark DEVICES.now
    ∷ Mark (codes "</h1></div>\n")
    ∷ []

-- the heads of the columns
unfoldable pub desk_columns : List Part
desk_columns =
    Mark (codes "<table class=\"jobs dense\">\n<thead><tr><th scope=\"col\">")
    ∷ Mark DEVICE.now
    ∷ Mark (codes "</th><th scope=\"col\">")
    ∷ Mark STATE.now
    ∷ Mark (codes "</th><th scope=\"col\" class=\"count\">")
    ∷ Mark UNITS_A_PAGE.now
    ∷ Mark (codes "</th><th scope=\"col\"><span class=\"unseen\">")
    ∷ Mark ACTS.now
    ∷ Mark (codes "</span></th></tr></thead>\n<tbody>\n")
    ∷ []

-- how a device stands
unfoldable pub desk_device : (name symbol state : List ℕ) (rate : ℕ) → List Part
desk_device name symbol state rate =
    Mark (codes "<tr><th scope=\"row\">")
    ∷ Text name
    ∷ Mark (codes "</th><td><span class=\"state\"><svg class=\"sign\" ")
    ∷ Mark (codes "aria-hidden=\"true\"><use href=\"#")
    ∷ Mark symbol
    ∷ Mark (codes "\"/></svg>")
    ∷ Mark state
    ∷ Mark (codes "</span></td><td class=\"count\" data-label=\"")
    ∷ Mark UNITS_A_PAGE.now
    ∷ Mark (codes "\">")
    ∷ Number rate
    ∷ Mark (codes "</td>")
    ∷ []

-- sets what a page costs on it
unfoldable pub rate_form : (name : List ℕ) (rate : ℕ) → List Part
rate_form name rate =
    Mark (codes "<td class=\"acts\"><div>")
    ∷ Mark LINE_FORM.now
    ∷ Mark (codes "><input type=\"hidden\" name=\"act\" value=\"rate\"><input ")
    ∷ Mark (codes "type=\"hidden\" name=\"name\" value=\"")
    ∷ Text name
    ∷ Mark (codes "\"><input class=\"few\" name=\"units\" value=\"")
    ∷ Number rate
    ∷ Mark (codes "\"")
    ∷ Mark RATE_FIELD.now
    ∷ Mark (codes " aria-label=\"")
    ∷ Mark UNITS_A_PAGE.now
    ∷ Mark (codes " ")
    ∷ Text name
    ∷ Mark (codes "\"><button aria-label=\"")
    ∷ Mark SET_RATE.now
    ∷ Mark (codes " ")
    ∷ Text name
    ∷ Mark (codes "\">")
    ∷ Mark SET.now
    ∷ Mark (codes "</button></form>\n")
    ∷ []

-- turns it on or off
unfoldable pub switch_form : (name turned label : List ℕ) → List Part
switch_form name turned label =
    Mark LINE_FORM.now
    ∷ Mark (codes "><input type=\"hidden\" name=\"act\" value=\"device\"><input ")
    ∷ Mark (codes "type=\"hidden\" name=\"name\" value=\"")
    ∷ Text name
    ∷ Mark (codes "\"><button name=\"state\" value=\"")
    ∷ Mark turned
    ∷ Mark (codes "\" aria-label=\"")
    ∷ Mark label
    ∷ Mark (codes " ")
    ∷ Text name
    ∷ Mark (codes "\">")
    ∷ Mark label
    ∷ Mark (codes "</button></form></div></td></tr>\n")
    ∷ []

-- ---- the other way

abbrev pub other_state : (on : Bool) → List ℕ
other_state true = codes "off"
other_state false = codes "on"

abbrev pub other_label : (on : Bool) → List ℕ
other_label true = TURN_OFF.now
other_label false = TURN_ON.now

-- ---- the page

unfoldable pub desk_row : Device → List ℕ
desk_row it =
    html (desk_device it.name (on_sign it.on) (on_word it.on) it.rate)
    ++ (html (rate_form it.name it.rate)
    ++ html (switch_form it.name (other_state it.on) (other_label it.on)))

abbrev pub table_of_devices : List Device → List ℕ
table_of_devices devices =
    if length devices == 0
    then html (remark NO_KNOWN_DEVICES.now)
    else html desk_columns ++ (flat_map desk_row devices ++ END_OF_TABLE.now)

unfoldable pub devices_table : List Device → List ℕ
devices_table devices =
    html (card (codes "devices") ALL_DEVICES.now) ++ (table_of_devices devices ++ END_OF_CARD.now)

unfoldable pub devices_head : List ℕ
devices_head = html (document DEVICES.now) ++ DESK_SCRIPTS.now

unfoldable pub devices_start : List ℕ
devices_start =
    devices_head ++ (html (top DESK.now) ++ (html desk_links ++ html devices_title))

unfoldable pub devices_page : List Device → List ℕ
devices_page devices =
    devices_start
    ++ (devices_table devices ++ (html device_form ++ (html foot ++ END_OF_PAGE.now)))
