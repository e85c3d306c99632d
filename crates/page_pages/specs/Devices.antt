-- Rule: The devices, and what a page costs on each.
use Rattle.std.specs.Prelude.{ℕ, Bool, true, false, ◌==◌, if◌then◌else◌, length, List, [], ◌∷◌, ◌++◌, codes, flat_map}
use Rattle.std.specs.List.{list_any}
use Rattle.account_rules.specs.declared.device.Device.{Device}
use Rattle.page_pages.specs.Frames.{card, remark}
use Rattle.page_markup.specs.Parts.{Part, html, Mark, Text, Number}
use Rattle.page_pages.specs.declared.markup.TheConstants.{END_OF_CARD, END_OF_LIST, LIST_OF_DEVICES}
use Rattle.page_pages.specs.declared.texts.TheConstants.{DEVICES, NO_DEVICES, OFF, ON, UNITS_A_PAGE}

-- a device, and what a page costs on it
unfoldable pub device_item : (look name symbol state : List ℕ) (rate : ℕ) → List Part
device_item look name symbol state rate =
    Mark (codes "<li")
    ∷ Mark look
    ∷ Mark (codes "><b>")
    ∷ Text name
    ∷ Mark (codes "</b><span class=\"state\">")
    ∷ Mark (codes "<svg class=\"sign\" aria-hidden=\"true\"><use href=\"#")
    ∷ Mark symbol
    ∷ Mark (codes "\"/></svg>")
    ∷ Mark state
    ∷ Mark (codes "</span>\n<span>")
    ∷ Mark UNITS_A_PAGE.now
    ∷ Mark (codes ": ")
    ∷ Number rate
    ∷ Mark (codes "</span></li>\n")
    ∷ []

abbrev pub look_of : (on : Bool) → List ℕ
look_of true = []
look_of false = codes " class=\"off\""

abbrev pub on_sign : (on : Bool) → List ℕ
on_sign true = codes "on"
on_sign false = codes "off"

abbrev pub on_word : (on : Bool) → List ℕ
on_word true = ON.now
on_word false = OFF.now

unfoldable pub device_row : Device → List ℕ
device_row it = html
    (device_item (look_of it.on) it.name (on_sign it.on) (on_word it.on) it.rate)

abbrev pub is_on : Device → Bool
is_on it = it.on

-- that none is on
abbrev pub words_of_none : List Device → List ℕ
words_of_none devices =
    if list_any is_on devices then [] else html (remark NO_DEVICES.now)

-- those too that are off
abbrev pub list_if_any : List Device → List ℕ
list_if_any devices =
    if length devices == 0 then []
    else LIST_OF_DEVICES.now ++ (flat_map device_row devices ++ END_OF_LIST.now)

unfoldable pub all_devices : List Device → List ℕ
all_devices devices =
    html (card (codes "devices") DEVICES.now)
    ++ (words_of_none devices ++ (list_if_any devices ++ END_OF_CARD.now))
