-- Rule: The card that shows what is left of an account's quota, as a bar and in numbers.
use Rattle.std.specs.Prelude.{ℕ, pos, ◌-◌, ◌*◌, ◌/◌, ◌==◌, if◌then◌else◌, min, List, [], ◌∷◌, ◌++◌, codes}
use Rattle.std.specs.Fmt.{signed_decimal}
use Rattle.account_rules.specs.Quota.{left_of}
use Rattle.page_markup.specs.Parts.{Part, html, Mark, Number}
use Rattle.page_pages.specs.declared.texts.TheConstants.{CHARGED, GRANTED, LEFT, RESERVED, UNITS_LEFT}

-- a part of the whole in thousandths, at most all of them
abbrev pub permille : (part whole : ℕ) → ℕ
permille part whole = if whole == 0 then 0 else min part whole * 1000 / whole

-- the width of the reserved part, in thousandths of the bar: at most what the charges leave
abbrev pub reserved_width : (granted reserved charged : ℕ) → ℕ
reserved_width granted reserved charged =
    min (permille reserved granted) (1000 - permille charged granted)

-- the start of the card, which tells how many units are left
unfoldable pub units_left : (left : List ℕ) → List Part
units_left left =
    Mark (codes "<section class=\"card balance\" aria-labelledby=\"left\">\n<div><h2 ")
    ∷ Mark (codes "id=\"left\">")
    ∷ Mark UNITS_LEFT.now
    ∷ Mark (codes "</h2>\n<p class=\"big\">")
    ∷ Mark left
    ∷ Mark (codes "</p></div>\n<div>")
    ∷ []

-- a bar, whose two parts have widths in thousandths of it
unfoldable pub bar : (charged reserved : ℕ) → List Part
bar charged reserved =
    Mark (codes "<svg class=\"bar\" viewBox=\"0 0 1000 1\" preserveAspectRatio=\"none\" ")
    ∷ Mark (codes "aria-hidden=\"true\"><rect class=\"charged\" width=\"")
    ∷ Number charged
    ∷ Mark (codes "\" height=\"1\"/><rect class=\"reserved\" x=\"")
    ∷ Number charged
    ∷ Mark (codes "\" width=\"")
    ∷ Number reserved
    ∷ Mark (codes "\" height=\"1\"/></svg>\n")
    ∷ []

-- the units of a quota, and the end of the card
unfoldable pub quota_facts : (granted reserved charged : ℕ) (left : List ℕ) → List Part
quota_facts granted reserved charged left =
    Mark (codes "<dl class=\"facts\">\n<div><dt class=\"key key-charged\">")
    ∷ Mark CHARGED.now
    ∷ Mark (codes "</dt><dd>")
    ∷ Number charged
    ∷ Mark (codes "</dd></div>\n<div><dt class=\"key key-reserved\">")
    ∷ Mark RESERVED.now
    ∷ Mark (codes "</dt><dd>")
    ∷ Number reserved
    ∷ Mark (codes "</dd></div>\n<div><dt class=\"key\">")
    ∷ Mark LEFT.now
    ∷ Mark (codes "</dt><dd>")
    ∷ Mark left
    ∷ Mark (codes "</dd></div>\n<div><dt>")
    ∷ Mark GRANTED.now
    ∷ Mark (codes "</dt><dd>")
    ∷ Number granted
    ∷ Mark (codes "</dd></div>\n</dl></div>\n</section>\n")
    ∷ []

abbrev pub left_text : (granted reserved charged : ℕ) → List ℕ
left_text granted reserved charged =
    signed_decimal (left_of (pos granted) (pos reserved) (pos charged))

unfoldable pub quota : (granted reserved charged : ℕ) (left : List ℕ) → List ℕ
quota granted reserved charged left =
    html (units_left left)
    ++ (html (bar (permille charged granted) (reserved_width granted reserved charged))
    ++ html (quota_facts granted reserved charged left))

abbrev pub balance : (granted reserved charged : ℕ) → List ℕ
balance granted reserved charged =
    quota granted reserved charged (left_text granted reserved charged)
