-- Rule: What a job that waits costs, whether its owner is offered to release it, and what helps
-- where too little is left (all this project's own).
use Rattle.std.specs.Prelude.{ℕ, ℤ, Bool, ◌&&◌, ◌||◌, not, ◌==◌, nat_lt, nat_le, if◌then◌else◌, List, [], ◌∷◌, ◌++◌, Option, Some, None, codes, find}
use Rattle.std.specs.Fmt.{signed_decimal}
use Rattle.std.specs.List.{list_all}
use Rattle.account_rules.specs.Limits.{most_need}
use Rattle.account_rules.specs.Quota.{exceeds, need_of}
use Rattle.account_rules.specs.declared.device.Device.{Device}
use Rattle.account_rules.specs.declared.job.Standing.{Standing}
use Rattle.page_markup.specs.Parts.{Part, html, Mark, Text, Number}
use Rattle.page_pages.specs.Phases.{sentence}
use Rattle.page_pages.specs.Reasons.{quota_reason}
use Rattle.page_pages.specs.declared.offer.Terms.{Terms}
use Rattle.page_pages.specs.declared.phase.Phase.{Phase}
use Rattle.page_pages.specs.declared.phase.Phase.TheVariants.{Incomplete, Locked, Uncounted, Ready}
use Rattle.page_pages.specs.declared.texts.TheConstants.{AT_DEVICE, ENOUGH_FOR, IS_READY, IS_READY_ELSEWHERE, IS_READY_LATER, IS_SHORT, LITTLE_FOR, LITTLE_FOR_ALL, NOT_KNOWN, UNITS_NEEDED_BY_JOB}

-- ---- where printing is cheapest, and where it is dearest

-- a page counts no more, or no less, on the first than on the other, if that is on
abbrev pub is_at_most : Device → Device → Bool
is_at_most it other = not other.on || nat_le it.rate other.rate

abbrev pub is_at_least : Device → Device → Bool
is_at_least it other = not other.on || nat_le other.rate it.rate

-- it is on, and a page counts no more there than on any other that is
abbrev pub is_cheapest : List Device → Device → Bool
is_cheapest devices it = it.on && list_all (is_at_most it) devices

abbrev pub is_dearest : List Device → Device → Bool
is_dearest devices it = it.on && list_all (is_at_least it) devices

-- the first of these; None where no device is on
abbrev pub cheapest : List Device → Option Device
cheapest devices = find (is_cheapest devices) devices

abbrev pub dearest : List Device → Option Device
dearest devices = find (is_dearest devices) devices

-- ---- prices

-- the units that a release at this rate reserves; 0 where the pages are not known
abbrev pub need : Standing → (rate : ℕ) → ℕ
need s rate = need_of s.impressions s.copies rate

-- no release needs more than the limits allow
abbrev pub price : Standing → (rate : ℕ) → ℕ
price s rate = if nat_lt most_need (need s rate) then 0 else need s rate

unfoldable pub price_start : List Part
price_start =
    Mark (codes "<td class=\"count\" data-label=\"")
    ∷ Mark UNITS_NEEDED_BY_JOB.now
    ∷ Mark (codes "\">")
    ∷ []

-- wherever it is printed
unfoldable pub one_price : (units : ℕ) → List Part
one_price units = Number units ∷ []

unfoldable pub no_price : List Part
no_price = Mark NOT_KNOWN.now ∷ []

-- the least and the most, with a device of each
unfoldable pub two_prices : (least : ℕ) (cheap : List ℕ) (most : ℕ) (dear : List ℕ) → List Part
two_prices least cheap most dear =
    Number least
    ∷ Mark (codes "<small>")
    ∷ Mark AT_DEVICE.now
    ∷ Text cheap
    ∷ Mark (codes "</small>")
    ∷ Number most
    ∷ Mark (codes "<small>")
    ∷ Mark AT_DEVICE.now
    ∷ Text dear
    ∷ Mark (codes "</small>")
    ∷ []

-- one figure where both agree
abbrev pub prices : (least : ℕ) (cheap : List ℕ) (most : ℕ) (dear : List ℕ) → List ℕ
prices least cheap most dear =
    if least == 0 || most == 0 then html no_price else
    if least == most then html (one_price least) else
    html (two_prices least cheap most dear)

-- where no device is on, what the owner's release reserves
abbrev pub prices_at : Standing → (cheap dear : Option Device) → List ℕ
prices_at s None dear = prices (price s 1) [] (price s 1) []
prices_at s (Some cheap) None = prices (price s 1) [] (price s 1) []
prices_at s (Some cheap) (Some dear) =
    prices (price s cheap.rate) cheap.name (price s dear.rate) dear.name

-- what a release has reserved is what it costs at most
abbrev pub prices_in : Phase → Terms → Standing → List ℕ
prices_in Incomplete terms s = prices_at s terms.cheapest terms.dearest
prices_in Locked terms s = prices_at s terms.cheapest terms.dearest
prices_in Uncounted terms s = prices_at s terms.cheapest terms.dearest
prices_in Ready terms s = prices_at s terms.cheapest terms.dearest
prices_in _ terms s = html (one_price s.reserved)

unfoldable pub price_cell : Phase → Terms → Standing → List ℕ
price_cell phase terms s = html price_start ++ (prices_in phase terms s ++ codes "</td>\n")

-- ---- the owner's release, which reserves at rate 1 and binds no device

-- the units that it reserves; None where more is needed than what is left
abbrev pub offer : (left : ℤ) → Standing → Option ℕ
offer left s = if exceeds (need s 1) left then None else Some (need s 1)

-- it prints where a page counts 1 unit
abbrev pub ready_at : (cheap : Option Device) → List ℕ
ready_at None = IS_READY_LATER.now
ready_at (Some cheap) = if cheap.rate == 1 then IS_READY.now else IS_READY_ELSEWHERE.now

abbrev pub ready_sentence : (offered : Option ℕ) (cheap : Option Device) → List ℕ
ready_sentence None cheap = IS_SHORT.now
ready_sentence (Some units) cheap = ready_at cheap

abbrev pub why : Phase → Terms → Standing → List ℕ
why Ready terms s = ready_sentence (offer terms.left s) terms.cheapest
why phase terms s = sentence phase

-- ---- what helps

-- too little is left for any device
unfoldable pub short_advice : (units : ℕ) (left : ℤ) → List ℕ
short_advice units left = codes " " ++ html (quota_reason units (signed_decimal left))

-- for each that is on
unfoldable pub none_affordable : List Part
none_affordable = Mark LITTLE_FOR_ALL.now ∷ []

-- for one, and not for another
unfoldable pub cheaper_advice : (cheap dear : List ℕ) → List Part
cheaper_advice cheap dear =
    Mark LITTLE_FOR.now
    ∷ Text dear
    ∷ Mark ENOUGH_FOR.now
    ∷ Text cheap
    ∷ Mark (codes ".")
    ∷ []

abbrev pub advice_between : (left : ℤ) → Standing → (cheap dear : Device) → List ℕ
advice_between left s cheap dear =
    if exceeds (need s cheap.rate) left then html none_affordable else
    if exceeds (need s dear.rate) left then html (cheaper_advice cheap.name dear.name) else []

abbrev pub advice_at : (left : ℤ) → Standing → (cheap dear : Option Device) → List ℕ
advice_at left s None dear = []
advice_at left s (Some cheap) None = []
advice_at left s (Some cheap) (Some dear) = advice_between left s cheap dear

abbrev pub advice_of : Terms → Standing → List ℕ
advice_of terms s =
    if s.impressions == 0 then [] else
    if exceeds (need s 1) terms.left then short_advice (price s 1) terms.left else
    advice_at terms.left s terms.cheapest terms.dearest

-- of a job that could be released, here or with its password at a device
abbrev pub advice : Phase → Terms → Standing → List ℕ
advice Ready terms s = advice_of terms s
advice Locked terms s = advice_of terms s
advice phase terms s = []
