-- Rule: What a request at the desk asks for, or the first refusal that applies (all this project's own).
-- They come in the order of the pages: where the path takes the method, a query that is none of its path
-- (400); a form of another site (403), a path of nothing (404), another method (405), a form of over 4096
-- bytes (400), a body that is no form (415).
use Rattle.std.specs.Prelude.{◌≡◌, ℕ, Bool, List, Option, Some, None, Result, Ok, Err, bytes_eq, codes, if◌then◌else◌, length, nat_lt}
use Rattle.http.specs.Request.{body_of, head_of}
use Rattle.http.specs.declared.request.Request.{Request}
use Rattle.http_uri.specs.Uri.{uri_path}
use Rattle.input_http.specs.Origins.{is_foreign}
use Rattle.page_pages.specs.declared.refusal.Refusal.{Refusal}
use Rattle.page_pages.specs.declared.refusal.Refusal.TheVariants.{BadRequest, Forbidden, NotFound, OnlyRead, OnlyPost}
use Rattle.page_pages.specs.declared.statement.Form.TheVariants.{Paper, Csv}
use Rattle.serve_web.specs.Queries.{statement_asked}
use Rattle.serve_web.specs.Requests.{form_refusal, foreign_or, is_read, query_of}
use Rattle.serve_desk.specs.Places.{listed_in, place_of}
use Rattle.serve_desk.specs.declared.asked.Asked.{Asked}
use Rattle.serve_desk.specs.declared.asked.TheConstants.{MOST_FORM}
use Rattle.serve_web.specs.declared.asked.Asked.{Asked as PageAsked}
use Rattle.serve_desk.specs.declared.asked.Asked.TheVariants as asked_is
use Rattle.serve_desk.specs.declared.place.Place.{Place}
use Rattle.serve_desk.specs.declared.place.Place.TheVariants.{Room, Devices, Style, Script, DeskScript, Line, Account, Statement, Table}

abbrev pub shown : Option PageAsked → Option Asked
shown None = None
shown (Some asks) = Some (asked_is.Statement asks)

-- None where the query is none of the place
abbrev pub wish : Request (List ℕ) → Place → Option Asked
wish request Room = Some (asked_is.Room (listed_in (query_of request)))
wish request Devices = Some asked_is.Devices
wish request Style = Some asked_is.Style
wish request Script = Some asked_is.Script
wish request DeskScript = Some asked_is.DeskScript
wish request Line = Some asked_is.Line
wish request (Account account) = Some (asked_is.Account account)
wish request (Statement account) =
    shown (statement_asked account Paper (query_of request))
wish request (Table account) =
    shown (statement_asked account Csv (query_of request))

abbrev pub takes : Place → (method : List ℕ) → Bool
takes Line method = bytes_eq method (codes "POST")
takes _ method = is_read method

abbrev pub other_method : Place → Refusal
other_method Line = OnlyPost
other_method _ = OnlyRead

-- a line comes as a form, which is short
abbrev pub line_refusal : Request (List ℕ) → Option Refusal
line_refusal request =
    if nat_lt MOST_FORM (length (body_of request)) then Some BadRequest else form_refusal request

abbrev pub body_refusal : Request (List ℕ) → Asked → Option Refusal
body_refusal request asked_is.Line = line_refusal request
body_refusal request _ = None

abbrev pub unless : Option Refusal → Asked → Result Asked Refusal
unless None asked = Ok asked
unless (Some refusal) asked = Err refusal

abbrev pub judged : Request (List ℕ) → Asked → Result Asked Refusal
judged request asked =
    if is_foreign request then Err Forbidden else unless (body_refusal request asked) asked

abbrev pub judged_if : Request (List ℕ) → Option Asked → Result Asked Refusal
judged_if request None = Err BadRequest
judged_if request (Some asked) = judged request asked

abbrev pub asked_at : Request (List ℕ) → Place → Result Asked Refusal
asked_at request place =
    if takes place (head_of request).method
    then judged_if request (wish request place)
    else Err (foreign_or request (other_method place))

abbrev pub asked_if : Request (List ℕ) → Option Place → Result Asked Refusal
asked_if request None = Err (foreign_or request NotFound)
asked_if request (Some place) = asked_at request place

abbrev pub asked : Request (List ℕ) → Result Asked Refusal
asked request = asked_if request (place_of (uri_path (head_of request).uri))

-- it asks a line
abbrev pub WantsLine : Request (List ℕ) → Type 0
WantsLine request = asked request ≡ Ok asked_is.Line
