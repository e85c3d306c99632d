-- Rule: What a request of a browser asks for, or the first refusal that applies (all this project's
-- own). They come in this order: where the path takes the method, a query or a form that is none of
-- its path (400); a form of another site (403), a path of nothing (404), another method (405), a file that is too long (413),
-- a body of another type (415).
use Rattle.std.specs.Prelude.{ℕ, Bool, false, ◌||◌, List, [], ◌∷◌, Option, Some, None, Result, Ok, Err, codes, bytes_eq, if◌then◌else◌, length, nat_lt, unwrap_or}
use Rattle.http.specs.Request.{body_of, head_of}
use Rattle.http.specs.declared.request.Request.{Request}
use Rattle.http_header.specs.FieldValue.{FieldValue}
use Rattle.http_uri.specs.Uri.{uri_path, uri_query}
use Rattle.input_http.specs.Words.{before, is_same_word, without_margin}
use Rattle.account_rules.specs.Limits.{longest_document}
use Rattle.input_http.specs.Origins.{is_foreign, value_in}
use Rattle.serve_web.specs.Places.{place_of}
use Rattle.serve_web.specs.Queries.{act_asked, owner_asked, print_asked, room_asked, statement_asked}
use Rattle.serve_web.specs.declared.asked.Asked.{Asked}
use Rattle.serve_web.specs.declared.asked.Asked.TheVariants as asked_is
use Rattle.serve_web.specs.declared.place.Place.{Place}
use Rattle.serve_web.specs.declared.place.Place.TheVariants.{Room, Style, Script, Owner, Statement, Table, Print, Job}
use Rattle.page_pages.specs.declared.statement.Form.TheVariants.{Paper, Csv}
use Rattle.page_pages.specs.declared.refusal.Refusal.{Refusal}
use Rattle.page_pages.specs.declared.refusal.Refusal.TheVariants.{BadRequest, Forbidden, NotFound, OnlyRead, OnlyPost, TooLarge, WrongType}

-- ---- what is asked for there

abbrev pub query_of : Request (List ℕ) → List ℕ
query_of request = unwrap_or (uri_query (head_of request).uri) []

-- None where the query or the form is none of the place
abbrev pub wish : Request (List ℕ) → Place → Option Asked
wish request Room = Some (room_asked (query_of request))
wish request Style = Some asked_is.Style
wish request Script = Some asked_is.Script
wish request (Owner account) = Some (owner_asked account (query_of request))
wish request (Statement account) = statement_asked account Paper (query_of request)
wish request (Table account) = statement_asked account Csv (query_of request)
wish request (Print account) = print_asked account (query_of request)
wish request (Job account job) = act_asked account job (body_of request)

-- ---- the method

abbrev pub is_read : (method : List ℕ) → Bool
is_read method = bytes_eq method (codes "GET") || bytes_eq method (codes "HEAD")

abbrev pub takes : Place → (method : List ℕ) → Bool
takes (Print account) method = bytes_eq method (codes "POST")
takes (Job account job) method = bytes_eq method (codes "POST")
takes _ method = is_read method

abbrev pub other_method : Place → Refusal
other_method (Print account) = OnlyPost
other_method (Job account job) = OnlyPost
other_method _ = OnlyRead

-- ---- the body

-- what stands after ";" does not count (RFC 9110 section 8.3.1)
abbrev pub is_type : (value name : List ℕ) → Bool
is_type value name = is_same_word (without_margin (32 ∷ []) (before 59 value)) name

abbrev pub is_type_value : Option FieldValue → (name : List ℕ) → Bool
is_type_value None name = false
is_type_value (Some value) name = is_type value.bytes name

abbrev pub has_type : Request (List ℕ) → (name : List ℕ) → Bool
has_type request name = is_type_value (value_in request (codes "content-type")) name

abbrev pub form_refusal : Request (List ℕ) → Option Refusal
form_refusal request =
    if has_type request (codes "application/x-www-form-urlencoded")
    then None else Some WrongType

-- a file may be of any type but those of forms, which would send it with more around it
abbrev pub file_refusal : Request (List ℕ) → Option Refusal
file_refusal request =
    if nat_lt longest_document (length (body_of request)) then Some TooLarge
    else if has_type request (codes "application/x-www-form-urlencoded")
    || has_type request (codes "multipart/form-data") then Some WrongType
    else None

abbrev pub body_refusal : Request (List ℕ) → Asked → Option Refusal
body_refusal request (asked_is.Act account act job) = form_refusal request
body_refusal request (asked_is.Print account copies pages) = file_refusal request
body_refusal request _ = None

-- ---- all of it, in order

abbrev pub foreign_or : Request (List ℕ) → Refusal → Refusal
foreign_or request refusal = if is_foreign request then Forbidden else refusal

abbrev pub unless : Option Refusal → Asked → Result Asked Refusal
unless None asked = Ok asked
unless (Some refusal) asked = Err refusal

abbrev pub judged : Request (List ℕ) → Asked → Result Asked Refusal
judged request asked =
    if is_foreign request then Err Forbidden else unless (body_refusal request asked) asked

abbrev pub judged_if : Request (List ℕ) → Option Asked → Result Asked Refusal
judged_if request None = Err BadRequest
judged_if request (Some asked) = judged request asked

abbrev pub asked_at : Request (List ℕ) → Place → Result Asked Refusal
asked_at request place =
    if takes place (head_of request).method
    then judged_if request (wish request place)
    else Err (foreign_or request (other_method place))

abbrev pub asked_if : Request (List ℕ) → Option Place → Result Asked Refusal
asked_if request None = Err (foreign_or request NotFound)
asked_if request (Some place) = asked_at request place

abbrev pub asked : Request (List ℕ) → Result Asked Refusal
asked request = asked_if request (place_of (uri_path (head_of request).uri))
