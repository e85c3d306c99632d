-- Rule: The texts of HTTP answers that are written: status lines (RFC 9112 section 4) and header
-- fields.
use Rattle.std.specs.Prelude.{ℕ, Bool, true, false, List, [], ◌++◌, codes, decimal, if◌then◌else◌, length, unwrap_or}
use Rattle.http.specs.StatusCode.{code_digits, reason_phrase}
use Rattle.input_http.specs.declared.refusal.Refusal.{Refusal}
use Rattle.input_http.specs.declared.refusal.Refusal.TheVariants.{BadRequest, Forbidden, MethodNotAllowed, NotFound, UnsupportedMediaType, PayloadTooLarge, HeadTooLarge, NoSpace}

abbrev pub status_of : Refusal → ℕ
status_of BadRequest = 400
status_of Forbidden = 403
status_of NotFound = 404
status_of MethodNotAllowed = 405
status_of PayloadTooLarge = 413
status_of UnsupportedMediaType = 415
status_of HeadTooLarge = 431
status_of NoSpace = 503

unfoldable pub status_line : ℕ → List ℕ
status_line status = codes "HTTP/1.1 " ++ code_digits status ++ codes " "
    ++ unwrap_or (reason_phrase status) [] ++ codes "\r\n"

-- a refusal of the method names the one that there is (RFC 9110 section 15.5.6), and one for want
-- of space tells after how many seconds to ask again (RFC 9110 section 10.2.3)
abbrev pub more_fields : Refusal → List ℕ
more_fields MethodNotAllowed = codes "Allow: POST\r\n"
more_fields NoSpace = codes "Retry-After: 60\r\n"
more_fields _ = []

abbrev pub refusal_text : Refusal → List ℕ
refusal_text refusal = status_line (status_of refusal)
    ++ codes "Content-Length: 0\r\nConnection: close\r\n" ++ more_fields refusal ++ codes "\r\n"

-- the text that a client may wait for before it sends the body
abbrev pub interim_text : Bool → List ℕ
interim_text false = []
interim_text true = codes "HTTP/1.1 100 Continue\r\n\r\n"

abbrev pub close_field : Bool → List ℕ
close_field closes = if closes then codes "Connection: close\r\n" else []

abbrev pub answer_head : (size : ℕ) (closes : Bool) → List ℕ
answer_head size closes =
    status_line 200 ++ codes "Content-Type: application/ipp\r\nContent-Length: " ++ decimal size
    ++ codes "\r\n" ++ close_field closes ++ codes "\r\n"

-- an answer of IPP
abbrev pub answer_text : (answer : List ℕ) (closes : Bool) → List ℕ
answer_text answer closes = answer_head (length answer) closes ++ answer
