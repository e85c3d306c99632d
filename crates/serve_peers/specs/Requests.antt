-- Rule: What a request over HTTP asks for, or the first refusal that applies (all this project's
-- own): a browser sent it, another method than POST, a path of no queue, another type of content, a
-- body that ends within the header of its message.
use Rattle.std.specs.Prelude.{ℕ, Bool, false, List, Option, Some, None, Result, Ok, Err, bytes_eq, codes, if◌then◌else◌, length, nat_lt}
use Rattle.http.specs.Request.{body_of, head_of}
use Rattle.http.specs.declared.request.Request.{Request}
use Rattle.http_header.specs.FieldValue.{FieldValue}
use Rattle.http_header.specs.HeaderMap.{get}
use Rattle.http_uri.specs.Uri.{uri_path}
use Rattle.ipp_coding.specs.Limits.{header_length}
use Rattle.input_http.specs.Origins.{is_of_browser}
use Rattle.input_http.specs.Targets.{account_of, is_ipp_type}
use Rattle.input_http.specs.declared.refusal.Refusal.{Refusal}
use Rattle.input_http.specs.declared.refusal.Refusal.TheVariants.{BadRequest, Forbidden, MethodNotAllowed, NotFound, UnsupportedMediaType}

-- the first Content-Type counts
abbrev pub is_ipp_value : Option FieldValue → Bool
is_ipp_value None = false
is_ipp_value (Some value) = is_ipp_type value.bytes

abbrev pub has_ipp : Request (List ℕ) → Bool
has_ipp request = is_ipp_value (get (head_of request).headers (codes "content-type"))

abbrev pub asked_of_queue : (request : Request (List ℕ)) (account : Option (List ℕ))
    → Result (List ℕ) Refusal
asked_of_queue request None = Err NotFound
asked_of_queue request (Some account) =
    if has_ipp request then (
    if nat_lt (length (body_of request)) header_length then Err BadRequest else Ok account
    ) else Err UnsupportedMediaType

-- The account whose queue it is for. What a browser sends may be of any site, under a name that the
-- site has led here.
abbrev pub asked : Request (List ℕ) → Result (List ℕ) Refusal
asked request =
    if is_of_browser request then Err Forbidden
    else if bytes_eq (head_of request).method (codes "POST")
    then asked_of_queue request (account_of (uri_path (head_of request).uri))
    else Err MethodNotAllowed

-- a connection would keep the room that its body took, so it ends with the answer
abbrev pub has_long_body : Request (List ℕ) → Bool
has_long_body request = nat_lt 1048576 (length (body_of request))
