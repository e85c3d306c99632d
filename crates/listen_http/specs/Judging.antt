-- Rule: What a whole head is refused for, the first of these that applies, or what it orders (all
-- this project's own): a body that cannot be told, another method than POST, a path of no queue,
-- another type of content, a body that is too long.
use Rattle.std.specs.Prelude.{◌==◌, ◌&&◌, ◌||◌, ℕ, ◌≤◌, Bool, false, List, [], ◌∷◌, Option, Some, None, Result, Ok, Err, bytes_eq, codes, if◌then◌else◌, map, nat_lt, ⊤}
use Rattle.std.specs.List.{list_any}
use Rattle.httparse.specs.Grammar.{RequestHead}
use Rattle.httparse.specs.Spans.{name_and_value}
use Rattle.input_http.specs.Limits.{longest_body}
use Rattle.listen_http.specs.Fields.{NameAndValue, is_named, plain_field, values_named}
use Rattle.listen_http.specs.Framing.{framing_of}
use Rattle.input_http.specs.Targets.{account_of, is_ipp_type}
use Rattle.input_http.specs.Words.{is_same_word}
use Rattle.listen_http.specs.Words.{lists}
use Rattle.listen_http.specs.declared.framing.Framing.{Framing}
use Rattle.listen_http.specs.declared.framing.Framing.TheVariants.{Length, Chunked}
use Rattle.listen_http.specs.declared.judging.Order.{Order}
use Rattle.listen_http.specs.declared.judging.Request.{Request}
use Rattle.input_http.specs.declared.refusal.Refusal.{Refusal}
use Rattle.input_http.specs.declared.refusal.Refusal.TheVariants.{BadRequest, MethodNotAllowed, NotFound, UnsupportedMediaType, PayloadTooLarge}

-- ---- what a head says

pub record Said : Type 0 where
  pub method : List ℕ
  pub target : List ℕ
  pub minor : ℕ
  pub fields : List NameAndValue

abbrev pub said_by : RequestHead → Said
said_by h = record {
  method = h.method;
  target = h.target;
  minor = h.minor;
  fields = map name_and_value h.fields;
}

abbrev pub said : Request → Said
said request = record {
  method = request.method.now;
  target = request.target.now;
  minor = request.minor;
  fields = map plain_field request.fields.now;
}

-- ---- what its body is

-- the first Content-Type counts
abbrev pub is_ipp : List (List ℕ) → Bool
is_ipp [] = false
is_ipp (value ∷ values) = is_ipp_type value

abbrev pub passes_limit : Framing → Bool
passes_limit (Length n) = nat_lt longest_body n
passes_limit Chunked = false

abbrev pub FitsLimit : Framing → Type 0
FitsLimit (Length n) = n ≤ longest_body
FitsLimit Chunked = ⊤

-- ---- what it asks of the connection

-- the client waits for the 100 text before it sends the body (RFC 9110 section 10.1.1)
abbrev pub is_expectation : NameAndValue → Bool
is_expectation field =
    is_named (codes "expect") field && is_same_word field.1 (codes "100-continue")

abbrev pub expects : Said → Bool
expects said = said.minor == 1 && list_any is_expectation said.fields

-- the connection ends with the answer (RFC 9112 section 9.6)
abbrev pub is_close : NameAndValue → Bool
is_close field = is_named (codes "connection") field && lists (codes "close") field.1

abbrev pub closes : Said → Bool
closes said = said.minor == 0 || list_any is_close said.fields

-- ---- the refusals in their order

abbrev pub ordered : (said : Said) (framing : Framing) (account : List ℕ) → Order
ordered said framing account =
    record { account = account; framing = framing; expects = expects said; closes = closes said }

abbrev pub judged_account : (said : Said) (framing : Framing) (account : Option (List ℕ))
    → Result Order Refusal
judged_account said framing None = Err NotFound
judged_account said framing (Some account) =
    if is_ipp (values_named (codes "content-type") said.fields) then (
    if passes_limit framing then Err PayloadTooLarge else Ok (ordered said framing account)
    ) else Err UnsupportedMediaType

abbrev pub judged_framing : Said → Option Framing → Result Order Refusal
judged_framing said None = Err BadRequest
judged_framing said (Some framing) =
    if bytes_eq said.method (codes "POST")
    then judged_account said framing (account_of said.target)
    else Err MethodNotAllowed

unfoldable pub judged : Said → Result Order Refusal
judged said = judged_framing said (framing_of said.fields)
