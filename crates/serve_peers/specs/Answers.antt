-- Rule: Which request gets which response, and what it does to the rooms (all this project's own).
use Rattle.std.specs.Prelude.{◌≡◌, ◌⊎◌, ℕ, Bool, List, [], ◌∷◌, codes, if◌then◌else◌, Result, Ok, Err}
use Rattle.http.specs.Request.{body_of}
use Rattle.http.specs.declared.request.Request.{Request}
use Rattle.http1.specs.Fields.{Header as Field}
use Rattle.http_server.specs.Response.{IsResponse}
use Rattle.http_server.specs.declared.response.Response.{Response}
use Rattle.sqlite_trees.specs.declared.store.Store.{Ghosts}
use Rattle.ipp_coding.specs.Reading.{header_in}
use Rattle.ipp_coding.specs.declared.message.Header.{Header}
use Rattle.account_machine.specs.Verdicts.{reply_of}
use Rattle.account_machine.specs.declared.event.Reply.{Reply}
use Rattle.account_machine.specs.declared.event.Reply.TheVariants as reply_is
use Rattle.account_machine.specs.declared.verdict.Answered.{Answered}
use Rattle.input_http.specs.Texts.{status_of}
use Rattle.input_http.specs.declared.refusal.Refusal.{Refusal}
use Rattle.input_http.specs.declared.refusal.Refusal.TheVariants.{MethodNotAllowed, NoSpace, NotFound}
use Rattle.store_rounds.specs.declared.fault.StoreFault.{StoreFault}
use Rattle.account_replies.specs.Replies.{internal_error_text}
use Rattle.serve_peers.specs.declared.entry.Entry.TheVariants as entry
use Rattle.serve_peers.specs.declared.served.Served.{Served}
use Rattle.serve_peers.specs.Journals.{moment_of}
use Rattle.serve_peers.specs.Turns.{AppliesNext}
use Rattle.serve_peers.specs.Requests.{has_long_body}
use Rattle.serve_peers.specs.Space.{wanted}

-- ---- the fields

abbrev pub close_fields : Bool → List Field
close_fields closes = if closes then (codes "connection", codes "close") ∷ [] else []

abbrev pub answer_fields : Bool → List Field
answer_fields closes = (codes "content-type", codes "application/ipp") ∷ close_fields closes

-- a refusal of the method names the one that there is (RFC 9110 section 15.5.6), and one for want of
-- space tells after how many seconds to ask again (RFC 9110 section 10.2.3)
abbrev pub refusal_fields : (why : Refusal) (closes : Bool) → List Field
refusal_fields MethodNotAllowed closes = (codes "allow", codes "POST") ∷ close_fields closes
refusal_fields NoSpace closes = (codes "retry-after", codes "60") ∷ close_fields closes
refusal_fields _ closes = close_fields closes

-- ---- the responses

abbrev pub IsRefusal : (why : Refusal) (closes : Bool) (response : Response) → Type 0
IsRefusal why closes = IsResponse (status_of why) (refusal_fields why closes) []

-- the answer, 404 where the account is not open, and internal-error for any fault of the store
abbrev pub IsTold : (header : Header) (closes : Bool) (told : Result Reply StoreFault)
    (response : Response) → Type 0
IsTold header closes (Ok (reply_is.Ipp answer)) = IsResponse 200 (answer_fields closes) answer
IsTold header closes (Ok reply_is.NoAccount) = IsRefusal NotFound closes
IsTold header closes (Ok other) = IsResponse 200 (answer_fields closes) (internal_error_text header)
IsTold header closes (Err fault) =
    IsResponse 200 (answer_fields closes) (internal_error_text header)

-- the answer is lost, not what was asked: there was no memory for its text
abbrev pub IsLost : Response → Type 0
IsLost = IsResponse 500 [] []

-- ---- what happens to the rooms

module _ {S : Type 0} (store : Ghosts S) where
  -- the message is applied, once, at the moment, and stands in the journal; what it came to is told
  pub record Sends (account : List ℕ) (old : Served S) (request : Request (List ℕ))
      (response : Response) (new : Served S) : Type 0 where
    pub told : Result Answered StoreFault
    pub next : AppliesNext store (entry.Message (moment_of old) account (body_of request)) told
        old new
    pub tells : IsTold (header_in (body_of request)) (has_long_body request) (reply_of told)
        response ⊎ IsLost response

  abbrev pub Gives : (wants : Result (List ℕ) Refusal) (old : Served S) (request : Request (List ℕ))
      (response : Response) (new : Served S) → Type 0
  Gives (Ok account) old request response new = Sends account old request response new
  Gives (Err why) old request response new =
      IsRefusal why (has_long_body request) response × (new ≡ old)

  -- the one response to a request, and the rooms after it
  abbrev pub Answers : (old : Served S) (request : Request (List ℕ)) (response : Response)
      (new : Served S) → Type 0
  Answers old request response new = Gives (wanted old request) old request response new
