-- Rule: The responses to browsers (all this project's own, where no standard is named).
use Rattle.std.specs.Prelude.{ℕ, Bool, true, false, List, [], ◌∷◌, ◌++◌, codes, decimal, bytes_eq, Result, Ok, Err}
use Rattle.http_server.specs.Response.{IsResponse}
use Rattle.http_server.specs.declared.response.Response.{Response}
use Rattle.account_machine.specs.declared.event.Reply.{Reply}
use Rattle.account_machine.specs.declared.event.Reply.TheVariants as reply_is
use Rattle.account_machine.specs.declared.verdict.Answered.{Answered}
use Rattle.page_pages.specs.declared.outcome.Act.{Act}
use Rattle.page_pages.specs.declared.outcome.Act.TheVariants.{Cancel, Print}
use Rattle.page_pages.specs.Refusals.{refusal_page}
use Rattle.page_pages.specs.declared.outcome.Outcome.{Outcome}
use Rattle.page_pages.specs.declared.outcome.Outcome.TheVariants as outcome_is
use Rattle.store_rounds.specs.declared.fault.StoreFault.{StoreFault}
use Rattle.serve_web.specs.OutcomeQueries.{outcome_text}
use Rattle.serve_web.specs.Fields.{common_fields, more_fields, page_fields, shown_fields}
use Rattle.serve_web.specs.Refusals.{status_of}
use Rattle.serve_web.specs.Outcomes.{outcome_told}
use Rattle.page_pages.specs.declared.refusal.Refusal.{Refusal}
use Rattle.page_pages.specs.declared.refusal.Refusal.TheVariants.{Failed, NotFound}

-- the page of it, with its status
abbrev pub IsRefusal : (why : Refusal) (closes : Bool) → Response → Type 0
IsRefusal why closes =
    IsResponse (status_of why) (more_fields why ++ page_fields closes) (refusal_page why)

-- there was no memory for what there was to tell
abbrev pub IsLost : Response → Type 0
IsLost = IsResponse 500 [] []

-- the word by which a question is answered whose account is not open
abbrev pub is_no_account : (text : List ℕ) → Bool
is_no_account text = bytes_eq text (codes "no-account")

abbrev pub IsPageIf : (is_none : Bool) (kind : List ℕ) (closes : Bool) (text : List ℕ) → Response
    → Type 0
IsPageIf true kind closes text = IsRefusal NotFound closes
IsPageIf false kind closes text = IsResponse 200 (shown_fields kind closes) text

-- the page or the table, or 404 where the account is not open
abbrev pub IsPage : (kind : List ℕ) (closes : Bool) (text : List ℕ) → Response → Type 0
IsPage kind closes text = IsPageIf (is_no_account text) kind closes text

-- what a question was answered with, under its Content-Type, and 500 for any fault of the store
abbrev pub IsShown : (kind : List ℕ) (closes : Bool) → Result Reply StoreFault → Response → Type 0
IsShown kind closes (Ok (reply_is.Line text)) = IsPage kind closes text
IsShown kind closes (Ok other) = IsRefusal Failed closes
IsShown kind closes (Err fault) = IsRefusal Failed closes

-- where on the owner's page that is told: at the row of the job, at the list that a canceled one left,
-- at the form to print
abbrev pub fragment : Outcome → List ℕ
fragment (outcome_is.Done Cancel job) = codes "#waiting"
fragment (outcome_is.Done act job) = codes "#job-" ++ decimal job
fragment (outcome_is.Refused Print job word) = codes "#hand-in"
fragment (outcome_is.Refused act job word) = codes "#job-" ++ decimal job
fragment outcome_is.Failed = codes ""

-- the owner's page, with what came of an act in its query
unfoldable pub location : (account : List ℕ) → Outcome → List ℕ
location account outcome =
    codes "/" ++ (account ++ (codes "?" ++ (outcome_text outcome ++ fragment outcome)))

-- the browser is sent to another page (RFC 9110 section 15.4.4)
abbrev pub IsRedirect : (place : List ℕ) (closes : Bool) → Response → Type 0
IsRedirect place closes =
    IsResponse 303 ((codes "location", place) ∷ common_fields closes) []

abbrev pub tells_no_account : Reply → Bool
tells_no_account reply_is.NoAccount = true
tells_no_account _ = false

abbrev pub is_not_open : Result Answered StoreFault → Bool
is_not_open (Ok it) = tells_no_account it.reply
is_not_open (Err fault) = false

abbrev pub IsDoneIf : (is_none : Bool) (place : List ℕ) (closes : Bool) → Response → Type 0
IsDoneIf true place closes = IsRefusal NotFound closes
IsDoneIf false place closes = IsRedirect place closes

-- what came of an act: the owner's page tells it; or 404 where the account is not open
abbrev pub IsDone : (account : List ℕ) (act : Act) (job : ℕ) (closes : Bool)
    → Result Answered StoreFault → Response → Type 0
IsDone account act job closes told =
    IsDoneIf (is_not_open told) (location account (outcome_told act job told)) closes
