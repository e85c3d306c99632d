-- Rule: Which request at the desk gets which response, and what it does to the rooms (all this project's
-- own).
use Rattle.std.specs.Prelude.{◌≡◌, ◌⊎◌, ℕ, Bool, true, false, List, codes, Option, Some, None, Result, Ok, Err}
use Rattle.http.specs.Request.{body_of}
use Rattle.http.specs.declared.request.Request.{Request}
use Rattle.http_server.specs.Response.{IsResponse}
use Rattle.http_server.specs.declared.response.Response.{Response}
use Rattle.sqlite_trees.specs.declared.store.Store.{Ghosts}
use Rattle.account_machine.specs.declared.verdict.Answered.{Answered}
use Rattle.input_lines.specs.Saying.{IsLineOf}
use Rattle.input_lines.specs.declared.line.Line.{Line}
use Rattle.input_lines.specs.declared.lines.Grammar.TheVariants.{Operator}
use Rattle.page_overview.specs.Pages.{IsDesk}
use Rattle.page_overview.specs.declared.overview.Overview.{Overview}
use Rattle.page_pages.specs.DeskTolds.{told_page}
use Rattle.page_pages.specs.declared.desk_script.TheConstants.{DESK_SCRIPT}
use Rattle.page_pages.specs.declared.desk_told.Came.TheVariants as came_is
use Rattle.page_pages.specs.declared.desk_told.Deed.{Deed}
use Rattle.page_pages.specs.declared.desk_told.LineTold.{LineTold}
use Rattle.page_pages.specs.declared.desk_told.Onward.TheVariants.{Accounts}
use Rattle.page_pages.specs.declared.refusal.Refusal.{Refusal}
use Rattle.page_pages.specs.declared.refusal.Refusal.TheVariants.{Busy, Misdirected, NoOperator}
use Rattle.page_pages.specs.declared.script.TheConstants.{PAGE_SCRIPT}
use Rattle.page_pages.specs.declared.style.TheConstants.{STYLE_SHEET}
use Rattle.store_rounds.specs.declared.fault.StoreFault.{StoreFault}
use Rattle.serve_peers.specs.Gathering.{asked_at, gathers}
use Rattle.serve_peers.specs.Journals.{hosts_of, moment_of, shares_of}
use Rattle.serve_peers.specs.Overviews.{gathered_of, shown_of, with_gathered}
use Rattle.serve_peers.specs.Requests.{has_long_body}
use Rattle.serve_peers.specs.Turns.{AppliesNext}
use Rattle.serve_peers.specs.declared.entry.Entry.TheVariants as entry
use Rattle.serve_peers.specs.declared.served.Served.{Served}
use Rattle.serve_web.specs.Answers.{Refuses, Shows}
use Rattle.serve_web.specs.Fields.{page_fields, sheet_fields}
use Rattle.serve_web.specs.Hosts.{is_answered}
use Rattle.serve_web.specs.Responses.{IsLost, IsRefusal}
use Rattle.serve_desk.specs.Acts.{came_told, deed_of, onward_of}
use Rattle.serve_desk.specs.Lines.{line_of}
use Rattle.serve_desk.specs.Operators.{operator_of}
use Rattle.serve_desk.specs.Questions.{question_of}
use Rattle.serve_desk.specs.Requests.{asked}
use Rattle.serve_desk.specs.declared.asked.Asked.{Asked}
use Rattle.serve_desk.specs.declared.asked.Asked.TheVariants.{Style, Script, DeskScript, Room, Devices, Account, Statement, Line as LineForm}
use Rattle.serve_desk.specs.declared.desk.Desk.{Desk}
use Rattle.serve_desk.specs.declared.place.Listed.{Listed}

-- ---- what asks nothing of the rooms

abbrev pub Stays : Asked → (closes : Bool) → Response → Type 0
Stays Style closes response = IsResponse 200
    (sheet_fields (codes "text/css; charset=utf-8") closes) STYLE_SHEET.now response
Stays Script closes response = IsResponse 200
    (sheet_fields (codes "text/javascript; charset=utf-8") closes) PAGE_SCRIPT.now response
Stays DeskScript closes response = IsResponse 200
    (sheet_fields (codes "text/javascript; charset=utf-8") closes) DESK_SCRIPT.now response
Stays _ closes response = ⊥

-- the desk's first page, of what was gathered
pub record IsRoomPage (shown : Overview) (gathers : Bool) (listed : Listed) (closes : Bool)
    (response : Response) : Type 0 where
  pub page : List ℕ
  pub is_page : IsDesk shown gathers listed.front listed.behind page
  pub tells : IsResponse 200 (page_fields closes) page response

-- the page that tells what a line came to
abbrev pub IsTold : LineTold → (closes : Bool) → Response → Type 0
IsTold told closes = IsResponse 200 (page_fields closes) (told_page told)

abbrev pub IsRefusedOrStays : Result Asked Refusal → (closes : Bool) → Response → Type 0
IsRefusedOrStays (Err why) closes = IsRefusal why closes
IsRefusedOrStays (Ok asked) closes = Stays asked closes

abbrev pub ShowsAnOverview : Result Asked Refusal → (closes : Bool) → Response → Type 0
ShowsAnOverview (Ok (Room listed)) closes response =
    (shown : Overview) × (gathers : Bool) × IsRoomPage shown gathers listed closes response
ShowsAnOverview _ closes response = ⊥

-- the operator is told that the form spells no line that asks for an event
pub record IsToldNoLine (request : Request (List ℕ)) (response : Response) : Type 0 where
  pub page : LineTold
  pub of_line : page.line.now ≡ line_of (body_of request)
  pub by : operator_of request ≡ Some page.operator
  pub came : page.came ≡ came_is.NoLine
  pub onward : page.onward ≡ Accounts
  pub tells : IsTold page (has_long_body request) response ⊎ IsLost response

abbrev pub TellsNoLine : Result Asked Refusal → (request : Request (List ℕ)) → Response → Type 0
TellsNoLine (Ok LineForm) request response = IsToldNoLine request response
TellsNoLine _ request response = ⊥

-- ---- what has no place among all that is applied

-- nothing is asked in a round, by another Host, or by nobody; else it is refused, or asks nothing of the
-- rooms
abbrev pub IsStill : (wants : Result Asked Refusal) (request : Request (List ℕ))
    (response : Response) → Type 0
IsStill wants request response = IsRefusal Busy (has_long_body request) response
    ⊎ (IsRefusal Misdirected (has_long_body request) response
    ⊎ (IsRefusal NoOperator (has_long_body request) response
    ⊎ (IsRefusedOrStays wants (has_long_body request) response
    ⊎ (ShowsAnOverview wants (has_long_body request) response
    ⊎ TellsNoLine wants request response))))

-- ---- what happens to the rooms

-- what the service of the desk borrows
abbrev pub rooms_of : {S : Type 0} → Desk S → Served S
rooms_of desk = desk.served.now

module _ {S : Type 0} (store : Ghosts S) where
  -- The line is applied, once, for the operator, and stands in the journal; what it came to is told.
  pub record Applies (operator text : List ℕ) (line : Line) (deed : Deed) (closes : Bool)
      (old : Served S) (response : Response) (new : Served S) : Type 0 where
    pub told : Result Answered StoreFault
    pub next : AppliesNext store (entry.Desk operator line) told old new
    pub page : LineTold
    pub of_line : page.line.now ≡ text
    pub by : page.operator ≡ operator
    pub came : page.came ≡ came_told deed told
    pub onward : page.onward ≡ onward_of line.action
    pub tells : IsTold page closes response ⊎ IsLost response

  -- the text is a line by which an operator asks for an event
  pub record AsksEvent (operator text : List ℕ) (closes : Bool) (old : Served S)
      (response : Response) (new : Served S) : Type 0 where
    pub line : Line
    pub read : IsLineOf (Operator (moment_of old)) text line
    pub deed : Deed
    pub does : deed_of line.action ≡ Some deed
    pub applies : Applies operator text line deed closes old response new

  -- that it is none is told, and nothing happens
  pub record AsksNothing (operator text : List ℕ) (closes : Bool) (old : Served S)
      (response : Response) (new : Served S) : Type 0 where
    pub page : LineTold
    pub of_line : page.line.now ≡ text
    pub by : page.operator ≡ operator
    pub came : page.came ≡ came_is.NoLine
    pub onward : page.onward ≡ Accounts
    pub tells : IsTold page closes response ⊎ IsLost response
    pub same : new ≡ old

  abbrev pub AsksText : (operator text : List ℕ) (closes : Bool) (old : Served S)
      (response : Response) (new : Served S) → Type 0
  AsksText operator text closes old response new = AsksEvent operator text closes old response new
      ⊎ AsksNothing operator text closes old response new

  -- what is asked is the line that the form spells
  abbrev pub AsksLine : (operator : List ℕ) (old : Served S) (request : Request (List ℕ))
      (response : Response) (new : Served S) → Type 0
  AsksLine operator old request =
      AsksText operator (line_of (body_of request)) (has_long_body request) old

  -- the page is shown, and a newer overview is gathered where that is due
  abbrev pub ShowsRoom : Listed → (closes : Bool) (old : Served S) (response : Response)
      (new : Served S) → Type 0
  ShowsRoom listed closes old response new =
      IsRoomPage (shown_of old) (gathers (gathered_of old)) listed closes response
      × (new ≡ with_gathered old (asked_at (moment_of old) (gathered_of old)))

  -- what an operator's request asks for
  abbrev pub AnswersAsked : Asked → (operator : List ℕ) (old : Served S)
      (request : Request (List ℕ)) (response : Response) (new : Served S) → Type 0
  AnswersAsked (Room listed) operator old request response new =
      ShowsRoom listed (has_long_body request) old response new
  AnswersAsked Devices operator old request response new =
      Shows store (question_of (moment_of old) Devices) (has_long_body request) old response new
  AnswersAsked (Account account) operator old request response new =
      Shows store (question_of (moment_of old) (Account account)) (has_long_body request)
      old response new
  AnswersAsked (Statement asked) operator old request response new =
      Shows store (question_of (moment_of old) (Statement asked)) (has_long_body request)
      old response new
  AnswersAsked LineForm operator old request response new =
      AsksLine operator old request response new
  AnswersAsked asked operator old request response new =
      Stays asked (has_long_body request) response × (new ≡ old)

  abbrev pub Gives : Result Asked Refusal → (operator : List ℕ) (old : Served S)
      (request : Request (List ℕ)) (response : Response) (new : Served S) → Type 0
  Gives (Ok asked) operator old request response new =
      AnswersAsked asked operator old request response new
  Gives (Err why) operator old request response new =
      Refuses store why (has_long_body request) old response new

  abbrev pub AnswersBy : (operator : Option (List ℕ)) (old : Served S)
      (request : Request (List ℕ)) (response : Response) (new : Served S) → Type 0
  AnswersBy (Some operator) old request response new =
      Gives (asked request) operator old request response new
  AnswersBy None old request response new =
      Refuses store NoOperator (has_long_body request) old response new

  abbrev pub AnswersAt : (answered : Bool) (old : Served S) (request : Request (List ℕ))
      (response : Response) (new : Served S) → Type 0
  AnswersAt true old request response new =
      AnswersBy (operator_of request) old request response new
  AnswersAt false old request response new =
      Refuses store Misdirected (has_long_body request) old response new

  abbrev pub AnswersIf : (shares : Bool) (old : Served S) (request : Request (List ℕ))
      (response : Response) (new : Served S) → Type 0
  AnswersIf true old request response new =
      Refuses store Busy (has_long_body request) old response new
  AnswersIf false old request response new =
      AnswersAt (is_answered (hosts_of old) request) old request response new

  -- The one response to a request, and the rooms after it. Within a round nothing is asked, nor by a
  -- Host that is not answered, nor by nobody.
  abbrev pub Answers : (old : Served S) (request : Request (List ℕ)) (response : Response)
      (new : Served S) → Type 0
  Answers old request response new = AnswersIf (shares_of old) old request response new

  -- it is the same service, of the same rooms
  pub record AnswersDesk (old : Desk S) (request : Request (List ℕ)) (response : Response)
      (new : Desk S) : Type 0 where
    pub answers : Answers (rooms_of old) request response (rooms_of new)
    pub same : new.served.ghost_name ≡ old.served.ghost_name
