-- Rule: Which request of a browser gets which response, and what it does to the rooms (all this
-- project's own).
use Rattle.std.specs.Prelude.{◌≡◌, ◌⊎◌, ℕ, Bool, true, false, List, codes, length, nat_lt, Option, Result, Ok, Err}
use Rattle.http.specs.declared.request.Request.{Request}
use Rattle.http_server.specs.Response.{IsResponse}
use Rattle.http_server.specs.declared.response.Response.{Response}
use Rattle.sqlite_trees.specs.declared.store.Store.{Ghosts}
use Rattle.ipp_coding.specs.Spelling.{message_spelling}
use Rattle.account_machine.specs.declared.event.Reply.{Reply}
use Rattle.account_machine.specs.declared.verdict.Answered.{Answered}
use Rattle.client_owner.specs.Requests.{act_message}
use Rattle.client_owner.specs.declared.acts.JobAct.{JobAct}
use Rattle.page_pages.specs.declared.outcome.Act.{Act as PageAct}
use Rattle.page_pages.specs.declared.outcome.Act.TheVariants as page_act_is
use Rattle.page_pages.specs.declared.script.TheConstants.{PAGE_SCRIPT}
use Rattle.page_pages.specs.declared.style.TheConstants.{STYLE_SHEET}
use Rattle.account_questions.specs.declared.question.Question.{Question}
use Rattle.serve_space.specs.Spares.{takes_of}
use Rattle.store_rounds.specs.declared.fault.StoreFault.{StoreFault}
use Rattle.page_overview.specs.Pages.{IsPage}
use Rattle.page_overview.specs.declared.overview.Overview.{Overview}
use Rattle.serve_peers.specs.Gathering.{asked_at, gathers}
use Rattle.serve_peers.specs.Journals.{hosts_of, moment_of, needs_password_of, shares_of}
use Rattle.serve_peers.specs.Overviews.{gathered_of, shown_of, with_gathered}
use Rattle.serve_peers.specs.Requests.{has_long_body}
use Rattle.serve_peers.specs.Space.{spare_of}
use Rattle.serve_peers.specs.Turns.{AnswersNext, AppliesNext}
use Rattle.serve_peers.specs.declared.entry.Entry.TheVariants as entry
use Rattle.serve_peers.specs.declared.served.Served.{Served}
use Rattle.serve_web.specs.Fields.{page_fields, sheet_fields}
use Rattle.input_lines.specs.OwnerRequests.{queue_uri}
use Rattle.serve_web.specs.Messages.{IsFileMessage, lacks_password}
use Rattle.serve_web.specs.Hosts.{is_answered}
use Rattle.serve_web.specs.Questions.{kind_of, question_of}
use Rattle.serve_web.specs.Requests.{asked}
use Rattle.serve_web.specs.Responses.{IsDone, IsLost, IsRefusal, IsShown}
use Rattle.serve_web.specs.Outcomes.{page_act}
use Rattle.serve_web.specs.declared.asked.Asked.{Asked}
use Rattle.serve_web.specs.declared.asked.Asked.TheVariants.{Style, Script, Room, Owner, Statement, Act, Print}
use Rattle.serve_web.specs.declared.pages.Pages.{Pages}
use Rattle.page_pages.specs.declared.refusal.Refusal.{Refusal}
use Rattle.page_pages.specs.declared.refusal.Refusal.TheVariants.{Busy, Misdirected, NoPassword, NoSpace}

-- ---- what asks nothing of the rooms

-- the style sheet, the script, and a file that lacks its password, or for which there is no space
abbrev pub Stays : Asked → (closes : Bool) → Response → Type 0
Stays Style closes response = IsResponse 200
    (sheet_fields (codes "text/css; charset=utf-8") closes) STYLE_SHEET.now response
Stays Script closes response = IsResponse 200
    (sheet_fields (codes "text/javascript; charset=utf-8") closes) PAGE_SCRIPT.now response
Stays (Print account copies pages) closes response =
    IsRefusal NoPassword closes response ⊎ IsRefusal NoSpace closes response
Stays _ closes response = ⊥

abbrev pub IsRefusedOrStays : Result Asked Refusal → (closes : Bool) → Response → Type 0
IsRefusedOrStays (Err why) closes = IsRefusal why closes
IsRefusedOrStays (Ok asked) closes = Stays asked closes

-- ---- the print room's page

-- the page of an overview: of what was gathered
pub record IsRoomPage (shown : Overview) (gathers : Bool) (front behind : Option (List ℕ))
    (closes : Bool) (response : Response) : Type 0 where
  pub page : List ℕ
  pub is_page : IsPage shown gathers front behind page
  pub tells : IsResponse 200 (page_fields closes) page response

abbrev pub ShowsAnOverview : Result Asked Refusal → (closes : Bool) → Response → Type 0
ShowsAnOverview (Ok (Room front behind)) closes response =
    (shown : Overview) × (gathers : Bool) × IsRoomPage shown gathers front behind closes response
ShowsAnOverview _ closes response = ⊥

-- ---- what has no place among all that is applied

-- nothing is asked in a round, or by another Host; else it is refused, or asks nothing of the rooms
abbrev pub IsStill : (wants : Result Asked Refusal) (request : Request (List ℕ))
    (response : Response) → Type 0
IsStill wants request response = IsRefusal Busy (has_long_body request) response
    ⊎ (IsRefusal Misdirected (has_long_body request) response
    ⊎ (IsRefusedOrStays wants (has_long_body request) response
    ⊎ ShowsAnOverview wants (has_long_body request) response))

-- ---- the message that an act is, or a file

-- of which account, which act it is, with which job, if one is there already
abbrev pub IsMessage : Asked → (request : Request (List ℕ)) (account : List ℕ) (act : PageAct)
    (job : ℕ) (message : List ℕ) → Type 0
IsMessage (Act whose what which) request account act job message = (account ≡ whose)
    × (act ≡ page_act what) × (job ≡ which)
    × (message ≡ message_spelling (act_message (queue_uri whose) what which))
IsMessage (Print whose copies pages) request account act job message = (account ≡ whose)
    × (act ≡ page_act_is.Print) × (job ≡ 0) × IsFileMessage whose request copies pages message
IsMessage _ request account act job message = ⊥

-- ---- what happens to the rooms

-- what the service of pages borrows
abbrev pub rooms_of : {S : Type 0} → Pages S → Served S
rooms_of pages = pages.served.now

module _ {S : Type 0} (store : Ghosts S) where
  -- the question is answered by the tables as they are, and nothing changes
  pub record Shows (question : Question) (closes : Bool) (old : Served S) (response : Response)
      (new : Served S) : Type 0 where
    pub told : Result Reply StoreFault
    pub next : AnswersNext store question told old new
    pub tells : IsShown (kind_of question) closes told response ⊎ IsLost response

  -- the message is applied, once, at the moment, and stands in the journal; what came of it is told
  pub record Applies (account : List ℕ) (act : PageAct) (job : ℕ) (message : List ℕ) (closes : Bool)
      (old : Served S) (response : Response) (new : Served S) : Type 0 where
    pub told : Result Answered StoreFault
    pub next : AppliesNext store (entry.Message (moment_of old) account message) told old new
    pub tells : IsDone account act job closes told response ⊎ IsLost response

  -- the request is refused, and nothing changes
  abbrev pub Refuses : (why : Refusal) (closes : Bool) (old : Served S) (response : Response)
      (new : Served S) → Type 0
  Refuses why closes old response new = IsRefusal why closes response × (new ≡ old)

  -- Cancel-Job, Hold-Job or Release-Job of the job is applied
  abbrev pub ActsOn : (account : List ℕ) (act : JobAct) (job : ℕ) (closes : Bool)
      (old : Served S) (response : Response) (new : Served S) → Type 0
  ActsOn account act job closes = Applies account (page_act act) job
      (message_spelling (act_message (queue_uri account) act job)) closes

  abbrev pub PrintsIf : (lacks : Bool) (account message : List ℕ) (closes : Bool)
      (old : Served S) (response : Response) (new : Served S) → Type 0
  PrintsIf true account message closes = Refuses NoSpace closes
  PrintsIf false account message closes =
      Applies account page_act_is.Print 0 message closes

  -- Print-Job of the file is applied, where there is space for it
  abbrev pub PrintsFile : (account : List ℕ) (copies : ℕ) (pages : Option ℕ) (old : Served S)
      (request : Request (List ℕ)) (response : Response) (new : Served S) → Type 0
  PrintsFile account copies pages old request response new = (message : List ℕ)
      × IsFileMessage account request copies pages message
      × PrintsIf (nat_lt (takes_of (spare_of old)) (length message)) account message
      (has_long_body request) old response new

  abbrev pub PrintsUnless : (lacks : Bool) (account : List ℕ) (copies : ℕ) (pages : Option ℕ)
      (old : Served S) (request : Request (List ℕ)) (response : Response) (new : Served S)
      → Type 0
  PrintsUnless true account copies pages old request response new =
      Refuses NoPassword (has_long_body request) old response new
  PrintsUnless false account copies pages old request response new =
      PrintsFile account copies pages old request response new

  -- unless it lacks its password
  abbrev pub Prints : (account : List ℕ) (copies : ℕ) (pages : Option ℕ) (old : Served S)
      (request : Request (List ℕ)) (response : Response) (new : Served S) → Type 0
  Prints account copies pages old request =
      PrintsUnless (lacks_password (needs_password_of old) request) account copies pages old request

  -- the page is shown, and a newer overview is gathered where that is due
  abbrev pub ShowsRoom : (front behind : Option (List ℕ)) (closes : Bool) (old : Served S)
      (response : Response) (new : Served S) → Type 0
  ShowsRoom front behind closes old response new =
      IsRoomPage (shown_of old) (gathers (gathered_of old)) front behind closes response
      × (new ≡ with_gathered old (asked_at (moment_of old) (gathered_of old)))

  -- what a request asks for
  abbrev pub AnswersAsked : Asked → (old : Served S) (request : Request (List ℕ))
      (response : Response) (new : Served S) → Type 0
  AnswersAsked (Owner account came stays) old request response new =
      Shows (question_of (needs_password_of old) (moment_of old) (Owner account came stays))
      (has_long_body request) old response new
  AnswersAsked (Statement account form months) old request response new =
      Shows (question_of (needs_password_of old) (moment_of old) (Statement account form months))
      (has_long_body request) old response new
  AnswersAsked (Act account act job) old request response new =
      ActsOn account act job (has_long_body request) old response new
  AnswersAsked (Print account copies pages) old request response new =
      Prints account copies pages old request response new
  AnswersAsked (Room front behind) old request response new =
      ShowsRoom front behind (has_long_body request) old response new
  AnswersAsked asked old request response new =
      Stays asked (has_long_body request) response × (new ≡ old)

  abbrev pub Gives : Result Asked Refusal → (old : Served S) (request : Request (List ℕ))
      (response : Response) (new : Served S) → Type 0
  Gives (Ok asked) old request response new = AnswersAsked asked old request response new
  Gives (Err why) old request response new =
      Refuses why (has_long_body request) old response new

  abbrev pub AnswersAt : (answered : Bool) (old : Served S) (request : Request (List ℕ))
      (response : Response) (new : Served S) → Type 0
  AnswersAt true old request response new = Gives (asked request) old request response new
  AnswersAt false old request response new =
      Refuses Misdirected (has_long_body request) old response new

  abbrev pub AnswersIf : (shares : Bool) (old : Served S) (request : Request (List ℕ))
      (response : Response) (new : Served S) → Type 0
  AnswersIf true old request response new =
      Refuses Busy (has_long_body request) old response new
  AnswersIf false old request response new =
      AnswersAt (is_answered (hosts_of old) request) old request response new

  -- The one response to a request, and the rooms after it. Within a round nothing is asked, nor by a
  -- Host that is not answered.
  abbrev pub Answers : (old : Served S) (request : Request (List ℕ)) (response : Response)
      (new : Served S) → Type 0
  Answers old request response new = AnswersIf (shares_of old) old request response new

  -- it is the same service, of the same rooms
  pub record AnswersPages (old : Pages S) (request : Request (List ℕ)) (response : Response)
      (new : Pages S) : Type 0 where
    pub answers : Answers (rooms_of old) request response (rooms_of new)
    pub same : new.served.ghost_name ≡ old.served.ghost_name
