-- Laws of the desk: a form that another site may have sent does nothing, nobody acts without a name, and a
-- form asks the line that it spells, for the operator whom the request names.
use Rattle.std.specs.Prelude.{◌≡◌, ◌⊎◌, ℕ, IsTrue, List, None, Some, Result}
use Rattle.http.specs.Request.{body_of}
use Rattle.http.specs.declared.request.Request.{Request}
use Rattle.http_server.specs.declared.response.Response.{Response}
use Rattle.sqlite_trees.specs.declared.store.Store.{Ghosts}
use Rattle.account_machine.specs.declared.verdict.Answered.{Answered}
use Rattle.input_http.specs.Origins.{is_foreign}
use Rattle.input_lines.specs.Saying.{IsLineOf}
use Rattle.input_lines.specs.declared.line.Line.{Line}
use Rattle.input_lines.specs.declared.lines.Grammar.TheVariants.{Operator}
use Rattle.page_pages.specs.declared.desk_told.Deed.{Deed}
use Rattle.page_pages.specs.declared.desk_told.LineTold.{LineTold}
use Rattle.page_pages.specs.declared.refusal.Refusal.TheVariants.{Busy, Misdirected, NoOperator}
use Rattle.store_rounds.specs.declared.fault.StoreFault.{StoreFault}
use Rattle.serve_log.specs.declared.door.Door.TheVariants.{Desk}
use Rattle.serve_peers.specs.Entries.{event_of_entry, moment_at}
use Rattle.serve_peers.specs.Journals.{moment_of}
use Rattle.serve_peers.specs.Logged.{door_of}
use Rattle.serve_peers.specs.Requests.{has_long_body}
use Rattle.serve_peers.specs.Turns.{AppliesNext}
use Rattle.serve_peers.specs.declared.entry.Entry.TheVariants as entry
use Rattle.serve_peers.specs.declared.served.Served.{Served}
use Rattle.serve_web.specs.Responses.{IsLost, IsRefusal}
use Rattle.serve_desk.specs.Acts.{came_told, deed_of}
use Rattle.serve_desk.specs.Answers.{Answers, IsTold}
use Rattle.serve_desk.specs.Lines.{line_of}
use Rattle.serve_desk.specs.Operators.{operator_of}
use Rattle.serve_desk.specs.Requests.{WantsLine}

module _ {S : Type 0} (store : Ghosts S) where
  abbrev pub ForeignFormsDoNothing : Type 0
  ForeignFormsDoNothing = (old new : Served S) (request : Request (List ℕ)) (response : Response)
      → IsTrue (is_foreign request) → Answers store old request response new → new ≡ old

  -- it is refused, whatever it asks for
  abbrev pub NobodyActsWithoutName : Type 0
  NobodyActsWithoutName = (old new : Served S) (request : Request (List ℕ)) (response : Response)
      → operator_of request ≡ None → Answers store old request response new
      → (IsRefusal Busy (has_long_body request) response
      ⊎ (IsRefusal Misdirected (has_long_body request) response
      ⊎ IsRefusal NoOperator (has_long_body request) response)) × (new ≡ old)

  -- The line that the form spells is applied, once, for the operator whom the request names, and the
  -- response tells this line, its operator and what it came to.
  pub record AsksItsLine (old : Served S) (request : Request (List ℕ)) (response : Response)
      (new : Served S) : Type 0 where
    pub operator : List ℕ
    pub named : operator_of request ≡ Some operator
    pub line : Line
    pub spelled : IsLineOf (Operator (moment_of old)) (line_of (body_of request)) line
    pub told : Result Answered StoreFault
    pub next : AppliesNext store (entry.Desk operator line) told old new
    pub deed : Deed
    pub does : deed_of line.action ≡ Some deed
    pub page : LineTold
    pub of_line : page.line.now ≡ line_of (body_of request)
    pub by : page.operator ≡ operator
    pub came : page.came ≡ came_told deed told
    pub tells : IsTold page (has_long_body request) response ⊎ IsLost response

  -- a form that is taken asks its line, or nothing
  abbrev pub FormsAskTheirLines : Type 0
  FormsAskTheirLines = (old new : Served S) (request : Request (List ℕ)) (response : Response)
      → WantsLine request → Answers store old request response new
      → AsksItsLine old request response new ⊎ (new ≡ old)

-- What a line of the desk is for the rooms is the event of the line itself, at the same moment; the log
-- names the operator.
pub record IsAskedAs (operator : List ℕ) (line : Line) : Type 0 where
  pub event : event_of_entry (entry.Desk operator line) ≡ event_of_entry (entry.Line line)
  pub moment : moment_at (entry.Desk operator line) ≡ moment_at (entry.Line line)
  pub by : door_of (entry.Desk operator line) ≡ Desk operator

abbrev pub AreAskedAsLines : Type 0
AreAskedAsLines = (operator : List ℕ) (line : Line) → IsAskedAs operator line
