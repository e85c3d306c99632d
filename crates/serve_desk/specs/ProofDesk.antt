-- For the proof of the code alone: what the desk's service answers is noted, and nothing else becomes of
-- the rooms.
use Rattle.std.specs.Prelude.{◌≡◌, ◌⊎◌, ℕ, Bool, true, false, List, Option, Some, None, Result, Ok, Err}
use Rattle.std.proofs.Common.{inl, inr, refl, subst, sym}
use Rattle.http.specs.Request.{body_of}
use Rattle.http.specs.declared.request.Request.{Request}
use Rattle.http_server.specs.declared.response.Response.{Response}
use Rattle.sqlite_trees.specs.declared.store.Store.{Ghosts}
use Rattle.page_pages.specs.declared.refusal.Refusal.{Refusal}
use Rattle.serve_peers.proofs.GatheringKept.{gathered_only}
use Rattle.serve_peers.proofs.Journaling.{looked}
use Rattle.serve_peers.specs.Gathering.{asked_at, gathers}
use Rattle.serve_peers.specs.Journals.{hosts_of, moment_of, shares_of}
use Rattle.serve_peers.specs.Overviews.{gathered_of, shown_of, with_gathered}
use Rattle.serve_peers.specs.ProofServices.{one_more}
use Rattle.serve_peers.specs.Requests.{has_long_body}
use Rattle.serve_peers.specs.Turns.{Continues}
use Rattle.serve_peers.specs.declared.gathering.Gathered.{Gathered}
use Rattle.serve_peers.specs.declared.served.Served.{Served}
use Rattle.serve_web.specs.Answers.{Shows}
use Rattle.serve_web.specs.Hosts.{is_answered}
use Rattle.serve_desk.specs.Answers.{Answers, AnswersAsked, AnswersAt, AnswersBy, AnswersDesk, AnswersIf, AsksEvent, AsksLine, Gives, IsStill, rooms_of}
use Rattle.serve_desk.specs.Lines.{line_of}
use Rattle.serve_desk.specs.Operators.{operator_of}
use Rattle.serve_desk.specs.Questions.{question_of}
use Rattle.serve_desk.specs.Requests.{asked}
use Rattle.serve_desk.specs.declared.asked.Asked.{Asked}
use Rattle.serve_desk.specs.declared.asked.Asked.TheVariants.{Style, Script, DeskScript, Room, Devices, Account, Statement, Line as LineForm}
use Rattle.serve_desk.specs.declared.desk.Desk.{Desk}

module _ {S : Type 0} (store : Ghosts S) where
  -- ---- the three things that a request may come to

  -- a line is applied
  pub record IsApplied (name : Option (List ℕ)) (wants : Result Asked Refusal) (old : Served S) (request : Request (List ℕ)) (response : Response) (new : Served S) : Type 0 where
    pub operator : List ℕ
    pub named : name ≡ Some operator
    pub wanted : wants ≡ Ok LineForm
    pub event : AsksEvent store operator (line_of (body_of request)) (has_long_body request) old response new

  -- a page is shown
  pub record IsLookedAt (wants : Result Asked Refusal) (old : Served S) (request : Request (List ℕ)) (response : Response) (new : Served S) : Type 0 where
    pub asks : Asked
    pub wanted : wants ≡ Ok asks
    pub shows : Shows store (question_of (moment_of old) asks) (has_long_body request) old response new

  -- nothing is asked of the rooms; an overview may be gathered from now on
  abbrev pub IsLeft : (wants : Result Asked Refusal) (old : Served S) (request : Request (List ℕ)) (response : Response) (new : Served S) → Type 0
  IsLeft wants old request response new = IsStill wants request response × ((gathered : Gathered) × (new ≡ with_gathered old gathered))

  abbrev pub Comes : (name : Option (List ℕ)) (wants : Result Asked Refusal) (old : Served S) (request : Request (List ℕ)) (response : Response) (new : Served S) → Type 0
  Comes name wants old request response new = IsApplied name wants old request response new ⊎ (IsLookedAt wants old request response new ⊎ IsLeft wants old request response new)

  same_gathered : (old new : Served S) → new ≡ old → (gathered : Gathered) × (new ≡ with_gathered old gathered)
  same_gathered old new is = (gathered_of old, is)

  line_comes : (operator : List ℕ) (old : Served S) (request : Request (List ℕ)) (response : Response) (new : Served S) → operator_of request ≡ Some operator → AsksLine store operator old request response new → Comes (Some operator) (Ok LineForm) old request response new
  line_comes operator old request response new named (inl is) = inl (record { operator = operator; named = refl; wanted = refl; event = is })
  line_comes operator old request response new named (inr is) = inr (inr (
    inr (inr (inr (inr (inr (record {
      page = is.page;
      of_line = is.of_line;
      by = subst (λ (name : List ℕ). operator_of request ≡ Some name) (sym is.by) named;
      came = is.came;
      onward = is.onward;
      tells = is.tells;
    }))))),
    same_gathered old new is.same,
  ))

  asked_comes : (what : Asked) (operator : List ℕ) (old : Served S) (request : Request (List ℕ)) (response : Response) (new : Served S) → operator_of request ≡ Some operator → AnswersAsked store what operator old request response new → Comes (Some operator) (Ok what) old request response new
  asked_comes Style operator old request response new named is = inr (inr (inr (inr (inr (inl is.0))), same_gathered old new is.1))
  asked_comes Script operator old request response new named is = inr (inr (inr (inr (inr (inl is.0))), same_gathered old new is.1))
  asked_comes DeskScript operator old request response new named is = inr (inr (inr (inr (inr (inl is.0))), same_gathered old new is.1))
  asked_comes (Room listed) operator old request response new named is = inr (inr (inr (inr (inr (inr (inl (shown_of old, gathers (gathered_of old), is.0))))), (asked_at (moment_of old) (gathered_of old), is.1)))
  asked_comes Devices operator old request response new named is = inr (inl (record { asks = Devices; wanted = refl; shows = is }))
  asked_comes (Account account) operator old request response new named is = inr (inl (record { asks = Account account; wanted = refl; shows = is }))
  asked_comes (Statement asks) operator old request response new named is = inr (inl (record { asks = Statement asks; wanted = refl; shows = is }))
  asked_comes LineForm operator old request response new named is = line_comes operator old request response new named is

  given_comes : (wants : Result Asked Refusal) (operator : List ℕ) (old : Served S) (request : Request (List ℕ)) (response : Response) (new : Served S) → operator_of request ≡ Some operator → Gives store wants operator old request response new → Comes (Some operator) wants old request response new
  given_comes (Ok what) operator old request response new named is = asked_comes what operator old request response new named is
  given_comes (Err why) operator old request response new named is = inr (inr (inr (inr (inr (inl is.0))), same_gathered old new is.1))

  comes_by : (name : Option (List ℕ)) (old : Served S) (request : Request (List ℕ)) (response : Response) (new : Served S) → operator_of request ≡ name → AnswersBy store name old request response new → Comes name (asked request) old request response new
  comes_by (Some operator) old request response new named is = given_comes (asked request) operator old request response new named is
  comes_by None old request response new named is = inr (inr (inr (inr (inl is.0)), same_gathered old new is.1))

  comes_at : (answered : Bool) (old : Served S) (request : Request (List ℕ)) (response : Response) (new : Served S) →
      AnswersAt store answered old request response new → Comes (operator_of request) (asked request) old request response new
  comes_at true old request response new is = comes_by (operator_of request) old request response new refl is
  comes_at false old request response new is = inr (inr (inr (inl is.0), same_gathered old new is.1))

  answer_comes : (shares : Bool) (old : Served S) (request : Request (List ℕ)) (response : Response) (new : Served S) →
      AnswersIf store shares old request response new → Comes (operator_of request) (asked request) old request response new
  answer_comes true old request response new is = inr (inr (inl is.0, same_gathered old new is.1))
  answer_comes false old request response new is = comes_at (is_answered (hosts_of old) request) old request response new is

  pub comes : (old : Served S) (request : Request (List ℕ)) (response : Response) (new : Served S) → Answers store old request response new → Comes (operator_of request) (asked request) old request response new
  comes old request response new is = answer_comes (shares_of old) old request response new is

  -- ---- each is noted

  comes_continue : (name : Option (List ℕ)) (wants : Result Asked Refusal) (old : Served S) (request : Request (List ℕ)) (response : Response) (new : Served S) → Comes name wants old request response new → Continues store old new
  comes_continue name wants old request response new (inl is) = one_more store _ is.event.applies.told old new is.event.applies.next
  comes_continue name wants old request response new (inr (inl is)) = looked store _ is.shows.told old new is.shows.next
  comes_continue name wants old request response new (inr (inr is)) = subst (λ (served : Served S). Continues store old served) (sym is.1.1) (gathered_only store old is.1.0)

  pub answers_continue : (old new : Served S) (request : Request (List ℕ)) (response : Response) → Answers store old request response new → Continues store old new
  answers_continue old new request response is = comes_continue (operator_of request) (asked request) old request response new (comes old request response new is)

  pub desk_continues : (old new : Desk S) (request : Request (List ℕ)) (response : Response) → AnswersDesk store old request response new → Continues store (rooms_of old) (rooms_of new)
  desk_continues old new request response is = answers_continue (rooms_of old) (rooms_of new) request response is.answers
