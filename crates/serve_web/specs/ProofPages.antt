-- For the proof of the code alone: what the pages' service answers is noted, and nothing else
-- becomes of the rooms.
use Rattle.std.specs.Prelude.{◌≡◌, ◌⊎◌, ℕ, Bool, true, false, List, length, nat_lt, Option, Result, Ok, Err}
use Rattle.std.proofs.Common.{inl, inr, refl, subst, sym}
use Rattle.http.specs.declared.request.Request.{Request}
use Rattle.http_server.specs.declared.response.Response.{Response}
use Rattle.sqlite_trees.specs.declared.store.Store.{Ghosts}
use Rattle.ipp_coding.specs.Spelling.{message_spelling}
use Rattle.client_owner.specs.Requests.{act_message}
use Rattle.page_pages.specs.declared.outcome.Act.{Act as PageAct}
use Rattle.page_pages.specs.declared.outcome.Act.TheVariants as page_act_is
use Rattle.serve_space.specs.Spares.{takes_of}
use Rattle.serve_peers.proofs.GatheringKept.{gathered_only}
use Rattle.serve_peers.proofs.Journaling.{looked}
use Rattle.serve_peers.specs.Gathering.{asked_at, gathers}
use Rattle.serve_peers.specs.Journals.{hosts_of, moment_of, needs_password_of, shares_of}
use Rattle.serve_peers.specs.Overviews.{gathered_of, shown_of, with_gathered}
use Rattle.serve_peers.specs.ProofServices.{one_more}
use Rattle.serve_peers.specs.Requests.{has_long_body}
use Rattle.serve_peers.specs.Space.{spare_of}
use Rattle.serve_peers.specs.Turns.{Continues}
use Rattle.serve_peers.specs.declared.gathering.Gathered.{Gathered}
use Rattle.serve_peers.specs.declared.served.Served.{Served}
use Rattle.serve_web.specs.Answers.{Answers, AnswersAsked, AnswersAt, AnswersIf, AnswersPages, Applies, Gives, IsMessage, IsStill, PrintsIf, PrintsUnless, Shows, rooms_of}
use Rattle.input_lines.specs.OwnerRequests.{queue_uri}
use Rattle.serve_web.specs.Messages.{IsFileMessage, lacks_password}
use Rattle.serve_web.specs.Questions.{question_of}
use Rattle.serve_web.specs.Hosts.{is_answered}
use Rattle.serve_web.specs.Requests.{asked}
use Rattle.serve_web.specs.Outcomes.{page_act}
use Rattle.serve_web.specs.declared.asked.Asked.{Asked}
use Rattle.serve_web.specs.declared.asked.Asked.TheVariants as asked_is
use Rattle.serve_web.specs.declared.pages.Pages.{Pages}
use Rattle.page_pages.specs.declared.refusal.Refusal.{Refusal}

module _ {S : Type 0} (store : Ghosts S) where
  -- ---- the three things that a request may come to

  -- a message is applied
  pub record IsApplied (wants : Result Asked Refusal) (old : Served S) (request : Request (List ℕ)) (response : Response) (new : Served S) : Type 0 where
    pub asks : Asked
    pub wanted : wants ≡ Ok asks
    pub account : List ℕ
    pub act : PageAct
    pub job : ℕ
    pub message : List ℕ
    pub is : IsMessage asks request account act job message
    pub applies : Applies store account act job message (has_long_body request) old response new

  -- a page is shown
  pub record IsLookedAt (wants : Result Asked Refusal) (old : Served S) (request : Request (List ℕ)) (response : Response) (new : Served S) : Type 0 where
    pub asks : Asked
    pub wanted : wants ≡ Ok asks
    pub shows : Shows store (question_of (needs_password_of old) (moment_of old) asks) (has_long_body request) old response new

  -- nothing is asked of the rooms; an overview may be gathered from now on
  abbrev pub IsLeft : (wants : Result Asked Refusal) (old : Served S) (request : Request (List ℕ)) (response : Response) (new : Served S) → Type 0
  IsLeft wants old request response new = IsStill wants request response × ((gathered : Gathered) × (new ≡ with_gathered old gathered))

  abbrev pub Comes : (wants : Result Asked Refusal) (old : Served S) (request : Request (List ℕ)) (response : Response) (new : Served S) → Type 0
  Comes wants old request response new = IsApplied wants old request response new ⊎ (IsLookedAt wants old request response new ⊎ IsLeft wants old request response new)

  same_gathered : (old new : Served S) → new ≡ old → (gathered : Gathered) × (new ≡ with_gathered old gathered)
  same_gathered old new is = (gathered_of old, is)

  file_comes : (lacks : Bool) (account : List ℕ) (copies : ℕ) (pages : Option ℕ) (message : List ℕ) (old : Served S) (request : Request (List ℕ)) (response : Response) (new : Served S) → IsFileMessage account request copies pages message →
      PrintsIf store lacks account message (has_long_body request) old response new
      → Comes (Ok (asked_is.Print account copies pages)) old request response new
  file_comes true account copies pages message old request response new file is = inr (inr (inr (inr (inl (inr is.0))), same_gathered old new is.1))
  file_comes false account copies pages message old request response new file is = inl (record {
    asks = asked_is.Print account copies pages;
    wanted = refl;
    account = account;
    act = page_act_is.Print;
    job = 0;
    message = message;
    is = (refl, refl, refl, file);
    applies = is;
  })

  print_comes : (lacks : Bool) (account : List ℕ) (copies : ℕ) (pages : Option ℕ) (old : Served S) (request : Request (List ℕ)) (response : Response) (new : Served S) →
      PrintsUnless store lacks account copies pages old request response new → Comes (Ok (asked_is.Print account copies pages)) old request response new
  print_comes true account copies pages old request response new is = inr (inr (inr (inr (inl (inl is.0))), same_gathered old new is.1))
  print_comes false account copies pages old request response new is = file_comes (nat_lt (takes_of (spare_of old)) (length is.0)) account copies pages is.0 old request response new is.1 is.2

  asked_comes : (what : Asked) (old : Served S) (request : Request (List ℕ)) (response : Response) (new : Served S) → AnswersAsked store what old request response new → Comes (Ok what) old request response new
  asked_comes asked_is.Style old request response new is = inr (inr (inr (inr (inl is.0)), same_gathered old new is.1))
  asked_comes asked_is.Script old request response new is = inr (inr (inr (inr (inl is.0)), same_gathered old new is.1))
  asked_comes (asked_is.Room front behind) old request response new is = inr (inr (inr (inr (inr (shown_of old, gathers (gathered_of old), is.0))), (asked_at (moment_of old) (gathered_of old), is.1)))
  asked_comes (asked_is.Owner account came still) old request response new is = inr (inl (record { asks = asked_is.Owner account came still; wanted = refl; shows = is }))
  asked_comes (asked_is.Statement account form months) old request response new is = inr (inl (record { asks = asked_is.Statement account form months; wanted = refl; shows = is }))
  asked_comes (asked_is.Act account act job) old request response new is = inl (record {
    asks = asked_is.Act account act job;
    wanted = refl;
    account = account;
    act = page_act act;
    job = job;
    message = message_spelling (act_message (queue_uri account) act job);
    is = (refl, refl, refl, refl);
    applies = is;
  })
  asked_comes (asked_is.Print account copies pages) old request response new is = print_comes (lacks_password (needs_password_of old) request) account copies pages old request response new is

  given_comes : (wants : Result Asked Refusal) (old : Served S) (request : Request (List ℕ)) (response : Response) (new : Served S) → Gives store wants old request response new → Comes wants old request response new
  given_comes (Ok what) old request response new is = asked_comes what old request response new is
  given_comes (Err why) old request response new is = inr (inr (inr (inr (inl is.0)), same_gathered old new is.1))

  comes_at : (answered : Bool) (old : Served S) (request : Request (List ℕ)) (response : Response) (new : Served S) →
      AnswersAt store answered old request response new → Comes (asked request) old request response new
  comes_at true old request response new is = given_comes (asked request) old request response new is
  comes_at false old request response new is = inr (inr (inr (inl is.0), same_gathered old new is.1))

  answer_comes : (shares : Bool) (old : Served S) (request : Request (List ℕ)) (response : Response) (new : Served S) →
      AnswersIf store shares old request response new → Comes (asked request) old request response new
  answer_comes true old request response new is = inr (inr (inl is.0, same_gathered old new is.1))
  answer_comes false old request response new is = comes_at (is_answered (hosts_of old) request) old request response new is

  pub comes : (old : Served S) (request : Request (List ℕ)) (response : Response) (new : Served S) → Answers store old request response new → Comes (asked request) old request response new
  comes old request response new is = answer_comes (shares_of old) old request response new is

  -- ---- each is noted

  comes_continue : (wants : Result Asked Refusal) (old : Served S) (request : Request (List ℕ)) (response : Response) (new : Served S) → Comes wants old request response new → Continues store old new
  comes_continue wants old request response new (inl is) = one_more store _ is.applies.told old new is.applies.next
  comes_continue wants old request response new (inr (inl is)) = looked store _ is.shows.told old new is.shows.next
  comes_continue wants old request response new (inr (inr is)) = subst (λ (served : Served S). Continues store old served) (sym is.1.1) (gathered_only store old is.1.0)

  pub answers_continue : (old new : Served S) (request : Request (List ℕ)) (response : Response) → Answers store old request response new → Continues store old new
  answers_continue old new request response is = comes_continue (asked request) old request response new (comes old request response new is)

  pub pages_continue : (old new : Pages S) (request : Request (List ℕ)) (response : Response) → AnswersPages store old request response new → Continues store (rooms_of old) (rooms_of new)
  pages_continue old new request response is = answers_continue (rooms_of old) (rooms_of new) request response is.answers
