-- From one end to the other, one step after another.
use Rattle.std.proofs.Common.{◌≡◌, ◌≢◌, ◌≤◌, ◌<◌, ◌⊎◌, ◌+◌, ◌-◌, ℕ, zero, suc, IsTrue, Bool, true, false, not, if◌then◌else◌, List, [], ◌∷◌, ◌++◌, length, slice_get, map, Option, None, Some, IsSomeAnd, refl, sym, ap, subst, ◌∙◌, append_assoc, append-nil, length-append, arith, inl, inr}
use Rattle.std.proofs.lemmas.Bool.{cases_eq, cases_lt, eq-eqb, ne_eqb, true≢false}
use Rattle.std.proofs.Math.Seq.{get_or-append_seam}
use Rattle.std.proofs.lemmas.List.{get_or_append_left}
use Rattle.std.proofs.lemmas.Option.{get_or_from_slice_get, slice_get-get_or, slice_get_within}
use Rattle.std.specs.Bool.{⊤}
use Rattle.std.specs.List.{Contains}
use Rattle.http_server.proofs.Theorems.{always_served}
use Rattle.http_server.specs.History.{History}
use Rattle.slab.specs.Slab.{Slab, SameValues, get}
use Rattle.sqlite.specs.Held.{Held, state}
use Rattle.sqlite.specs.State.{HasCleanDisk}
use Rattle.sqlite_trees.specs.declared.store.Store.{Ghosts}
use Rattle.serve_peers.proofs.Finding as finding
use Rattle.serve_peers.specs.HttpPeers.{calls_of, connection_of}
use Rattle.serve_peers.specs.Journals.{Notes, Round, Told, applied, by_themselves, is_lost_of, journal_of, kept_in, list_of, open_of, rounds_of, shares_of, store_of}
use Rattle.serve_peers.specs.Turns.{AppliesNext, Continues}
use Rattle.serve_peers.specs.LastPeers.{left_of}
use Rattle.serve_peers.specs.LinePeers.{lines_of}
use Rattle.serve_peers.specs.Lines.{IsNewOf, input_of, output_of, received_of, sent_of}
use Rattle.serve_peers.specs.LastTexts.{last_text}
use Rattle.input_http.specs.Texts.{refusal_text}
use Rattle.input_http.specs.declared.refusal.Refusal.TheVariants.{NoSpace}
use Rattle.serve_peers.specs.declared.entry.Entry.{Entry}
use Rattle.serve_peers.specs.declared.last_peer.LastPeer.{LastPeer}
use Rattle.serve_peers.specs.declared.line_connection.Side.{Side}
use Rattle.serve_peers.specs.declared.line_peer.LinePeer.{LinePeer}
use Rattle.serve_peers.specs.Space.{spare_of}
use Rattle.serve_space.specs.declared.spare.Spare.{Spare}
use Rattle.serve_peers.specs.declared.served.Served.{Served}
use Rattle.serve_peers.specs.declared.step.Next.{Next}
use Rattle.serve_peers.specs.declared.step.Next.TheVariants.{Close}
use Rattle.serve_peers.specs.declared.step.Turn.{Turn}
use Rattle.serve_sockets.proofs.Answering.{answered_longer, none_there, places_from, stand_behind, turn_answered, turn_tells, was_answered, was_longer}
use Rattle.serve_sockets.proofs.ByDoors.{visits_by}
use Rattle.serve_sockets.proofs.Drives.{IsClean, IsServed, again_continues, as_served, like, same_rules, served_by, served_continues, serves_shares, step_clean, step_served, turn_continues}
use Rattle.serve_sockets.proofs.VisitPlaces.{Grew, IsShared, Split, at_it, at_others, grew_by, grew_not, grew_then, grown_shared, left_shared, next_places, turned_shared}
use Rattle.serve_sockets.proofs.Inquiring.{grown_alone, grown_by, journal_is, lives_on, runs_so}
use Rattle.serve_sockets.specs.Places.{StandAt}
use Rattle.serve_sockets.specs.Requests.{AnswersCalls}
use Rattle.serve_sockets.specs.Desk.{AnswersDeskCalls}
use Rattle.serve_sockets.specs.Pages.{AnswersPageCalls}
use Rattle.serve_sockets.specs.Last.{TellsLast}
use Rattle.serve_sockets.specs.EndToEnd.{FromEndToEnd, HadAnswer, IsAnswered, IsFoundAgain, IsFresh, TellsInStep, TellsNow, TellsThen, WasAnswered, log_of}
use Rattle.serve_sockets.specs.Guests.{AsksAgain, CameBy, IsNew, IsRefusedForSpace, NobodyWaits, StaysOrIsRefused, TakesTurn, Turns, asked_in, in_round, is_waiting, of_socket, peer_of}
use Rattle.serve_sockets.specs.Halls.{AreOthersKept, Ask, Begin, BeginsRound, Does, DoesAll, Drop, Enter, IsAtMoment, IsDriven, Keep, Leave, MayGo, Serve, Serves, Settle, SettlesRound, StaysAfter, Step}
use Rattle.serve_sockets.specs.Visits.{AsksInVain, Before, Course, EndsTurn, GoesAsAnother, IsLast, IsVisit, IsLeftOut, LetsGo, LosesRound, MayEnd, OfStep, OfSteps, Over, There, TurnsAnother, Visit, left_by, left_in, left_of_turn}
use Rattle.serve_peers.specs.Keeping.{OnlyKeeps}
use Rattle.serve_peers.specs.Rounds.{IsBegun}
use Rattle.serve_peers.specs.Streams.{Ends}
use Rattle.serve_sockets.specs.declared.doors.Speech.{Speech}
use Rattle.serve_sockets.specs.declared.doors.Speech.TheVariants as speech_is
use Rattle.serve_sockets.specs.declared.guest.Guest.{Guest}
use Rattle.serve_sockets.specs.declared.guest.Peer.{Peer}
use Rattle.serve_sockets.specs.declared.guest.Peer.TheVariants.{Desk, Http, Last, Lines, Pages}
use Rattle.http_server.specs.Exchange.{Call}
use Rattle.room_serve.specs.Crashes.{IsFound}
use Rattle.serve_peers.specs.ServedLives.{told_to}
use Rattle.serve_sockets.proofs.HearingLemmas.{none_asked}
use Rattle.rows_tables.specs.Crashes.{CrashesFindLastCommit}

module _ {S : Type 0} (store : Ghosts S) where
  -- the steps by their numbers, each with who was there and what was served before it; behind the last
  -- nothing goes on
  record Trail (guests : Slab Guest) (before after : Served S) : Type 0 where
    step_at : ℕ → Step
    guests_at : ℕ → Slab Guest
    served_at : ℕ → Served S
    does : (n : ℕ) → Does store (step_at n) (guests_at n) (guests_at (suc n)) (served_at n) (served_at (suc n))
    empty : (key : ℕ) → get (guests_at 0) key ≡ None
    begins : served_at 0 ≡ before
    last : ℕ
    there : SameValues (guests_at last) guests
    ends : after ≡ served_at last

  abbrev left_at : {guests : Slab Guest} {before after : Served S} (course : Trail guests before after) (n key : ℕ) → Option Guest
  left_at course n key = left_in store (course.step_at n) key (course.guests_at n) (course.guests_at (suc n)) (course.served_at n) (course.served_at (suc n)) (course.does n)

module _ {S : Type 0} (store : Ghosts S) (before : Served S) (fresh : IsFresh before) (last : Held S) where
  -- from what was asked before, and as far as the disk is honest in the end
  abbrev HasAnswer : Peer → (places : List ℕ) (journal : List Told) → Type 0
  HasAnswer peer places journal = IsAnswered store (store_of before) last peer places journal

  -- ---- who is answered

  new_lines : (whose : Side) (peer : LinePeer) (journal : List Told) → IsNewOf whose (lines_of peer) → HasAnswer (Lines peer) [] journal
  new_lines whose peer journal is = record {
    calls = [];
    lines = tt;
    came = is.received ∙ sym is.input;
    goes = sym (λ i. is.sent i ++ is.output i);
    answered = refl;
  }

  new_answered : (speech : Speech) (peer : Peer) (journal : List Told) → CameBy speech peer → HasAnswer peer [] journal
  new_answered speech_is.Http (Http peer) journal is = record {
    served = always_served (connection_of peer);
    mine = [];
    answered = subst (λ (calls : List Call). AnswersCalls calls []) (sym (ap (λ (h : History). h.calls) is)) refl;
    stand = tt;
  }
  new_answered speech_is.Pages (Pages peer) journal is = record {
    served = always_served (connection_of peer);
    answered = subst (λ (calls : List Call). AnswersPageCalls store (store_of before) last calls 0 [] journal) (sym (ap (λ (h : History). h.calls) is)) refl;
  }
  new_answered speech_is.Desk (Desk peer) journal is = record {
    served = always_served (connection_of peer);
    answered = subst (λ (calls : List Call). AnswersDeskCalls store (store_of before) last calls 0 [] journal) (sym (ap (λ (h : History). h.calls) is)) refl;
  }
  new_answered (speech_is.Lines side) (Lines peer) journal is = new_lines side peer journal is
  new_answered _ _ journal is = absurd is

  longer : (peer : Peer) (places : List ℕ) (journal more all : List Told) → all ≡ journal ++ more → HasAnswer peer places journal → HasAnswer peer places all
  longer peer places journal more all is answered = subst (λ (told : List Told). HasAnswer peer places told) (sym is) (answered_longer store (store_of before) last peer places journal more answered)

  abbrev HadTold : Peer → (places : List ℕ) (journal : List Told) → Type 0
  HadTold peer places journal = WasAnswered store (store_of before) last peer places journal

  had_told : (peer : Peer) (places : List ℕ) (journal : List Told) → HasAnswer peer places journal → HadTold peer places journal
  had_told peer places journal is = was_answered store (store_of before) last peer places journal is

  had_longer : (peer : Peer) (places : List ℕ) (journal more all : List Told) → all ≡ journal ++ more → HadTold peer places journal → HadTold peer places all
  had_longer peer places journal more all is answered = subst (λ (told : List Told). HadTold peer places told) (sym is) (was_longer store (store_of before) last peer places journal more answered)

  -- ---- who waits for a round, and who does not

  -- What it was told stands in the journal; or would, were the round kept. Who waits to hear of a round
  -- that was lost is another from then on.
  abbrev Goes : (asked : List Entry) (shares lost : Bool) (peer : Peer) (places : List ℕ) (served : Served S) → Type 0
  Goes [] shares lost peer places served = HasAnswer peer places (journal_of served)
  Goes (entry ∷ more) true lost peer places served = HasAnswer peer places (journal_of served ++ open_of served)
  Goes (entry ∷ more) false true peer places served = places ≡ []
  Goes (entry ∷ more) false false peer places served = HasAnswer peer places (journal_of served)

  abbrev IsGoing : (shares lost : Bool) → Option Guest → List ℕ → Served S → Type 0
  IsGoing shares lost None places served = places ≡ []
  IsGoing shares lost (Some guest) places served = Goes (asked_in guest) shares lost (peer_of guest) places served

  -- what was so is so
  abbrev Keeps : (shares lost now_shares now_lost : Bool) (old new : Served S) → Type 0
  Keeps shares lost now_shares now_lost old new = (asked : List Entry) (peer : Peer) (places : List ℕ) → Goes asked shares lost peer places old → Goes asked now_shares now_lost peer places new

  goes_on : (shares lost now_shares now_lost : Bool) (slot : Option Guest) (places : List ℕ) (old new : Served S) → Keeps shares lost now_shares now_lost old new → IsGoing shares lost slot places old → IsGoing now_shares now_lost slot places new
  goes_on shares lost now_shares now_lost None places old new keeps going = going
  goes_on shares lost now_shares now_lost (Some guest) places old new keeps going = keeps (asked_in guest) (peer_of guest) places going

  goes_as : (shares lost : Bool) (was now : Option Guest) (places : List ℕ) (served : Served S) → now ≡ was → IsGoing shares lost was places served → IsGoing shares lost now places served
  goes_as shares lost was now places served same going = subst (λ (slot : Option Guest). IsGoing shares lost slot places served) (sym same) going

  -- who waits for nothing
  settled_goes : (shares lost : Bool) (guest : Guest) (places : List ℕ) (served : Served S) → asked_in guest ≡ [] → HasAnswer (peer_of guest) places (journal_of served) → IsGoing shares lost (Some guest) places served
  settled_goes shares lost guest places served none is = subst (λ (asked : List Entry). Goes asked shares lost (peer_of guest) places served) (sym none) is

  going_settled : (shares lost : Bool) (guest : Guest) (places : List ℕ) (served : Served S) → asked_in guest ≡ [] → IsGoing shares lost (Some guest) places served → HasAnswer (peer_of guest) places (journal_of served)
  going_settled shares lost guest places served none is = subst (λ (asked : List Entry). Goes asked shares lost (peer_of guest) places served) none is

  -- ---- what others do

  noted : (shares lost : Bool) (more : List (Option Told)) (old new : Served S) → Notes shares more old new → (asked : List Entry) (peer : Peer) (places : List ℕ) → Goes asked shares lost peer places old → Goes asked shares lost peer places new
  noted true lost more old new notes [] peer places going = subst (λ (rounds : List Round). HasAnswer peer places (kept_in rounds)) (sym notes.0) going
  noted true lost more old new notes (entry ∷ asked) peer places going =
      longer peer places (journal_of old ++ open_of old) (applied more) (journal_of new ++ open_of new) (
      (λ i. kept_in (notes.0 i) ++ notes.1 i) ∙ sym (append_assoc (journal_of old) (open_of old) (applied more))
      ) going
  noted false lost more old new notes [] peer places going = longer peer places (journal_of old) (applied more) (journal_of new) (grown_alone more old new notes.0) going
  noted false true more old new notes (entry ∷ asked) peer places going = going
  noted false false more old new notes (entry ∷ asked) peer places going = longer peer places (journal_of old) (applied more) (journal_of new) (grown_alone more old new notes.0) going

  alike : (shares lost : Bool) (old new : Served S) → rounds_of new ≡ rounds_of old → open_of new ≡ open_of old → (asked : List Entry) (peer : Peer) (places : List ℕ) → Goes asked shares lost peer places old → Goes asked shares lost peer places new
  alike true lost old new over left [] peer places going = subst (λ (rounds : List Round). HasAnswer peer places (kept_in rounds)) (sym over) going
  alike true lost old new over left (entry ∷ asked) peer places going = subst (λ (told : List Told). HasAnswer peer places told) (sym (λ i. kept_in (over i) ++ left i)) going
  alike false lost old new over left [] peer places going = subst (λ (rounds : List Round). HasAnswer peer places (kept_in rounds)) (sym over) going
  alike false true old new over left (entry ∷ asked) peer places going = going
  alike false false old new over left (entry ∷ asked) peer places going = subst (λ (rounds : List Round). HasAnswer peer places (kept_in rounds)) (sym over) going

  -- in a round nothing becomes of the journal
  noted_not : (more : List (Option Told)) (old new : Served S) → Notes true more old new → Keeps false true false true old new
  noted_not more old new notes [] peer places going = subst (λ (rounds : List Round). HasAnswer peer places (kept_in rounds)) (sym notes.0) going
  noted_not more old new notes (entry ∷ asked) peer places going = going

  noted_log : (shares : Bool) (more : List (Option Told)) (old new : Served S) → Notes shares more old new → log_of shares new ≡ log_of shares old ++ applied more
  noted_log true more old new notes = (λ i. kept_in (notes.0 i) ++ notes.1 i) ∙ sym (append_assoc (journal_of old) (open_of old) (applied more))
  noted_log false more old new notes = grown_alone more old new notes.0

  alike_log : (shares : Bool) (old new : Served S) → rounds_of new ≡ rounds_of old → open_of new ≡ open_of old → log_of shares new ≡ log_of shares old
  alike_log true old new over left = λ i. kept_in (over i) ++ left i
  alike_log false old new over left = ap kept_in over

  -- A view is what holds if the round that is under way is kept; or, in a round, what holds if it is not.
  abbrev IsView : (shares lost : Bool) → Served S → Type 0
  IsView shares lost served = ((shares ≡ shares_of served) × (lost ≡ is_lost_of served)) ⊎ (IsTrue (shares_of served) × (shares ≡ false) × (lost ≡ true))

  continues_keeps : (shares lost : Bool) (old new : Served S) → IsView shares lost old → Continues store old new → Keeps shares lost shares lost old new
  continues_keeps shares lost old new (inl view) is = noted shares lost is.more old new (subst (λ b. Notes b is.more old new) (sym view.0) is.notes)
  continues_keeps shares lost old new (inr view) is =
      let notes : Notes true is.more old new = subst (λ b. Notes b is.more old new) view.0 is.notes in
      subst (λ b. Keeps b lost b lost old new) (sym view.1) (subst (λ b. Keeps false b false b old new) (sym view.2) (noted_not is.more old new notes))

  continues_log : (shares lost : Bool) (old new : Served S) → IsView shares lost old → Continues store old new → (more : List Told) × (log_of shares new ≡ log_of shares old ++ more)
  continues_log shares lost old new (inl view) is = (applied is.more, noted_log shares is.more old new (subst (λ b. Notes b is.more old new) (sym view.0) is.notes))
  continues_log shares lost old new (inr view) is =
      let notes : Notes true is.more old new = subst (λ b. Notes b is.more old new) view.0 is.notes in
      ([], subst (λ b. log_of b new ≡ log_of b old ++ []) (sym view.1) (ap kept_in notes.0 ∙ sym (append-nil (journal_of old))))

  same_keeps : (shares lost : Bool) (old new : Served S) → new ≡ old → Keeps shares lost shares lost old new
  same_keeps shares lost old new same asked peer places going = subst (λ (served : Served S). Goes asked shares lost peer places served) (sym same) going

  same_log : (shares : Bool) (old new : Served S) → new ≡ old → log_of shares new ≡ log_of shares old
  same_log shares old new same = ap (λ (served : Served S). log_of shares served) same

  at_moment_keeps : (shares lost : Bool) (old new : Served S) → IsAtMoment old new → Keeps shares lost shares lost old new
  at_moment_keeps shares lost old new at asked peer places going =
      same_keeps shares lost (record old { moment = at.0; spare = spare_of new }) new at.1 asked peer places (alike shares lost old (record old { moment = at.0; spare = spare_of new }) refl refl asked peer places going)

  at_moment_log : (shares : Bool) (old new : Served S) → IsAtMoment old new → log_of shares new ≡ log_of shares old
  at_moment_log shares old new at = same_log shares (record old { moment = at.0; spare = spare_of new }) new at.1 ∙ alike_log shares old (record old { moment = at.0; spare = spare_of new }) refl refl

  view_at : (shares lost : Bool) (old new : Served S) → shares_of new ≡ shares_of old → is_lost_of new ≡ is_lost_of old → IsView shares lost old → IsView shares lost new
  view_at shares lost old new same same_lost (inl view) = inl (view.0 ∙ sym same, view.1 ∙ sym same_lost)
  view_at shares lost old new same same_lost (inr view) = inr (same ∙ view.0, view.1, view.2)

  view_at_moment : (shares lost : Bool) (old new : Served S) → IsAtMoment old new → IsView shares lost old → IsView shares lost new
  view_at_moment shares lost old new at view = view_at shares lost old new (ap (λ (served : Served S). shares_of served) at.1) (ap (λ (served : Served S). is_lost_of served) at.1) view

  -- rounds are only added, and in one that is under way none
  abbrev RoundsStill : (old new : Served S) → Type 0
  RoundsStill old new = (more : List Round) × (rounds_of new ≡ rounds_of old ++ more) × (IsTrue (shares_of old) → (more ≡ []) × IsTrue (shares_of new))

  still_same : (old new : Served S) → rounds_of new ≡ rounds_of old → shares_of new ≡ shares_of old → RoundsStill old new
  still_same old new over same = ([], over ∙ sym (append-nil (rounds_of old)), λ shared. (refl, same ∙ shared))

  still_is : (old new : Served S) → new ≡ old → RoundsStill old new
  still_is old new same = still_same old new (ap (λ (served : Served S). rounds_of served) same) (ap (λ (served : Served S). shares_of served) same)

  still_then : (old mid new : Served S) → RoundsStill old mid → RoundsStill mid new → RoundsStill old new
  still_then old mid new first later = (
    first.0 ++ later.0,
    later.1 ∙ ap (λ x. x ++ later.0) first.1 ∙ append_assoc (rounds_of old) first.0 later.0,
    λ shared. let one = first.2 shared in let two = later.2 one.1 in (ap (λ x. x ++ later.0) one.0 ∙ two.0, two.1),
  )

  still_noted : (shares : Bool) (more : List (Option Told)) (old new : Served S) → Notes shares more old new → shares_of new ≡ shares_of old → shares_of old ≡ shares → RoundsStill old new
  still_noted true more old new notes same is = still_same old new notes.0 same
  still_noted false more old new notes same is = (by_themselves more, notes.0, λ shared. absurd (true≢false (sym shared ∙ is)))

  still_continues : (old new : Served S) → Continues store old new → RoundsStill old new
  still_continues old new is = still_noted (shares_of old) is.more old new is.notes is.shares refl

  -- what a turn does to all others
  abbrev OnBy : (shares lost : Bool) (old new : Served S) → Type 0
  OnBy shares lost old new = Keeps shares lost shares lost old new × ((more : List Told) × (log_of shares new ≡ log_of shares old ++ more)) × RoundsStill old new

  on_then : (shares lost : Bool) (old mid new : Served S) → OnBy shares lost old mid → OnBy shares lost mid new → OnBy shares lost old new
  on_then shares lost old mid new first later = (
    λ asked peer places going. later.0 asked peer places (first.0 asked peer places going),
    (first.1.0 ++ later.1.0, later.1.1 ∙ ap (λ x. x ++ later.1.0) first.1.1 ∙ append_assoc (log_of shares old) first.1.0 later.1.0),
    still_then old mid new first.2 later.2,
  )

  on_same : (shares lost : Bool) (old new : Served S) → Keeps shares lost shares lost old new → log_of shares new ≡ log_of shares old → RoundsStill old new → OnBy shares lost old new
  on_same shares lost old new keeps log still = (keeps, ([], log ∙ sym (append-nil (log_of shares old))), still)

  on_continues : (shares lost : Bool) (old new : Served S) → IsView shares lost old → Continues store old new → OnBy shares lost old new
  on_continues shares lost old new view is = (continues_keeps shares lost old new view is, continues_log shares lost old new view is, still_continues old new is)

  without_asked : (shares lost : Bool) (old new : Served S) → new ≡ record old { asked = None } → OnBy shares lost old new
  without_asked shares lost old new same =
      let bare : Served S = record old { asked = None } in
      on_then shares lost old bare new (on_same shares lost old bare (alike shares lost old bare refl refl) (alike_log shares old bare refl refl) (still_same old bare refl refl)) (on_same shares lost bare new (same_keeps shares lost bare new same) (same_log shares bare new same) (still_is bare new same))

  turn_on : (shared shares lost : Bool) (turn : Turn) (next : Next) (guest left : Guest) (old new : Served S) → IsView shares lost old → Turns store shared turn next guest left old new → OnBy shares lost old new
  turn_on false shares lost turn next guest left old new view turns =
      let again = again_continues store _ _ _ _ old turns.mid turns.again in
      on_then shares lost old turns.mid new (on_continues shares lost old turns.mid view again)
      (on_continues shares lost turns.mid new (view_at shares lost old turns.mid again.shares again.is_lost view) (turn_continues store of_socket of_socket next _ _ turns.mid new turns.takes))
  turn_on true shares lost turn next guest left old new view turns =
      let begun : Served S = record old { asked = guest.asked } in
      let first : OnBy shares lost old begun = on_same shares lost old begun (alike shares lost old begun refl refl) (alike_log shares old begun refl refl) (still_same old begun refl refl) in
      let takes = on_continues shares lost begun turns.left (view_at shares lost old begun refl refl view) (turn_continues store in_round in_round next _ _ begun turns.left turns.takes) in
      on_then shares lost old turns.left new (on_then shares lost old begun turns.left first takes) (without_asked shares lost turns.left new turns.same)

  moment_on : (shares lost : Bool) (old new : Served S) → IsAtMoment old new → OnBy shares lost old new
  moment_on shares lost old new at = on_same shares lost old new (at_moment_keeps shares lost old new at) (at_moment_log shares old new at) (still_same old new (ap (λ (served : Served S). rounds_of served) at.1) (ap (λ (served : Served S). shares_of served) at.1))

  serves_on : (shares lost : Bool) (was now : Option Guest) (old new : Served S) → IsView shares lost old → Serves store was now old new → OnBy shares lost old new
  serves_on shares lost None now old new view (told, vacant) = moment_on shares lost old new vacant.1
  serves_on shares lost (Some guest) now old new view (Some told, (driven, at, by)) = on_then shares lost old driven.begun new (moment_on shares lost old driven.begun driven.moment) (turn_on (shares_of driven.begun) shares lost driven.turn driven.next guest driven.left driven.begun new (view_at_moment shares lost old driven.begun driven.moment view) driven.driven)
  serves_on shares lost (Some guest) now old new view (None, gone) = on_same shares lost old new (same_keeps shares lost old new gone.1) (same_log shares old new gone.1) (still_is old new gone.1)

  -- ---- what becomes of one

  -- Who was let go is answered, if it waits for nothing; and whoever has a place here was let go, and is.
  record OverNow (left now : Option Guest) (its : List ℕ) (log : List Told) : Type 0 where
    heard : (guest : Guest) → left ≡ Some guest → now ≡ None → asked_in guest ≡ [] → HadTold (peer_of guest) its log
    real : (its ≡ []) ⊎ ((guest : Guest) × (left ≡ Some guest) × (now ≡ None) × HadTold (peer_of guest) its log)

  over_longer : (left now : Option Guest) (its : List ℕ) (log more all : List Told) → all ≡ log ++ more → OverNow left now its log → OverNow left now its all
  over_longer left now its log more all is over = record {
    heard = λ guest same none asked. had_longer (peer_of guest) its log more all is (over.heard guest same none asked);
    real = elim over.real [
      | inl none ↦ inl none
      | inr it ↦ inr (it.0, it.1, it.2, had_longer (peer_of it.0) its log more all is it.3)
    ];
  }

  -- whoever was let go is answered, or waited for a round, in a view in which that is not kept
  abbrev HeardOr : (shares lost : Bool) (left now : Option Guest) (its : List ℕ) (log : List Told) → Type 0
  HeardOr shares lost left now its log = (guest : Guest) → left ≡ Some guest → now ≡ None → HadTold (peer_of guest) its log ⊎ ((asked_in guest ≢ []) × (shares ≡ false) × (lost ≡ true))

  -- whoever has a place here went on as another, and was answered
  abbrev WasNow : (step : Step) (was left : Option Guest) (its : List ℕ) (log : List Told) → Type 0
  WasNow step was left its log = (its ≡ []) ⊎ ((guest : Guest) × (was ≡ Some guest) × IsSomeAnd left (GoesAsAnother step guest) × HasAnswer (peer_of guest) its log)

  was_now_longer : (step : Step) (was left : Option Guest) (its : List ℕ) (log more all : List Told) → all ≡ log ++ more → WasNow step was left its log → WasNow step was left its all
  was_now_longer step was left its log more all is (inl none) = inl none
  was_now_longer step was left its log more all is (inr it) = inr (it.0, it.1, it.2, longer (peer_of it.0) its log more all is it.3)

  -- what becomes of one in a step, and of its places
  record Fate (step : Step) (shares lost : Bool) (was left now : Option Guest) (had : List ℕ) (turns : Type 0) (end : ℕ) (new : Served S) : Type 0 where
    base : List ℕ
    its : List ℕ
    here : List ℕ
    over : List ℕ
    ahead : List ℕ
    turned : Split had base ahead
    keeps : (place : ℕ) → Contains base place → Contains its place
    comes : (place : ℕ) → Contains its place → Contains base place ⊎ (turns × (end ≤ place) × (place < length (log_of shares new)))
    news : turns → (place : ℕ) → end ≤ place → place < length (log_of shares new) → Contains its place
    gone : Split its here over
    going : IsGoing shares lost now here new
    is_over : OverNow left now over (log_of shares new)
    is_ahead : WasNow step was left ahead (log_of shares new)
    out : (place : ℕ) → Contains ahead place → shares ≡ false
    heard_or : HeardOr shares lost left now over (log_of shares new)

  some_is : (slot : Option Guest) (one other : Guest) → slot ≡ Some one → slot ≡ Some other → one ≡ other
  some_is slot one other first second = let same : Some one ≡ Some other = sym first ∙ second in cc

  not_both : (slot : Option Guest) (guest : Guest) → slot ≡ None → slot ≡ Some guest → ⊥
  not_both slot guest none some = let no : None ≡ Some guest = sym none ∙ some in cc

  -- nothing new is asked
  abbrev IsQuiet : (turns : Type 0) (end : ℕ) (log : List Told) → Type 0
  IsQuiet turns end log = turns → (place : ℕ) → end ≤ place → place < length log → ⊥

  stays : (step : Step) (shares lost : Bool) (was left now : Option Guest) (had : List ℕ) (turns : Type 0) (end : ℕ) (new : Served S) → IsQuiet turns end (log_of shares new) → ((guest : Guest) → left ≡ Some guest → now ≡ None → ⊥) → IsGoing shares lost now had new → Fate step shares lost was left now had turns end new
  stays step shares lost was left now had turns end new quiet never going = record {
    base = had;
    its = had;
    here = had;
    over = [];
    ahead = [];
    turned = inl (refl, refl);
    keeps = λ place there. there;
    comes = λ place there. inl there;
    news = λ it place high low. absurd (quiet it place high low);
    gone = inl (refl, refl);
    going = going;
    is_over = record { heard = λ guest is none asked. absurd (never guest is none); real = inl refl };
    is_ahead = inl refl;
    out = λ place there. absurd (none_there place there);
    heard_or = λ guest is none. absurd (never guest is none);
  }

  goes : (step : Step) (shares lost : Bool) (was left now : Option Guest) (had : List ℕ) (turns : Type 0) (end : ℕ) (new : Served S) → IsQuiet turns end (log_of shares new) → now ≡ None → OverNow left now had (log_of shares new) → HeardOr shares lost left now had (log_of shares new) → Fate step shares lost was left now had turns end new
  goes step shares lost was left now had turns end new quiet none is heard = record {
    base = had;
    its = had;
    here = [];
    over = had;
    ahead = [];
    turned = inl (refl, refl);
    keeps = λ place there. there;
    comes = λ place there. inl there;
    news = λ it place high low. absurd (quiet it place high low);
    gone = inr (refl, refl);
    going = goes_as shares lost None now [] new none refl;
    is_over = is;
    is_ahead = inl refl;
    out = λ place there. absurd (none_there place there);
    heard_or = heard;
  }

  not_none : (entry : Entry) (more : List Entry) → entry ∷ more ≡ [] → ⊥
  not_none entry more none = absurd (cc)

  -- whoever is let go as it was is answered, or waits for a round that was lost
  went : (shares lost : Bool) (asked : List Entry) (peer : Peer) (places : List ℕ) (served : Served S) → Goes asked shares lost peer places served → HadTold peer places (log_of shares served) ⊎ ((places ≡ []) × (asked ≢ []) × (shares ≡ false) × (lost ≡ true))
  went false lost [] peer places served going = inl (had_told peer places (journal_of served) going)
  went true lost [] peer places served going = inl (had_told peer places (journal_of served ++ open_of served) (longer peer places (journal_of served) (open_of served) (journal_of served ++ open_of served) refl going))
  went true lost (entry ∷ asked) peer places served going = inl (had_told peer places (journal_of served ++ open_of served) going)
  went false true (entry ∷ asked) peer places served going = inr (going, not_none entry asked, refl, refl)
  went false false (entry ∷ asked) peer places served going = inl (had_told peer places (journal_of served) going)

  gone_over : (shares lost : Bool) (guest : Guest) (now : Option Guest) (places : List ℕ) (served : Served S) → now ≡ None → Goes (asked_in guest) shares lost (peer_of guest) places served → OverNow (Some guest) now places (log_of shares served)
  gone_over shares lost guest now places served none going =
      elim (went shares lost (asked_in guest) (peer_of guest) places served going) [
        | inl told ↦ record {
          heard = λ other same gone asked. subst (λ (it : Guest). HadTold (peer_of it) places (log_of shares served)) (some_is (Some guest) guest other refl same) told;
          real = inr (guest, refl, none, told);
        }
        | inr waits ↦ record {
          heard = λ other same gone asked. absurd (waits.1 (ap asked_in (some_is (Some guest) guest other refl same) ∙ asked));
          real = inl waits.0;
        }
      ]

  gone_or : (shares lost : Bool) (guest : Guest) (now : Option Guest) (places : List ℕ) (served : Served S) → Goes (asked_in guest) shares lost (peer_of guest) places served → HeardOr shares lost (Some guest) now places (log_of shares served)
  gone_or shares lost guest now places served going other same none =
      let is : guest ≡ other = some_is (Some guest) guest other refl same in
      elim (went shares lost (asked_in guest) (peer_of guest) places served going) [
        | inl told ↦ inl (subst (λ (it : Guest). HadTold (peer_of it) places (log_of shares served)) is told)
        | inr waits ↦ inr ((λ asked. waits.1 (ap asked_in is ∙ asked)), waits.2, waits.3)
      ]

  may_go : (step : Step) (shares lost : Bool) (was now : Option Guest) (had : List ℕ) (turns : Type 0) (end : ℕ) (served : Served S) → IsQuiet turns end (log_of shares served) → MayGo was now → IsGoing shares lost was had served → Fate step shares lost was was now had turns end served
  may_go step shares lost was now had turns end served quiet (inl kept) going =
      stays step shares lost was was now had turns end served quiet (λ guest is none. not_both was guest (sym kept ∙ none) is) (goes_as shares lost was now had served kept going)
  may_go step shares lost None now had turns end served quiet (inr gone) going =
      stays step shares lost None None now had turns end served quiet (λ guest is none. not_both None guest refl is) (goes_as shares lost None now had served gone going)
  may_go step shares lost (Some guest) now had turns end served quiet (inr gone) going =
      goes step shares lost (Some guest) (Some guest) now had turns end served quiet gone (gone_over shares lost guest now had served gone going) (gone_or shares lost guest now had served going)

  new_goes : (doors : List Speech) (shares lost : Bool) (slot : Option Guest) (served : Served S) → IsSomeAnd slot (IsNew doors) → IsGoing shares lost slot [] served
  new_goes doors shares lost None served is = refl
  new_goes doors shares lost (Some guest) served is = settled_goes shares lost guest [] served is.3 (new_answered is.0 (peer_of guest) (journal_of served) is.1)

  came_in : (doors : List Speech) (step : Step) (shares lost : Bool) (was now : Option Guest) (had : List ℕ) (turns : Type 0) (end : ℕ) (served : Served S) → IsQuiet turns end (log_of shares served) → was ≡ None → IsSomeAnd now (IsNew doors) → IsGoing shares lost was had served → Fate step shares lost was was now had turns end served
  came_in doors step shares lost was now had turns end served quiet vacant is going =
      let none : had ≡ [] = subst (λ (slot : Option Guest). IsGoing shares lost slot had served) vacant going in
      stays step shares lost was was now had turns end served quiet (λ guest some gone. not_both was guest vacant some) (subst (λ (places : List ℕ). IsGoing shares lost now places served) (sym none) (new_goes doors shares lost now served is))

  -- ---- a turn of its own

  -- where it asked nothing nothing was told
  nothing_more : (asked its : List Entry) → asked ++ its ≡ [] → (asked ≡ []) × (its ≡ [])
  nothing_more [] its none = (refl, none)
  nothing_more (entry ∷ asked) its none = absurd (cc)

  nothing_told : (more : List Told) → map (λ (told : Told). told.0) more ≡ [] → more ≡ []
  nothing_told [] none = refl
  nothing_told (told ∷ more) none = absurd (cc)

  abbrev WasClean : Served S → Type 0
  WasClean served = HasCleanDisk (state store last) → IsClean store served

  -- a peer is answered so as its turn begins, at places that it had, or as another
  record BeginsTurn (was begun : Peer) (had : List ℕ) (old mid : Served S) : Type 0 where
    base : List ℕ
    its : List ℕ
    ahead : List ℕ
    turned : Split had base ahead
    grew : Grew base (length (journal_of old)) (length (journal_of mid)) its
    has : HasAnswer begun its (journal_of mid)
    ahead_has : (ahead ≡ []) ⊎ (IsLast begun × HasAnswer was ahead (journal_of mid))

  begins_same : (was begun : Peer) (had : List ℕ) (old mid : Served S) → begun ≡ was → mid ≡ old → HasAnswer was had (journal_of old) → BeginsTurn was begun had old mid
  begins_same was begun had old mid same mid_is is = record {
    base = had;
    its = had;
    ahead = [];
    turned = inl (refl, refl);
    grew = grew_not had (length (journal_of old)) (length (journal_of mid)) (omega (arith, ap (λ (served : Served S). length (journal_of served)) mid_is));
    has = subst (λ (peer : Peer). HasAnswer peer had (journal_of mid)) (sym same) (subst (λ (served : Served S). HasAnswer was had (journal_of served)) (sym mid_is) is);
    ahead_has = inl refl;
  }

  -- a client that was refused for want of space has no place, and what it was is over
  refused_has : (begun : Peer) (journal : List Told) → IsRefusedForSpace begun → HasAnswer begun [] journal × IsLast begun
  refused_has (Last peer) journal (inl left) = (inr (record { nowhere = refl; went = []; text = sym left }), tt)
  refused_has (Last peer) journal (inr none) = (inr (record { nowhere = refl; went = refusal_text NoSpace; text = sym (ap (λ x. refusal_text NoSpace ++ x) none ∙ append-nil (refusal_text NoSpace)) }), tt)
  refused_has (Http peer) journal is = absurd is
  refused_has (Pages peer) journal is = absurd is
  refused_has (Desk peer) journal is = absurd is
  refused_has (Lines peer) journal is = absurd is

  begins_refused : (was begun : Peer) (had : List ℕ) (old mid : Served S) → IsRefusedForSpace begun → mid ≡ old → HasAnswer was had (journal_of old) → BeginsTurn was begun had old mid
  begins_refused was begun had old mid refused mid_is is =
      let now = refused_has begun (journal_of mid) refused in
      record {
        base = [];
        its = [];
        ahead = had;
        turned = inr (refl, refl);
        grew = grew_not [] (length (journal_of old)) (length (journal_of mid)) (omega (arith, ap (λ (served : Served S). length (journal_of served)) mid_is));
        has = now.0;
        ahead_has = inr (now.1, subst (λ (served : Served S). HasAnswer was had (journal_of served)) (sym mid_is) is);
      }

  stays_or_not : (most : ℕ) (was begun : Peer) (had : List ℕ) (old mid : Served S) → StaysOrIsRefused most was begun × (mid ≡ old) → HasAnswer was had (journal_of old) → BeginsTurn was begun had old mid
  stays_or_not most was begun had old mid (inl same, mid_is) is = begins_same was begun had old mid same mid_is is
  stays_or_not most was begun had old mid (inr turned, mid_is) is = begins_refused was begun had old mid turned.1 mid_is is

  -- what was asked in a round that was lost is told anew, and stands in the journal
  told_again : (told : Told) (was : Peer) (peer : LastPeer) (had : List ℕ) (old mid : Served S) → AppliesNext store told.0 told.1 old mid → shares_of old ≡ false → (left_of peer ≡ last_text told.0 told.1) ⊎ (left_of peer ≡ []) → had ≡ [] → BeginsTurn was (Last peer) had old mid
  told_again told was peer had old mid next alone left nowhere =
      let notes : Notes false (Some told ∷ []) old mid = subst (λ b. Notes b (Some told ∷ []) old mid) alone next.notes in
      let grown : journal_of mid ≡ journal_of old ++ told ∷ [] = grown_alone (Some told ∷ []) old mid notes.0 in
      let its : List ℕ = places_from (length (journal_of old)) (told ∷ []) in
      let stands : StandAt 0 its (told ∷ []) (journal_of mid) = subst (λ (journal : List Told). StandAt 0 its (told ∷ []) journal) (sym grown) (stand_behind 0 (journal_of old) (told ∷ []) (omega arith)) in
      let tells : TellsLast peer its (journal_of mid) =
      elim left [
        | inl whole ↦ record { told = told; stands = stands; went = []; text = sym whole }
        | inr none ↦ record { told = told; stands = stands; went = last_text told.0 told.1; text = sym (ap (λ x. last_text told.0 told.1 ++ x) none ∙ append-nil (last_text told.0 told.1)) }
      ] in
      record {
        base = [];
        its = its;
        ahead = [];
        turned = inl (sym nowhere, refl);
        grew = grew_by [] (length (journal_of old)) (length (journal_of mid)) (told ∷ []) (ap length grown ∙ length-append (journal_of old) (told ∷ []));
        has = inl tells;
        ahead_has = inl refl;
      }

  again_goes : (lost : Bool) (asked : List Entry) (was begun : Peer) (had : List ℕ) (old mid : Served S) → AsksAgain store lost asked was begun old mid → shares_of old ≡ false → Goes asked false lost was had old → BeginsTurn was begun had old mid
  again_goes true (entry ∷ more) was (Last begun) had old mid is alone going = told_again (entry, is.told) was begun had old mid is.next alone is.left going
  again_goes true (entry ∷ more) was (Http begun) had old mid is alone going = absurd is
  again_goes true (entry ∷ more) was (Pages begun) had old mid is alone going = absurd is
  again_goes true (entry ∷ more) was (Desk begun) had old mid is alone going = absurd is
  again_goes true (entry ∷ more) was (Lines begun) had old mid is alone going = absurd is
  again_goes true [] was begun had old mid is alone going = stays_or_not _ was begun had old mid is going
  again_goes false [] was begun had old mid is alone going = stays_or_not _ was begun had old mid is going
  again_goes false (entry ∷ more) was begun had old mid is alone going = stays_or_not _ was begun had old mid is going

  last_stays : (ends ends2 : Ends) (next : Next) (begun now : Peer) (old new : Served S) → TakesTurn store ends ends2 next begun now old new → IsLast begun → IsLast now
  last_stays ends ends2 next (Last begun) (Last now) old new takes is = tt
  last_stays ends ends2 next (Last begun) (Http now) old new takes is = absurd takes
  last_stays ends ends2 next (Last begun) (Pages now) old new takes is = absurd takes
  last_stays ends ends2 next (Last begun) (Desk now) old new takes is = absurd takes
  last_stays ends ends2 next (Last begun) (Lines now) old new takes is = absurd takes
  last_stays ends ends2 next (Http begun) now old new takes is = absurd is
  last_stays ends ends2 next (Pages begun) now old new takes is = absurd is
  last_stays ends ends2 next (Desk begun) now old new takes is = absurd is
  last_stays ends ends2 next (Lines begun) now old new takes is = absurd is

  -- how a turn ends: it is there at these places, or was let go, and they are of a visit that is over
  had_turn : (step : Step) (shares lost : Bool) (was : Option Guest) (left : Guest) (next : Next) (now : Option Guest) (had base its ahead : List ℕ) (turns : Type 0) → turns → (end : ℕ) (new : Served S) → Split had base ahead → Grew base end (length (log_of shares new)) its
      → WasNow step was (Some left) ahead (log_of shares new) → ((place : ℕ) → Contains ahead place → shares ≡ false) → StaysAfter next (Some left) now → (next ≢ Close → IsGoing shares lost (Some left) its new) → (asked_in left ≡ [] → HadTold (peer_of left) its (log_of shares new)) → ((its ≡ []) ⊎ HadTold (peer_of left) its (log_of shares new)) → (HadTold (peer_of left) its (log_of shares new) ⊎ ((asked_in left ≢ []) × (shares ≡ false) × (lost ≡ true)))
      → Fate step shares lost was (Some left) now had turns end new
  had_turn step shares lost was left next now had base its ahead turns turn end new split grew is_ahead out (inl kept) going heard real either = record {
    base = base;
    its = its;
    here = its;
    over = [];
    ahead = ahead;
    turned = split;
    keeps = grew.keeps;
    comes = λ place there. elim (grew.comes place there) [
      | inl old ↦ inl old
      | inr new ↦ inr (turn, new.0, new.1)
    ];
    news = λ it. grew.news;
    gone = inl (refl, refl);
    going = goes_as shares lost (Some left) now its new kept.1 (going kept.0);
    is_over = record { heard = λ guest is none. absurd (not_both now left none kept.1); real = inl refl };
    is_ahead = is_ahead;
    out = out;
    heard_or = λ guest is none. absurd (not_both now left none kept.1);
  }
  had_turn step shares lost was left next now had base its ahead turns turn end new split grew is_ahead out (inr gone) going heard real either = record {
    base = base;
    its = its;
    here = [];
    over = its;
    ahead = ahead;
    turned = split;
    keeps = grew.keeps;
    comes = λ place there. elim (grew.comes place there) [
      | inl old ↦ inl old
      | inr new ↦ inr (turn, new.0, new.1)
    ];
    news = λ it. grew.news;
    gone = inr (refl, refl);
    going = goes_as shares lost None now [] new gone.1 refl;
    is_over = record {
      heard = λ guest is none asked.
          let same = some_is (Some left) left guest refl is in
          subst (λ (it : Guest). HadTold (peer_of it) its (log_of shares new)) same (heard (ap asked_in same ∙ asked));
      real = elim real [
        | inl nowhere ↦ inl nowhere
        | inr told ↦ inr (left, refl, gone.1, told)
      ];
    };
    is_ahead = is_ahead;
    out = out;
    heard_or = λ guest is none.
        let same : left ≡ guest = some_is (Some left) left guest refl is in
        elim either [
          | inl told ↦ inl (subst (λ (it : Guest). HadTold (peer_of it) its (log_of shares new)) same told)
          | inr waits ↦ inr ((λ asked. waits.0 (ap asked_in same ∙ asked)), waits.1, waits.2)
        ];
  }

  -- where no round is under way
  served_fate : (shares : Bool) (step : Step) (turn : Turn) (next : Next) (guest left : Guest) (now : Option Guest) (had : List ℕ) (turns : Type 0) → turns → (old new : Served S) → IsServed store before old → WasClean new → shares ≡ false → shares_of old ≡ false → ((it : Guest) → IsLast (peer_of it) → GoesAsAnother step guest it)
      → Turns store shares turn next guest left old new → StaysAfter next (Some left) now → Goes (asked_in guest) false (is_lost_of old) (peer_of guest) had old → Fate step false (is_lost_of old) (Some guest) (Some left) now had turns (length (journal_of old)) new
  served_fate true step turn next guest left now had turns it old new served clean is alone another does stays going = absurd (true≢false is)
  served_fate false step turn next guest left now had turns it old new served clean is alone another does stays going =
      let begins = again_goes (is_lost_of old) (asked_in guest) (peer_of guest) does.begun had old does.mid does.again alone going in
      let again = again_continues store _ _ _ _ old does.mid does.again in
      let told = turn_answered store before fresh last of_socket of_socket next does.begun (peer_of left) does.mid new (served_continues store before old does.mid served again) clean does.takes in
      let more : List Told = applied told.0.more in
      let first : Notes false again.more old does.mid = subst (λ b. Notes b again.more old does.mid) alone again.notes in
      let notes : Notes false told.0.more does.mid new = subst (λ b. Notes b told.0.more does.mid new) (again.shares ∙ alone) told.0.notes in
      let grown : journal_of new ≡ journal_of does.mid ++ more = grown_alone told.0.more does.mid new notes.0 in
      let long : length (journal_of new) ≡ length (journal_of does.mid) + length more = ap length grown ∙ length-append (journal_of does.mid) more in
      let low : length (journal_of old) ≤ length (journal_of does.mid) = omega (arith, ap length (grown_alone again.more old does.mid first.0), length-append (journal_of old) (applied again.more)) in
      let high : length (journal_of does.mid) ≤ length (journal_of new) = omega (arith, long) in
      let its : List ℕ = begins.its ++ places_from (length (journal_of does.mid)) more in
      let grew = grew_then begins.base (length (journal_of old)) (length (journal_of does.mid)) (length (journal_of new)) begins.its its low high begins.grew (grew_by begins.its (length (journal_of does.mid)) (length (journal_of new)) more long) in
      let both = told.1 begins.its (journal_of does.mid) (λ _. refl) begins.has in
      let has_told : HadTold (peer_of left) its (journal_of new) = subst (λ (journal : List Told). HadTold (peer_of left) its journal) (sym grown) both.1 in
      had_turn step false (is_lost_of old) (Some guest) left next now had begins.base its begins.ahead turns it (length (journal_of old)) new begins.turned grew
      (elim begins.ahead_has [
        | inl none ↦ inl none
        | inr was ↦ inr (guest, refl, another left (last_stays of_socket of_socket next does.begun (peer_of left) does.mid new does.takes was.0), longer (peer_of guest) begins.ahead (journal_of does.mid) more (journal_of new) grown was.1)
      ])
      (λ place there. refl)
      stays (λ goes. settled_goes false (is_lost_of old) left its new does.asked (subst (λ (journal : List Told). HasAnswer (peer_of left) its journal) (sym grown) (both.0 goes)))
      (λ none. has_told) (inr has_told) (inl has_told)

  -- what it was told before, with what stands in the round
  in_the_round : (asked : List Entry) (lost : Bool) (peer : Peer) (places : List ℕ) (old : Served S) → Goes asked true lost peer places old → HasAnswer peer places (journal_of old ++ open_of old)
  in_the_round [] lost peer places old going = answered_longer store (store_of before) last peer places (journal_of old) (open_of old) going
  in_the_round (entry ∷ asked) lost peer places old going = going

  -- who asks nothing in a round
  asks_none : (was now : Peer) (more : List Told) (places : List ℕ) (journal : List Told) → more ≡ [] → ((at : List ℕ) (log : List Told) → HasAnswer was at log → HasAnswer now (at ++ places_from (length log) more) (log ++ more)) → HasAnswer was places journal → HasAnswer now places journal
  asks_none was now more places journal none answers had =
      let has : HasAnswer now (places ++ []) (journal ++ []) = subst (λ (xs : List Told). HasAnswer now (places ++ places_from (length journal) xs) (journal ++ xs)) none (answers places journal had) in
      subst (λ (at : List ℕ). HasAnswer now at journal) (append-nil places) (subst (λ (told : List Told). HasAnswer now (places ++ []) told) (append-nil journal) has)

  -- the same of one that may have lost what waited to go
  left_none : (was now : Peer) (more : List Told) (places : List ℕ) (journal : List Told) → more ≡ [] → ((at : List ℕ) (log : List Told) → HasAnswer was at log → HadTold now (at ++ places_from (length log) more) (log ++ more)) → HasAnswer was places journal → HadTold now places journal
  left_none was now more places journal none answers had =
      let has : HadTold now (places ++ []) (journal ++ []) = subst (λ (xs : List Told). HadTold now (places ++ places_from (length journal) xs) (journal ++ xs)) none (answers places journal had) in
      subst (λ (at : List ℕ). HadTold now at journal) (append-nil places) (subst (λ (told : List Told). HadTold now (places ++ []) told) (append-nil journal) has)

  -- in a round, were it kept
  asks : (was now : Peer) (asked its : List Entry) (lost : Bool) (more : List Told) (places : List ℕ) (old left : Served S) → rounds_of left ≡ rounds_of old → log_of true left ≡ log_of true old ++ more → its ≡ asked ++ map (λ (told : Told). told.0) more
      → ((at : List ℕ) (journal : List Told) → HasAnswer was at journal → HasAnswer now (at ++ places_from (length journal) more) (journal ++ more)) → Goes asked true lost was places old
      → Goes its true lost now (places ++ places_from (length (log_of true old)) more) left
  asks was now asked [] lost more places old left same log its_are answers going =
      let none = nothing_more asked (map (λ (told : Told). told.0) more) (sym its_are) in
      let no_more : more ≡ [] = nothing_told more none.1 in
      let had : HasAnswer was places (journal_of old) = subst (λ (xs : List Entry). Goes xs true lost was places old) none.0 going in
      let has = asks_none was now more places (journal_of old) no_more answers had in
      let same_places : places ≡ places ++ places_from (length (log_of true old)) more = sym (ap (λ (xs : List Told). places ++ places_from (length (log_of true old)) xs) no_more ∙ append-nil places) in
      subst (λ (at : List ℕ). HasAnswer now at (journal_of left)) same_places (subst (λ (rounds : List Round). HasAnswer now places (kept_in rounds)) (sym same) has)
  asks was now asked (entry ∷ its) lost more places old left same log its_are answers going =
      subst (λ (told : List Told). HasAnswer now (places ++ places_from (length (log_of true old)) more) told) (sym log) (answers places (log_of true old) (in_the_round asked lost was places old going))

  -- in a round: what is told in it, and with whom it is kept
  record Asked (next : Next) (guest left : Guest) (old new : Served S) : Type 0 where
    more : List Told
    same : rounds_of new ≡ rounds_of old
    log : log_of true new ≡ log_of true old ++ more
    asked : asked_in left ≡ asked_in guest ++ map (λ (it : Told). it.0) more
    answers : next ≢ Close → (places : List ℕ) (journal : List Told) → HasAnswer (peer_of guest) places journal → HasAnswer (peer_of left) (places ++ places_from (length journal) more) (journal ++ more)
    leaves : (places : List ℕ) (journal : List Told) → HasAnswer (peer_of guest) places journal → HadTold (peer_of left) (places ++ places_from (length journal) more) (journal ++ more)

  turn_asked : (shares : Bool) (turn : Turn) (next : Next) (guest left : Guest) (old new : Served S) → IsServed store before old → WasClean new → shares ≡ true → shares_of old ≡ true → Turns store shares turn next guest left old new → Asked next guest left old new
  turn_asked false turn next guest left old new served clean is shared turns = absurd (true≢false (sym is))
  turn_asked true turn next guest left old new served clean is shared turns =
      let begun : Served S = record old { asked = guest.asked } in
      let there : IsServed store before begun = as_served store before old begun served (record { rounds = refl; left = refl; tables = refl; shares = refl }) in
      let left_clean : WasClean turns.left = λ honest. subst (λ (held : Held S). HasCleanDisk (state store held)) (ap (λ (it : Served S). store_of it) turns.same) (clean honest) in
      let told = turn_answered store before fresh last in_round in_round next (peer_of guest) (peer_of left) begun turns.left there left_clean turns.takes in
      let more : List Told = applied told.0.more in
      let notes : Notes true told.0.more begun turns.left = subst (λ b. Notes b told.0.more begun turns.left) shared told.0.notes in
      let never = λ (alone : shares_of begun ≡ false). true≢false (sym shared ∙ alone) in
      record {
        more = more;
        same = ap (λ (it : Served S). rounds_of it) turns.same ∙ notes.0;
        log = same_log true (record turns.left { asked = None }) new turns.same ∙ noted_log true told.0.more begun turns.left notes;
        asked = ap (λ (asked : Option Entry). list_of asked) turns.asked ∙ notes.2;
        answers = λ goes at journal is. (told.1 at journal (λ alone. absurd (never alone)) is).0 goes;
        leaves = λ at journal is. (told.1 at journal (λ alone. absurd (never alone)) is).1;
      }

  asked_fate : (step : Step) (lost : Bool) (next : Next) (guest left : Guest) (now : Option Guest) (had : List ℕ) (turns : Type 0) → turns → (old new : Served S) → Asked next guest left old new → StaysAfter next (Some left) now → Goes (asked_in guest) true lost (peer_of guest) had old
      → Fate step true lost (Some guest) (Some left) now had turns (length (log_of true old)) new
  asked_fate step lost next guest left now had turns it old new does stays going =
      let its : List ℕ = had ++ places_from (length (log_of true old)) does.more in
      let long : length (log_of true new) ≡ length (log_of true old) + length does.more = ap length does.log ∙ length-append (log_of true old) does.more in
      let told : HadTold (peer_of left) its (log_of true new) = subst (λ (log : List Told). HadTold (peer_of left) its log) (sym does.log) (does.leaves had (log_of true old) (in_the_round (asked_in guest) lost (peer_of guest) had old going)) in
      had_turn step true lost (Some guest) left next now had had its [] turns it (length (log_of true old)) new (inl (refl, refl)) (grew_by had (length (log_of true old)) (length (log_of true new)) does.more long) (inl refl) (λ place there. absurd (none_there place there)) stays
      (λ goes. asks (peer_of guest) (peer_of left) (asked_in guest) (asked_in left) lost does.more had old new does.same does.log does.asked (does.answers goes) going) (λ none. told) (inr told) (inl told)

  -- the same in a round, were it not kept: who asks first goes on as another
  unasked_fate : (key : ℕ) (next : Next) (guest left : Guest) (asked its : List Entry) (now : Option Guest) (had : List ℕ) (turns : Type 0) → turns → (old new : Served S) → Asked next guest left old new → asked_in guest ≡ asked → asked_in left ≡ its → StaysAfter next (Some left) now
      → Goes asked false true (peer_of guest) had old → Fate (Ask key) false true (Some guest) (Some left) now had turns (length (journal_of old)) new
  unasked_fate key next guest left (entry ∷ more) its now had turns it old new does asked its_are stays going =
      let told : List Entry = map (λ (it : Told). it.0) does.more in
      let waits : asked_in left ≡ entry ∷ (more ++ told) = does.asked ∙ ap (λ x. x ++ told) asked in
      let journal : journal_of new ≡ journal_of old = ap kept_in does.same in
      had_turn (Ask key) false true (Some guest) left next now had had had [] turns it (length (journal_of old)) new (inl (refl, refl)) (grew_not had (length (journal_of old)) (length (journal_of new)) (omega (arith, ap length journal))) (inl refl) (λ place there. refl) stays
      (λ goes. subst (λ (asked : List Entry). Goes asked false true (peer_of left) had new) (sym waits) going) (λ none. absurd (let no : entry ∷ (more ++ told) ≡ [] = sym waits ∙ none in cc)) (inl going) (inr ((λ none. not_none entry (more ++ told) (sym waits ∙ none)), refl, refl))
  unasked_fate key next guest left [] [] now had turns it old new does asked its_are stays going =
      let journal : journal_of new ≡ journal_of old = ap kept_in does.same in
      let none : does.more ≡ [] = nothing_told does.more (nothing_more (asked_in guest) (map (λ (it : Told). it.0) does.more) (sym does.asked ∙ its_are)).1 in
      let told : HadTold (peer_of left) had (journal_of new) = subst (λ (log : List Told). HadTold (peer_of left) had log) (sym journal) (left_none (peer_of guest) (peer_of left) does.more had (journal_of old) none does.leaves going) in
      had_turn (Ask key) false true (Some guest) left next now had had had [] turns it (length (journal_of old)) new (inl (refl, refl)) (grew_not had (length (journal_of old)) (length (journal_of new)) (omega (arith, ap length journal))) (inl refl) (λ place there. refl) stays
      (λ goes. settled_goes false true left had new its_are (subst (λ (log : List Told). HasAnswer (peer_of left) had log) (sym journal) (asks_none (peer_of guest) (peer_of left) does.more had (journal_of old) none (does.answers goes) going))) (λ none. told) (inr told) (inl told)
  unasked_fate key next guest left [] (entry ∷ more) now had turns it old new does asked its_are stays going =
      let journal : journal_of new ≡ journal_of old = ap kept_in does.same in
      let waits = λ (none : asked_in left ≡ []). not_none entry more (sym its_are ∙ none) in
      had_turn (Ask key) false true (Some guest) left next now had [] [] had turns it (length (journal_of old)) new (inr (refl, refl)) (grew_not [] (length (journal_of old)) (length (journal_of new)) (omega (arith, ap length journal)))
      (inr (guest, refl, (asked, waits), subst (λ (log : List Told). HasAnswer (peer_of guest) had log) (sym journal) going)) (λ place there. refl) stays
      (λ goes. subst (λ (asked : List Entry). Goes asked false true (peer_of left) [] new) (sym its_are) refl) (λ none. absurd (waits none)) (inl refl) (inr (waits, refl, refl))

  -- whoever is served
  by_serving : (step : Step) (shares lost : Bool) (was now : Option Guest) (had : List ℕ) (turns : Type 0) (old new : Served S) (serves : Serves store was now old new) → IsGoing shares lost was had old
      → ((guest : Guest) (driven : IsDriven store guest now old new) → Goes (asked_in guest) shares lost (peer_of guest) had driven.begun → Fate step shares lost (Some guest) (Some driven.left) now had turns (length (log_of shares driven.begun)) new)
      → Fate step shares lost was (left_by store was now old new serves) now had turns (length (log_of shares old)) new
  by_serving step shares lost None now had turns old new (told, vacant) going turned =
      stays step shares lost None None now had turns (length (log_of shares old)) new (λ it place high low. omega (arith, high, low, ap length (at_moment_log shares old new vacant.1))) (λ guest is none. not_both None guest refl is) (goes_as shares lost None now had new vacant.0 going)
  by_serving step shares lost (Some guest) now had turns old new (None, gone) going turned =
      goes step shares lost (Some guest) (Some guest) now had turns (length (log_of shares old)) new (λ it place high low. omega (arith, high, low, ap length (same_log shares old new gone.1))) gone.0 (subst (λ (served : Served S). OverNow (Some guest) now had (log_of shares served)) (sym gone.1) (gone_over shares lost guest now had old gone.0 going))
      (subst (λ (served : Served S). HeardOr shares lost (Some guest) now had (log_of shares served)) (sym gone.1) (gone_or shares lost guest now had old going))
  by_serving step shares lost (Some guest) now had turns old new (Some told, (driven, at, by)) going turned =
      subst (λ (end : ℕ). Fate step shares lost (Some guest) (Some driven.left) now had turns end new) (ap length (at_moment_log shares old driven.begun driven.moment))
      (turned guest driven (at_moment_keeps shares lost old driven.begun driven.moment (asked_in guest) (peer_of guest) had going))

  served_begun : (guest : Guest) (now : Option Guest) (old new : Served S) → IsServed store before old → (driven : IsDriven store guest now old new) → IsServed store before driven.begun
  served_begun guest now old new served driven = as_served store before old driven.begun served (like store old driven.begun (record old { moment = driven.moment.0; spare = spare_of driven.begun }) driven.moment.1 (record { rounds = refl; left = refl; tables = refl; shares = refl }))

  shares_begun : (guest : Guest) (now : Option Guest) (old new : Served S) (driven : IsDriven store guest now old new) → shares_of driven.begun ≡ shares_of old
  shares_begun guest now old new driven = ap (λ (served : Served S). shares_of served) driven.moment.1

  lost_begun : (guest : Guest) (now : Option Guest) (old new : Served S) (driven : IsDriven store guest now old new) → is_lost_of driven.begun ≡ is_lost_of old
  lost_begun guest now old new driven = ap (λ (served : Served S). is_lost_of served) driven.moment.1

  -- ---- a step

  -- what becomes of all in a step
  record Moved (step : Step) (a b : Slab Guest) (left : ℕ → Option Guest) (shares lost : Bool) (log : List Told) (new : Served S) (had : ℕ → List ℕ) : Type 0 where
    turner : ℕ
    more : List Told
    grown : log_of shares new ≡ log ++ more
    fates : (key : ℕ) → Fate step shares lost (get a key) (left key) (get b key) (had key) (key ≡ turner) (length log) new

  abbrev AreGoing : (shares lost : Bool) (guests : Slab Guest) (had : ℕ → List ℕ) (served : Served S) → Type 0
  AreGoing shares lost guests had served = (key : ℕ) → IsGoing shares lost (get guests key) (had key) served

  -- nothing new is asked
  moved_still : (step : Step) (a b : Slab Guest) (left : ℕ → Option Guest) (shares lost : Bool) (log : List Told) (new : Served S) (had : ℕ → List ℕ) → log_of shares new ≡ log
      → ((key : ℕ) → IsQuiet (key ≡ 0) (length log) (log_of shares new) → Fate step shares lost (get a key) (left key) (get b key) (had key) (key ≡ 0) (length log) new) → Moved step a b left shares lost log new had
  moved_still step a b left shares lost log new had same fates = record {
    turner = 0;
    more = [];
    grown = same ∙ sym (append-nil log);
    fates = λ key. fates key (λ is place high low. omega (arith, high, low, ap length same));
  }

  all_stay : (step : Step) (a b : Slab Guest) (shares lost : Bool) (log : List Told) (new : Served S) (had : ℕ → List ℕ) → SameValues a b → log_of shares new ≡ log → AreGoing shares lost a had new → Moved step a b (λ key. get a key) shares lost log new had
  all_stay step a b shares lost log new had same_values same going =
      moved_still step a b (λ key. get a key) shares lost log new had same (λ key quiet. stays step shares lost (get a key) (get a key) (get b key) (had key) (key ≡ 0) (length log) new quiet (λ guest is none. not_both (get a key) guest (sym (same_values key) ∙ none) is) (goes_as shares lost (get a key) (get b key) (had key) new (same_values key) (going key)))

  left_turner : (turner : ℕ) (a b : Slab Guest) (old new : Served S) (serves : Serves store (get a turner) (get b turner) old new) → left_of_turn store turner turner a b old new serves ≡ left_by store (get a turner) (get b turner) old new serves
  left_turner turner a b old new serves = ap (λ (is : Bool). if is then left_by store (get a turner) (get b turner) old new serves else get a turner) (eq-eqb turner turner refl)

  left_other : (turner key : ℕ) (a b : Slab Guest) (old new : Served S) (serves : Serves store (get a turner) (get b turner) old new) → key ≢ turner → left_of_turn store turner key a b old new serves ≡ get a key
  left_other turner key a b old new serves differs = ap (λ (is : Bool). if is then left_by store (get a turner) (get b turner) old new serves else get a key) (ne_eqb key turner differs)

  turn_moves : (step : Step) (shares lost : Bool) (turner : ℕ) (a b : Slab Guest) (old new : Served S) (had : ℕ → List ℕ) → IsView shares lost old → (serves : Serves store (get a turner) (get b turner) old new) → AreOthersKept turner a b → AreGoing shares lost a had old
      → Fate step shares lost (get a turner) (left_by store (get a turner) (get b turner) old new serves) (get b turner) (had turner) (turner ≡ turner) (length (log_of shares old)) new
      → Moved step a b (λ key. left_of_turn store turner key a b old new serves) shares lost (log_of shares old) new had
  turn_moves step shares lost turner a b old new had view serves others going fate =
      let on = serves_on shares lost (get a turner) (get b turner) old new view serves in
      let its : Fate step shares lost (get a turner) (left_of_turn store turner turner a b old new serves) (get b turner) (had turner) (turner ≡ turner) (length (log_of shares old)) new =
      subst (λ (slot : Option Guest). Fate step shares lost (get a turner) slot (get b turner) (had turner) (turner ≡ turner) (length (log_of shares old)) new) (sym (left_turner turner a b old new serves)) fate in
      record {
        turner = turner;
        more = on.1.0;
        grown = on.1.1;
        fates = λ key. elim (cases_eq key turner) [
          | inl same ↦ subst (λ (it : ℕ). Fate step shares lost (get a it) (left_of_turn store turner it a b old new serves) (get b it) (had it) (it ≡ turner) (length (log_of shares old)) new) (sym same) its
          | inr differs ↦ subst (λ (slot : Option Guest). Fate step shares lost (get a key) slot (get b key) (had key) (key ≡ turner) (length (log_of shares old)) new) (sym (left_other turner key a b old new serves differs))
              (stays step shares lost (get a key) (get a key) (get b key) (had key) (key ≡ turner) (length (log_of shares old)) new (λ is. absurd (differs is)) (λ guest is none. not_both (get a key) guest (sym (others key differs) ∙ none) is)
              (goes_as shares lost (get a key) (get b key) (had key) new (others key differs) (goes_on shares lost shares lost (get a key) (had key) old new on.0 (going key))))
        ];
      }

  -- where no round is under way
  serve_moves : (turner : ℕ) (a b : Slab Guest) (old new : Served S) (had : ℕ → List ℕ) → IsServed store before old → WasClean new → shares_of old ≡ false → (serves : Serves store (get a turner) (get b turner) old new) → AreOthersKept turner a b → AreGoing false (is_lost_of old) a had old
      → Moved (Serve turner) a b (λ key. left_of_turn store turner key a b old new serves) false (is_lost_of old) (journal_of old) new had
  serve_moves turner a b old new had served clean alone serves others going =
      turn_moves (Serve turner) false (is_lost_of old) turner a b old new had (inl (sym alone, refl)) serves others going
      (by_serving (Serve turner) false (is_lost_of old) (get a turner) (get b turner) (had turner) (turner ≡ turner) old new serves (going turner) (λ guest driven goes.
      let there = served_begun guest (get b turner) old new served driven in
      let alone_there = shares_begun guest (get b turner) old new driven ∙ alone in
      let lost_there = lost_begun guest (get b turner) old new driven in
      subst (λ (lost : Bool). Fate (Serve turner) false lost (Some guest) (Some driven.left) (get b turner) (had turner) (turner ≡ turner) (length (journal_of driven.begun)) new) lost_there
      (served_fate (shares_of driven.begun) (Serve turner) driven.turn driven.next guest driven.left (get b turner) (had turner) (turner ≡ turner) refl driven.begun new there clean alone_there alone_there (λ it is. is) driven.driven driven.stays (subst (λ (lost : Bool). Goes (asked_in guest) false lost (peer_of guest) (had turner) driven.begun) (sym lost_there) goes))
      ))

  driven_asked : (guest : Guest) (now : Option Guest) (old new : Served S) → IsServed store before old → WasClean new → shares_of old ≡ true → (driven : IsDriven store guest now old new) → Asked driven.next guest driven.left driven.begun new
  driven_asked guest now old new served clean shared driven =
      let there = shares_begun guest now old new driven ∙ shared in
      turn_asked (shares_of driven.begun) driven.turn driven.next guest driven.left driven.begun new (served_begun guest now old new served driven) clean there there driven.driven

  -- in a round, were it kept
  ask_moves : (lost : Bool) (turner : ℕ) (a b : Slab Guest) (old new : Served S) (had : ℕ → List ℕ) → IsServed store before old → WasClean new → shares_of old ≡ true → lost ≡ is_lost_of old → (serves : Serves store (get a turner) (get b turner) old new) → AreOthersKept turner a b → AreGoing true lost a had old
      → Moved (Ask turner) a b (λ key. left_of_turn store turner key a b old new serves) true lost (log_of true old) new had
  ask_moves lost turner a b old new had served clean shared is_lost serves others going =
      turn_moves (Ask turner) true lost turner a b old new had (inl (sym shared, is_lost)) serves others going
      (by_serving (Ask turner) true lost (get a turner) (get b turner) (had turner) (turner ≡ turner) old new serves (going turner) (λ guest driven goes.
      asked_fate (Ask turner) lost driven.next guest driven.left (get b turner) (had turner) (turner ≡ turner) refl driven.begun new (driven_asked guest (get b turner) old new served clean shared driven) driven.stays goes
      ))

  -- were it not
  unask_moves : (turner : ℕ) (a b : Slab Guest) (old new : Served S) (had : ℕ → List ℕ) → IsServed store before old → WasClean new → shares_of old ≡ true → (serves : Serves store (get a turner) (get b turner) old new) → AreOthersKept turner a b → AreGoing false true a had old
      → Moved (Ask turner) a b (λ key. left_of_turn store turner key a b old new serves) false true (journal_of old) new had
  unask_moves turner a b old new had served clean shared serves others going =
      turn_moves (Ask turner) false true turner a b old new had (inr (shared, refl, refl)) serves others going
      (by_serving (Ask turner) false true (get a turner) (get b turner) (had turner) (turner ≡ turner) old new serves (going turner) (λ guest driven goes.
      unasked_fate turner driven.next guest driven.left (asked_in guest) (asked_in driven.left) (get b turner) (had turner) (turner ≡ turner) refl driven.begun new (driven_asked guest (get b turner) old new served clean shared driven) refl refl driven.stays goes
      ))

  -- ---- rounds

  -- where nobody waits it is no matter which view it is
  settled_view : (shares lost now_shares now_lost : Bool) (slot : Option Guest) (places : List ℕ) (old new : Served S) → is_waiting slot ≡ false → (more : List Told) → journal_of new ≡ journal_of old ++ more → IsGoing shares lost slot places old → IsGoing now_shares now_lost slot places new
  settled_view shares lost now_shares now_lost None places old new none more grown going = going
  settled_view shares lost now_shares now_lost (Some guest) places old new none more grown going =
      let settled = none_asked guest.asked none in
      settled_goes now_shares now_lost guest places new settled (longer (peer_of guest) places (journal_of old) more (journal_of new) grown (going_settled shares lost guest places old settled going))

  -- what a step adds to the rounds: in the view in which the one that is under way is not kept, none, or that one, lost
  record RoundsOn (shares now_shares : Bool) (old new : Served S) : Type 0 where
    more : List Round
    grown : rounds_of new ≡ rounds_of old ++ more
    under : IsTrue (shares_of old) → shares ≡ false → ((more ≡ []) × IsTrue (shares_of new) × (now_shares ≡ false)) ⊎ ((told : List Told) × (more ≡ (told, false) ∷ []))

  on_still : (shares : Bool) (old new : Served S) → RoundsStill old new → RoundsOn shares shares old new
  on_still shares old new still = record {
    more = still.0;
    grown = still.1;
    under = λ shared is. let on = still.2 shared in inl (on.0, on.1, is);
  }

  -- a view of what is served before a step, and all that becomes of it
  record StepView (step : Step) (a b : Slab Guest) (left : ℕ → Option Guest) (shares lost : Bool) (old new : Served S) : Type 0 where
    was_shares : Bool
    was_lost : Bool
    view : IsView was_shares was_lost old
    rounds : RoundsOn was_shares shares old new
    moves : (had : ℕ → List ℕ) → AreGoing was_shares was_lost a had old → Moved step a b left shares lost (log_of was_shares old) new had

  none_open : (old : Served S) → IsServed store before old → shares_of old ≡ false → open_of old ≡ []
  none_open old (inl is) alone = is.none_left
  none_open old (inr is) alone = absurd (true≢false (sym is.shared ∙ alone))

  begun_log : (shares : Bool) (old new : Served S) → IsBegun store old new → open_of old ≡ [] → log_of shares new ≡ journal_of old
  begun_log true old new begun none = (λ i. kept_in (ap (λ (served : Served S). rounds_of served) begun.same i) ++ (ap (λ (served : Served S). open_of served) begun.same ∙ none) i) ∙ append-nil (journal_of old)
  begun_log false old new begun none = ap (λ (served : Served S). journal_of served) begun.same

  unchanged_view : (step : Step) (a b : Slab Guest) (shares lost : Bool) (old new : Served S) → SameValues a b → new ≡ old → IsView shares lost new → StepView step a b (λ key. get a key) shares lost old new
  unchanged_view step a b shares lost old new same is view = record {
    was_shares = shares;
    was_lost = lost;
    view = subst (λ (served : Served S). IsView shares lost served) is view;
    rounds = on_still shares old new (still_is old new is);
    moves = λ had going. all_stay step a b shares lost (log_of shares old) new had same (same_log shares old new is) (λ key. goes_on shares lost shares lost (get a key) (had key) old new (same_keeps shares lost old new is) (going key));
  }

  begin_view : (a b : Slab Guest) (shares lost : Bool) (old new : Served S) → IsServed store before old → SameValues a b → NobodyWaits a → BeginsRound store old new → IsView shares lost new → StepView Begin a b (λ key. get a key) shares lost old new
  begin_view a b shares lost old new served same nobody (inl under_way) view = unchanged_view Begin a b shares lost old new same under_way.1 view
  begin_view a b shares lost old new served same nobody (inr (inl begun)) view = record {
    was_shares = false;
    was_lost = is_lost_of old;
    view = inl (sym begun.alone, refl);
    rounds = record { more = []; grown = ap (λ (it : Served S). rounds_of it) begun.same ∙ sym (append-nil (rounds_of old)); under = λ shared is. absurd (true≢false (sym shared ∙ begun.alone)) };
    moves = λ had going. all_stay Begin a b shares lost (journal_of old) new had same (begun_log shares old new begun (none_open old served begun.alone))
        (λ key. settled_view false (is_lost_of old) shares lost (get a key) (had key) old new (nobody key) [] (begun_log false old new begun (none_open old served begun.alone) ∙ sym (append-nil (journal_of old))) (going key));
  }
  begin_view a b shares lost old new served same nobody (inr (inr not_begun)) view =
      let alone : shares_of new ≡ false = ap (λ (it : Served S). shares_of it) not_begun.same ∙ not_begun.alone in
      let grown : journal_of new ≡ journal_of old ++ [] = grown_by ([], false) old new not_begun.over in
      let not_shared : shares ≡ false = elim view [
        | inl is ↦ is.0 ∙ alone
        | inr is ↦ is.1
      ] in
      record {
        was_shares = false;
        was_lost = is_lost_of old;
        view = inl (sym not_begun.alone, refl);
        rounds = record { more = ([], false) ∷ []; grown = not_begun.over; under = λ shared is. absurd (true≢false (sym shared ∙ not_begun.alone)) };
        moves = λ had going. all_stay Begin a b shares lost (journal_of old) new had same (ap (λ (it : Bool). log_of it new) not_shared ∙ grown ∙ append-nil (journal_of old))
            (λ key. settled_view false (is_lost_of old) shares lost (get a key) (had key) old new (nobody key) [] grown (going key));
      }

  kept_goes : (lost : Bool) (old new : Served S) → journal_of new ≡ journal_of old ++ open_of old → Keeps true lost false false old new
  kept_goes lost old new grown [] peer places going = longer peer places (journal_of old) (open_of old) (journal_of new) grown going
  kept_goes lost old new grown (entry ∷ asked) peer places going = subst (λ (told : List Told). HasAnswer peer places told) (sym grown) going

  lost_goes : (old new : Served S) → journal_of new ≡ journal_of old ++ [] → Keeps false true false true old new
  lost_goes old new grown [] peer places going = longer peer places (journal_of old) [] (journal_of new) grown going
  lost_goes old new grown (entry ∷ asked) peer places going = going

  settled_by : (lost : Bool) (a b : Slab Guest) (old new : Served S) → SameValues a b → IsTrue (shares_of old) → rounds_of new ≡ rounds_of old ++ (open_of old, not lost) ∷ [] → StepView Settle a b (λ key. get a key) false lost old new
  settled_by false a b old new same shared over =
      let grown : journal_of new ≡ journal_of old ++ open_of old = grown_by (open_of old, true) old new over in
      record {
        was_shares = true;
        was_lost = is_lost_of old;
        view = inl (sym shared, refl);
        rounds = record { more = (open_of old, true) ∷ []; grown = over; under = λ under is. absurd (true≢false is) };
        moves = λ had going. all_stay Settle a b false false (log_of true old) new had same grown (λ key. goes_on true (is_lost_of old) false false (get a key) (had key) old new (kept_goes (is_lost_of old) old new grown) (going key));
      }
  settled_by true a b old new same shared over =
      let grown : journal_of new ≡ journal_of old ++ [] = grown_by (open_of old, false) old new over in
      record {
        was_shares = false;
        was_lost = true;
        view = inr (shared, refl, refl);
        rounds = record { more = (open_of old, false) ∷ []; grown = over; under = λ under is. inr (open_of old, refl) };
        moves = λ had going. all_stay Settle a b false true (journal_of old) new had same (grown ∙ append-nil (journal_of old)) (λ key. goes_on false true false true (get a key) (had key) old new (lost_goes old new grown) (going key));
      }

  settle_view : (a b : Slab Guest) (shares lost : Bool) (old new : Served S) → SameValues a b → SettlesRound store old new → IsView shares lost new → StepView Settle a b (λ key. get a key) shares lost old new
  settle_view a b shares lost old new same (inl none) view = unchanged_view Settle a b shares lost old new same none.1 view
  settle_view a b shares lost old new same (inr is) view =
      let alone : shares_of new ≡ false = ap (λ (it : Served S). shares_of it) is.same in
      elim view [
        | inl at ↦ subst (λ it. StepView Settle a b (λ key. get a key) it lost old new) (sym (at.0 ∙ alone)) (subst (λ it. StepView Settle a b (λ key. get a key) false it old new) (sym at.1) (settled_by (is_lost_of new) a b old new same is.shared is.over))
        | inr at ↦ absurd (true≢false (sym at.0 ∙ alone))
      ]

  -- ---- steps

  turn_lost : (shares : Bool) (turn : Turn) (next : Next) (guest left : Guest) (old new : Served S) → Turns store shares turn next guest left old new → is_lost_of new ≡ is_lost_of old
  turn_lost false turn next guest left old new turns = (turn_continues store of_socket of_socket next _ _ turns.mid new turns.takes).is_lost ∙ (again_continues store _ _ _ _ old turns.mid turns.again).is_lost
  turn_lost true turn next guest left old new turns = ap (λ (served : Served S). is_lost_of served) turns.same ∙ (turn_continues store in_round in_round next _ _ (record old { asked = guest.asked }) turns.left turns.takes).is_lost

  serves_lost : (was now : Option Guest) (old new : Served S) → Serves store was now old new → is_lost_of new ≡ is_lost_of old
  serves_lost None now old new (told, vacant) = ap (λ (served : Served S). is_lost_of served) vacant.1.1
  serves_lost (Some guest) now old new (Some told, (driven, at, by)) = turn_lost _ driven.turn driven.next guest driven.left driven.begun new driven.driven ∙ ap (λ (served : Served S). is_lost_of served) driven.moment.1
  serves_lost (Some guest) now old new (None, gone) = ap (λ (served : Served S). is_lost_of served) gone.1

  keep_log : (shares lost : Bool) (old new : Served S) → IsView shares lost old → OnlyKeeps store old new → log_of shares new ≡ log_of shares old
  keep_log shares lost old new (inl view) keeps = noted_log shares keeps.0.more old new (subst (λ b. Notes b keeps.0.more old new) (sym view.0) keeps.0.notes) ∙ ap (λ x. log_of shares old ++ x) keeps.1 ∙ append-nil (log_of shares old)
  keep_log shares lost old new (inr view) keeps =
      let notes : Notes true keeps.0.more old new = subst (λ b. Notes b keeps.0.more old new) view.0 keeps.0.notes in
      subst (λ b. log_of b new ≡ log_of b old) (sym view.1) (ap kept_in notes.0)

  ask_view : (turner : ℕ) (a b : Slab Guest) (shares lost : Bool) (old new : Served S) → IsServed store before old → WasClean new → IsTrue (shares_of old) → (serves : Serves store (get a turner) (get b turner) old new) → AreOthersKept turner a b → IsView shares lost old
      → StepView (Ask turner) a b (λ key. left_of_turn store turner key a b old new serves) shares lost old new
  ask_view turner a b shares lost old new served clean shared serves others (inl view) =
      subst (λ is. StepView (Ask turner) a b (λ key. left_of_turn store turner key a b old new serves) is lost old new) (sym (view.0 ∙ shared)) (record {
        was_shares = true;
        was_lost = lost;
        view = inl (sym shared, view.1);
        rounds = on_still true old new (serves_on true lost (get a turner) (get b turner) old new (inl (sym shared, view.1)) serves).2;
        moves = λ had going. ask_moves lost turner a b old new had served clean shared view.1 serves others going;
      })
  ask_view turner a b shares lost old new served clean shared serves others (inr view) =
      subst (λ is. StepView (Ask turner) a b (λ key. left_of_turn store turner key a b old new serves) is lost old new) (sym view.1) (subst (λ is. StepView (Ask turner) a b (λ key. left_of_turn store turner key a b old new serves) false is old new) (sym view.2) (record {
        was_shares = false;
        was_lost = true;
        view = inr (shared, refl, refl);
        rounds = on_still false old new (serves_on false true (get a turner) (get b turner) old new (inr (shared, refl, refl)) serves).2;
        moves = λ had going. unask_moves turner a b old new had served clean shared serves others going;
      }))

  serve_view : (turner : ℕ) (a b : Slab Guest) (shares lost : Bool) (old new : Served S) → IsServed store before old → WasClean new → shares_of old ≡ false → (serves : Serves store (get a turner) (get b turner) old new) → AreOthersKept turner a b → IsView shares lost old
      → StepView (Serve turner) a b (λ key. left_of_turn store turner key a b old new serves) shares lost old new
  serve_view turner a b shares lost old new served clean alone serves others (inr view) = absurd (true≢false (sym view.0 ∙ alone))
  serve_view turner a b shares lost old new served clean alone serves others (inl view) =
      subst (λ is. StepView (Serve turner) a b (λ key. left_of_turn store turner key a b old new serves) is lost old new) (sym (view.0 ∙ alone)) (subst (λ is. StepView (Serve turner) a b (λ key. left_of_turn store turner key a b old new serves) false is old new) (sym view.1) (record {
        was_shares = false;
        was_lost = is_lost_of old;
        view = inl (sym alone, refl);
        rounds = on_still false old new (serves_on false (is_lost_of old) (get a turner) (get b turner) old new (inl (sym alone, refl)) serves).2;
        moves = λ had going. serve_moves turner a b old new had served clean alone serves others going;
      }))

  still_view : (step : Step) (a b : Slab Guest) (shares lost : Bool) (old new : Served S) → new ≡ old → IsView shares lost new
      → ((had : ℕ → List ℕ) (key : ℕ) → IsQuiet (key ≡ 0) (length (log_of shares old)) (log_of shares new) → IsGoing shares lost (get a key) (had key) new → Fate step shares lost (get a key) (get a key) (get b key) (had key) (key ≡ 0) (length (log_of shares old)) new)
      → StepView step a b (λ key. get a key) shares lost old new
  still_view step a b shares lost old new is view fates = record {
    was_shares = shares;
    was_lost = lost;
    view = subst (λ (served : Served S). IsView shares lost served) is view;
    rounds = on_still shares old new (still_is old new is);
    moves = λ had going. moved_still step a b (λ key. get a key) shares lost (log_of shares old) new had (same_log shares old new is) (λ key quiet. fates had key quiet (goes_on shares lost shares lost (get a key) (had key) old new (same_keeps shares lost old new is) (going key)));
  }

  step_view : (step : Step) (a b : Slab Guest) (shares lost : Bool) (old new : Served S) → IsServed store before old → WasClean new → (does : Does store step a b old new) → IsView shares lost new → StepView step a b (λ key. left_in store step key a b old new does) shares lost old new
  step_view Keep a b shares lost old new served clean does view =
      let was = view_at shares lost new old (sym does.1.0.shares) (sym does.1.0.is_lost) view in
      record {
        was_shares = shares;
        was_lost = lost;
        view = was;
        rounds = on_still shares old new (still_continues old new does.1.0);
        moves = λ had going. all_stay Keep a b shares lost (log_of shares old) new had does.0 (keep_log shares lost old new was does.1) (λ key. goes_on shares lost shares lost (get a key) (had key) old new (continues_keeps shares lost old new was does.1.0) (going key));
      }
  step_view Begin a b shares lost old new served clean does view = begin_view a b shares lost old new served does.0 does.1 does.2 view
  step_view (Ask turner) a b shares lost old new served clean does view = ask_view turner a b shares lost old new served clean does.0 does.1 does.2 (view_at shares lost new old (sym (serves_shares store (get a turner) (get b turner) old new does.1)) (sym (serves_lost (get a turner) (get b turner) old new does.1)) view)
  step_view Settle a b shares lost old new served clean does view = settle_view a b shares lost old new does.0 does.1 view
  step_view (Serve turner) a b shares lost old new served clean does view = serve_view turner a b shares lost old new served clean does.0 does.1 does.2 (view_at shares lost new old (sym (serves_shares store (get a turner) (get b turner) old new does.1)) (sym (serves_lost (get a turner) (get b turner) old new does.1)) view)
  step_view (Drop dropped) a b shares lost old new served clean does view =
      still_view (Drop dropped) a b shares lost old new does.2 view (λ had key quiet going.
      let may : MayGo (get a key) (get b key) = elim (cases_eq key dropped) [
        | inl same ↦ subst (λ (it : ℕ). MayGo (get a it) (get b it)) (sym same) does.0
        | inr differs ↦ inl (does.1 key differs)
      ] in
      may_go (Drop dropped) shares lost (get a key) (get b key) (had key) (key ≡ 0) (length (log_of shares old)) new quiet may going
      )
  step_view (Enter doors) a b shares lost old new served clean does view =
      still_view (Enter doors) a b shares lost old new does.1 view (λ had key quiet going. elim (does.0 key) [
        | inl same ↦ may_go (Enter doors) shares lost (get a key) (get b key) (had key) (key ≡ 0) (length (log_of shares old)) new quiet (inl same) going
        | inr came ↦ came_in doors (Enter doors) shares lost (get a key) (get b key) (had key) (key ≡ 0) (length (log_of shares old)) new quiet came.0 came.1 going
      ])
  step_view Leave a b shares lost old new served clean does view =
      still_view Leave a b shares lost old new does.1 view (λ had key quiet going. may_go Leave shares lost (get a key) (get b key) (had key) (key ≡ 0) (length (log_of shares old)) new quiet (does.0 key) going)

  -- ---- rounds that are not kept

  round_longer : (all more : List Round) (place : ℕ) (round : Round) → slice_get all place ≡ Some round → slice_get (all ++ more) place ≡ Some round
  round_longer all more place round is =
      let within = slice_get_within all place round is in
      slice_get-get_or (all ++ more) place round (omega (arith, within, length-append all more)) ∙ ap (λ (x : Round). Some x) (get_or_append_left all more round place within ∙ get_or_from_slice_get all place round round is)

  round_seam : (front : List Round) (round : Round) → slice_get (front ++ round ∷ []) (length front) ≡ Some round
  round_seam front round =
      slice_get-get_or (front ++ round ∷ []) (length front) round (omega (arith, length-append front (round ∷ []))) ∙ ap (λ (x : Round). Some x) (get_or-append_seam front round [] round)

  -- what was asked first in a round in that step is of one that is still under way, in the view in which it is not kept, or was lost
  abbrev IsOut : (step : Step) (began : Served S) (shares : Bool) (now : Served S) → Type 0
  IsOut (Ask key) began shares now = ((length (rounds_of began) ≡ length (rounds_of now)) × IsTrue (shares_of now) × (shares ≡ false)) ⊎ ((told : List Told) × (slice_get (rounds_of now) (length (rounds_of began)) ≡ Some (told, false)))
  IsOut _ began shares now = ⊤

  out_on : (step : Step) (began old new : Served S) (shares now_shares : Bool) → RoundsOn shares now_shares old new → IsOut step began shares old → IsOut step began now_shares new
  out_on (Ask key) began old new shares now_shares on (inl is) = elim (on.under is.1 is.2) [
    | inl still ↦ inl (is.0 ∙ ap length (sym (on.grown ∙ ap (λ x. rounds_of old ++ x) still.0 ∙ append-nil (rounds_of old))), still.1, still.2)
    | inr lost ↦ inr (
      lost.0,
      subst (λ (n : ℕ). slice_get (rounds_of new) n ≡ Some (lost.0, false)) (sym is.0)
          (subst (λ (rounds : List Round). slice_get rounds (length (rounds_of old)) ≡ Some (lost.0, false)) (sym (on.grown ∙ ap (λ x. rounds_of old ++ x) lost.1)) (round_seam (rounds_of old) (lost.0, false))),
    )
  ]
  out_on (Ask key) began old new shares now_shares on (inr is) = inr (is.0, subst (λ (rounds : List Round). slice_get rounds (length (rounds_of began)) ≡ Some (is.0, false)) (sym on.grown) (round_longer (rounds_of old) on.more (length (rounds_of began)) (is.0, false) is.1))
  out_on Keep began old new shares now_shares on is = tt
  out_on Begin began old new shares now_shares on is = tt
  out_on Settle began old new shares now_shares on is = tt
  out_on (Serve key) began old new shares now_shares on is = tt
  out_on (Drop key) began old new shares now_shares on is = tt
  out_on (Enter doors) began old new shares now_shares on is = tt
  out_on Leave began old new shares now_shares on is = tt

  out_new : (step : Step) (a b : Slab Guest) (old new : Served S) (shares : Bool) → shares ≡ false → Does store step a b old new → IsOut step old shares new
  out_new (Ask turner) a b old new shares is does =
      let still = (serves_on (shares_of old) (is_lost_of old) (get a turner) (get b turner) old new (inl (refl, refl)) does.1).2 in
      let on = still.2 does.0 in
      inl (ap length (sym (still.1 ∙ ap (λ x. rounds_of old ++ x) on.0 ∙ append-nil (rounds_of old))), on.1, is)
  out_new Keep a b old new shares is does = tt
  out_new Begin a b old new shares is does = tt
  out_new Settle a b old new shares is does = tt
  out_new (Serve key) a b old new shares is does = tt
  out_new (Drop key) a b old new shares is does = tt
  out_new (Enter doors) a b old new shares is does = tt
  out_new Leave a b old new shares is does = tt

  -- whoever waited in that step waits for a round that is not kept
  abbrev IsUnheard : (began : Served S) (shares : Bool) (now : Served S) → Type 0
  IsUnheard began shares now = ((shares_of began ≡ false) × (is_lost_of began ≡ true)) ⊎ (IsTrue (shares_of began) × IsOut (Ask 0) began shares now)

  unheard_on : (began old new : Served S) (shares now_shares : Bool) → RoundsOn shares now_shares old new → IsUnheard began shares old → IsUnheard began now_shares new
  unheard_on began old new shares now_shares on (inl is) = inl is
  unheard_on began old new shares now_shares on (inr is) = inr (is.0, out_on (Ask 0) began old new shares now_shares on is.1)

  unheard_same : (old new : Served S) (shares lost : Bool) → new ≡ old → IsView shares lost new → shares ≡ false → lost ≡ true → IsUnheard old shares new
  unheard_same old new shares lost same (inl view) not_shared is_lost = inl (sym (ap (λ (it : Served S). shares_of it) same) ∙ sym view.0 ∙ not_shared, sym (ap (λ (it : Served S). is_lost_of it) same) ∙ sym view.1 ∙ is_lost)
  unheard_same old new shares lost same (inr view) not_shared is_lost = inr (sym (ap (λ (it : Served S). shares_of it) same) ∙ view.0, inl (ap (λ (it : Served S). length (rounds_of it)) (sym same), view.0, not_shared))

  unheard_new : (step : Step) (key : ℕ) (guest : Guest) (a b : Slab Guest) (old new : Served S) (shares lost : Bool) (does : Does store step a b old new) → IsView shares lost new → shares ≡ false → lost ≡ true → left_in store step key a b old new does ≡ Some guest → get b key ≡ None → IsUnheard old shares new
  unheard_new Keep key guest a b old new shares lost does view not_shared is_lost is none = absurd (not_both (get b key) guest none (does.0 key ∙ is))
  unheard_new Begin key guest a b old new shares lost does view not_shared is_lost is none = absurd (not_both (get b key) guest none (does.0 key ∙ is))
  unheard_new Settle key guest a b old new shares lost does view not_shared is_lost is none = absurd (not_both (get b key) guest none (does.0 key ∙ is))
  unheard_new (Enter doors) key guest a b old new shares lost does view not_shared is_lost is none =
      elim (does.0 key) [
        | inl same ↦ absurd (not_both (get b key) guest none (same ∙ is))
        | inr came ↦ absurd (not_both (get a key) guest came.0 is)
      ]
  unheard_new (Ask turner) key guest a b old new shares lost does view not_shared is_lost is none = inr (does.0, out_new (Ask turner) a b old new shares not_shared does)
  unheard_new (Serve turner) key guest a b old new shares lost does view not_shared is_lost is none =
      elim view [
        | inl at ↦ inl (does.0, sym (serves_lost (get a turner) (get b turner) old new does.1) ∙ sym at.1 ∙ is_lost)
        | inr at ↦ absurd (true≢false (sym at.0 ∙ serves_shares store (get a turner) (get b turner) old new does.1 ∙ does.0))
      ]
  unheard_new (Drop dropped) key guest a b old new shares lost does view not_shared is_lost is none = unheard_same old new shares lost does.2 view not_shared is_lost
  unheard_new Leave key guest a b old new shares lost does view not_shared is_lost is none = unheard_same old new shares lost does.1 view not_shared is_lost

  is_kept : Option Round → Bool
  is_kept None = true
  is_kept (Some round) = round.1

  lost_not_kept : (slot : Option Round) (told other : List Told) → slot ≡ Some (told, false) → slot ≡ Some (other, true) → ⊥
  unfolding is_kept
  lost_not_kept slot told other lost kept = true≢false (ap is_kept (sym kept ∙ lost))

  left_out : (step : Step) (began : Served S) (shares : Bool) (now : Served S) → IsOut step began shares now → AsksInVain step began now
  left_out (Ask key) began shares now (inl is) = λ told kept. let within = slice_get_within (rounds_of now) (length (rounds_of began)) (told, true) kept in omega (arith, within, is.0)
  left_out (Ask key) began shares now (inr is) = λ told kept. lost_not_kept (slice_get (rounds_of now) (length (rounds_of began))) is.0 told is.1 kept
  left_out Keep began shares now is = tt
  left_out Begin began shares now is = tt
  left_out Settle began shares now is = tt
  left_out (Serve key) began shares now is = tt
  left_out (Drop key) began shares now is = tt
  left_out (Enter doors) began shares now is = tt
  left_out Leave began shares now is = tt

  loses_round : (began now after : Served S) → after ≡ now → IsUnheard began false now → ((shares_of began ≡ false) × IsTrue (is_lost_of began)) ⊎ (IsTrue (shares_of began) × IsLeftOut began after)
  loses_round began now after is (inl lost) = inl lost
  loses_round began now after is (inr out) = inr (out.0, subst (λ (served : Served S). IsLeftOut began served) (sym is) (left_out (Ask 0) began false now out.1))

  -- ---- a course

  module _ {guests : Slab Guest} {after : Served S} (course : Trail store guests before after) where
    -- everybody who was ever there, each at places of its own
    record View (t : ℕ) (shares lost : Bool) (served : Served S) : Type 0 where
      places : Visit → List ℕ
      shared : IsShared places (length (log_of shares served))
      there : (key : ℕ) → IsGoing shares lost (get (course.guests_at t) key) (places (There key)) served
      over : (n key : ℕ) → n < t → OverNow (left_at store course n key) (get (course.guests_at (suc n)) key) (places (Over n key)) (log_of shares served)
      ahead : (n key : ℕ) → n < t → WasNow (course.step_at n) (get (course.guests_at n) key) (left_at store course n key) (places (Before n key)) (log_of shares served)
      out : (n key : ℕ) → n < t → (place : ℕ) → Contains (places (Before n key)) place → IsOut (course.step_at n) (course.served_at n) shares served
      heard_or : (n key : ℕ) → n < t → (guest : Guest) → left_at store course n key ≡ Some guest → get (course.guests_at (suc n)) key ≡ None → HadTold (peer_of guest) (places (Over n key)) (log_of shares served) ⊎ ((asked_in guest ≢ []) × IsUnheard (course.served_at n) shares served)
      no_over : (n key : ℕ) → t ≤ n → places (Over n key) ≡ []
      no_ahead : (n key : ℕ) → t ≤ n → places (Before n key) ≡ []

    view_on : (t : ℕ) (shares lost now_shares now_lost : Bool) (v : View t shares lost (course.served_at t)) → Moved (course.step_at t) (course.guests_at t) (course.guests_at (suc t)) (λ key. left_at store course t key) now_shares now_lost (log_of shares (course.served_at t)) (course.served_at (suc t)) (λ key. v.places (There key))
        → RoundsOn shares now_shares (course.served_at t) (course.served_at (suc t)) → IsView now_shares now_lost (course.served_at (suc t)) → View (suc t) now_shares now_lost (course.served_at (suc t))
    view_on t shares lost now_shares now_lost v moved rounds view =
        let end : ℕ = length (log_of shares (course.served_at t)) in
        let now : List Told = log_of now_shares (course.served_at (suc t)) in
        let base : ℕ → List ℕ = λ key. (moved.fates key).base in
        let its : ℕ → List ℕ = λ key. (moved.fates key).its in
        let here : ℕ → List ℕ = λ key. (moved.fates key).here in
        let over : ℕ → List ℕ = λ key. (moved.fates key).over in
        let ahead : ℕ → List ℕ = λ key. (moved.fates key).ahead in
        let on : end ≤ length now = omega (arith, ap length moved.grown, length-append (log_of shares (course.served_at t)) moved.more) in
        let turned = turned_shared t end (length now) moved.turner v.places base its here over ahead (λ key. v.no_over t key (omega arith)) (λ key. v.no_ahead t key (omega arith)) (λ key. (moved.fates key).turned) v.shared in
        let grown = grown_shared t end (length now) moved.turner v.places base its here over ahead on (λ key. (moved.fates key).keeps) (λ key. (moved.fates key).comes) ((moved.fates moved.turner).news refl) turned in
        record {
          places = next_places t v.places here over ahead;
          shared = left_shared t end (length now) moved.turner v.places base its here over ahead (λ key. (moved.fates key).gone) grown;
          there = λ key. (moved.fates key).going;
          over = λ n key early. elim (cases_eq n t) [
            | inl same ↦ subst (λ (places : List ℕ). OverNow (left_at store course n key) (get (course.guests_at (suc n)) key) places now) (sym (at_it n t (over key) (v.places (Over n key)) same))
                (subst (λ (it : ℕ). OverNow (left_at store course it key) (get (course.guests_at (suc it)) key) (over key) now) (sym same) (moved.fates key).is_over)
            | inr differs ↦ subst (λ (places : List ℕ). OverNow (left_at store course n key) (get (course.guests_at (suc n)) key) places now) (sym (at_others n t (over key) (v.places (Over n key)) differs))
                (over_longer (left_at store course n key) (get (course.guests_at (suc n)) key) (v.places (Over n key)) (log_of shares (course.served_at t)) moved.more now moved.grown (v.over n key (omega (arith, early, differs))))
          ];
          ahead = λ n key early. elim (cases_eq n t) [
            | inl same ↦ subst (λ (places : List ℕ). WasNow (course.step_at n) (get (course.guests_at n) key) (left_at store course n key) places now) (sym (at_it n t (ahead key) (v.places (Before n key)) same))
                (subst (λ (it : ℕ). WasNow (course.step_at it) (get (course.guests_at it) key) (left_at store course it key) (ahead key) now) (sym same) (moved.fates key).is_ahead)
            | inr differs ↦ subst (λ (places : List ℕ). WasNow (course.step_at n) (get (course.guests_at n) key) (left_at store course n key) places now) (sym (at_others n t (ahead key) (v.places (Before n key)) differs))
                (was_now_longer (course.step_at n) (get (course.guests_at n) key) (left_at store course n key) (v.places (Before n key)) (log_of shares (course.served_at t)) moved.more now moved.grown (v.ahead n key (omega (arith, early, differs))))
          ];
          out = λ n key early place there. elim (cases_eq n t) [
            | inl same ↦ subst (λ (it : ℕ). IsOut (course.step_at it) (course.served_at it) now_shares (course.served_at (suc t))) (sym same)
                (out_new (course.step_at t) (course.guests_at t) (course.guests_at (suc t)) (course.served_at t) (course.served_at (suc t)) now_shares ((moved.fates key).out place (subst (λ (at : List ℕ). Contains at place) (at_it n t (ahead key) (v.places (Before n key)) same) there)) (course.does t))
            | inr differs ↦ out_on (course.step_at n) (course.served_at n) (course.served_at t) (course.served_at (suc t)) shares now_shares rounds (v.out n key (omega (arith, early, differs)) place (subst (λ (at : List ℕ). Contains at place) (at_others n t (ahead key) (v.places (Before n key)) differs) there))
          ];
          heard_or = λ n key early guest is none. elim (cases_eq n t) [
            | inl same ↦
                let is_now : left_at store course t key ≡ Some guest = subst (λ (it : ℕ). left_at store course it key ≡ Some guest) same is in
                let none_now : get (course.guests_at (suc t)) key ≡ None = subst (λ (it : ℕ). get (course.guests_at (suc it)) key ≡ None) same none in
                elim ((moved.fates key).heard_or guest is_now none_now) [
                  | inl told ↦ inl (subst (λ (places : List ℕ). HadTold (peer_of guest) places now) (sym (at_it n t (over key) (v.places (Over n key)) same)) told)
                  | inr waits ↦ inr (
                    waits.0,
                    subst (λ (it : ℕ). IsUnheard (course.served_at it) now_shares (course.served_at (suc t))) (sym same)
                        (unheard_new (course.step_at t) key guest (course.guests_at t) (course.guests_at (suc t)) (course.served_at t) (course.served_at (suc t)) now_shares now_lost (course.does t) view waits.1 waits.2 is_now none_now),
                  )
                ]
            | inr differs ↦ elim (v.heard_or n key (omega (arith, early, differs)) guest is none) [
              | inl told ↦ inl (subst (λ (places : List ℕ). HadTold (peer_of guest) places now) (sym (at_others n t (over key) (v.places (Over n key)) differs)) (had_longer (peer_of guest) (v.places (Over n key)) (log_of shares (course.served_at t)) moved.more now moved.grown told))
              | inr waits ↦ inr (waits.0, unheard_on (course.served_at n) (course.served_at t) (course.served_at (suc t)) shares now_shares rounds waits.1)
            ]
          ];
          no_over = λ n key late. at_others n t (over key) (v.places (Over n key)) (λ same. omega (arith, late, same)) ∙ v.no_over n key (omega (arith, late));
          no_ahead = λ n key late. at_others n t (ahead key) (v.places (Before n key)) (λ same. omega (arith, late, same)) ∙ v.no_ahead n key (omega (arith, late));
        }

    -- where nothing was asked yet
    fresh_log : (shares : Bool) (served : Served S) → served ≡ before → log_of shares served ≡ []
    fresh_log true served is = λ i. kept_in ((ap (λ (it : Served S). rounds_of it) is ∙ fresh.none_over) i) ++ (ap (λ (it : Served S). open_of it) is ∙ fresh.none_asked) i
    fresh_log false served is = ap kept_in (ap (λ (it : Served S). rounds_of it) is ∙ fresh.none_over)

    first_view : (shares lost : Bool) → View 0 shares lost (course.served_at 0)
    first_view shares lost = record {
      places = λ visit. [];
      shared = record {
        asker = λ place. There 0;
        its = λ visit place there. absurd (none_there place there);
        all = λ place low. absurd (omega (arith, low, ap length (fresh_log shares (course.served_at 0) course.begins)));
      };
      there = λ key. goes_as shares lost None (get (course.guests_at 0) key) [] (course.served_at 0) (course.empty key) refl;
      over = λ n key early. absurd (omega (arith, early));
      ahead = λ n key early. absurd (omega (arith, early));
      out = λ n key early. absurd (omega (arith, early));
      heard_or = λ n key early. absurd (omega (arith, early));
      no_over = λ n key late. refl;
      no_ahead = λ n key late. refl;
    }

    abbrev ViewsAt : ℕ → Type 0
    ViewsAt t = IsServed store before (course.served_at t) × ((shares lost : Bool) → IsView shares lost (course.served_at t) → View t shares lost (course.served_at t))

    all_views : ((n : ℕ) → n ≤ course.last → WasClean (course.served_at n)) → (t : ℕ) → t ≤ course.last → ViewsAt t
    all_views clean zero low = (
      subst (λ (served : Served S). IsServed store before served) (sym course.begins) (inl (record { alone = fresh.alone; none_left = fresh.none_asked; follows = record { more = []; over = sym (append-nil (rounds_of before)); settles = refl } })),
      λ shares lost view. first_view shares lost,
    )
    all_views clean (suc t) low =
        let was = all_views clean t (omega (arith, low)) in (
          step_served store (course.step_at t) (course.guests_at t) (course.guests_at (suc t)) before (course.served_at t) (course.served_at (suc t)) was.0 (course.does t),
          λ shares lost view.
              let at = step_view (course.step_at t) (course.guests_at t) (course.guests_at (suc t)) shares lost (course.served_at t) (course.served_at (suc t)) was.0 (clean (suc t) low) (course.does t) view in
              let v = was.1 at.was_shares at.was_lost at.view in
              view_on t at.was_shares at.was_lost shares lost v (at.moves (λ key. v.places (There key)) v.there) at.rounds view,
        )

  -- ---- what is asked in a turn of its own

  nothing_now : (shares : Bool) (stays : Type 0) (peer : Peer) (old new : Served S) → TellsNow store (store_of before) last shares stays peer peer old new
  nothing_now shares stays (Lines peer) old new = record {
    calls = [];
    came = [];
    went = [];
    waits = output_of (lines_of peer);
    input = append-nil (input_of (lines_of peer));
    output = append-nil (output_of (lines_of peer));
    received = sym (append-nil (received_of (lines_of peer)));
    sent = sym (append-nil (sent_of (lines_of peer)));
    all_waits = λ stay. refl;
    places = [];
    answered = refl;
  }
  nothing_now shares stays (Pages peer) old new = record { calls = []; more = sym (append-nil (calls_of peer)); places = []; answered = refl }
  nothing_now shares stays (Desk peer) old new = record { calls = []; more = sym (append-nil (calls_of peer)); places = []; answered = refl }
  nothing_now shares stays (Http peer) old new = tt
  nothing_now shares stays (Last peer) old new = tt

  last_tells : (shares : Bool) (stays : Type 0) (was left : Peer) (old new : Served S) → IsLast left → TellsNow store (store_of before) last shares stays was left old new
  last_tells shares stays (Lines was) (Last left) old new is = tt
  last_tells shares stays (Pages was) (Last left) old new is = tt
  last_tells shares stays (Desk was) (Last left) old new is = tt
  last_tells shares stays (Http was) (Last left) old new is = tt
  last_tells shares stays (Last was) (Last left) old new is = tt
  last_tells shares stays was (Lines left) old new is = absurd is
  last_tells shares stays was (Pages left) old new is = absurd is
  last_tells shares stays was (Desk left) old new is = absurd is
  last_tells shares stays was (Http left) old new is = absurd is

  moment_tells : (shares : Bool) (stays : Type 0) (was left : Peer) (old new : Served S) (moment : ℕ) (spare : Spare) → TellsNow store (store_of before) last shares stays was left (record old { moment = moment; spare = spare }) new → TellsNow store (store_of before) last shares stays was left old new
  moment_tells true stays (Lines was) (Lines left) old new moment spare is = is
  moment_tells true stays (Pages was) (Pages left) old new moment spare is = is
  moment_tells true stays (Desk was) (Desk left) old new moment spare is = is
  moment_tells false stays (Lines was) (Lines left) old new moment spare is = is
  moment_tells false stays (Pages was) (Pages left) old new moment spare is = is
  moment_tells false stays (Desk was) (Desk left) old new moment spare is = is
  moment_tells shares stays (Http was) left old new moment spare is = tt
  moment_tells shares stays (Last was) left old new moment spare is = tt
  moment_tells shares stays (Lines was) (Http left) old new moment spare is = tt
  moment_tells shares stays (Lines was) (Pages left) old new moment spare is = tt
  moment_tells shares stays (Lines was) (Desk left) old new moment spare is = tt
  moment_tells shares stays (Lines was) (Last left) old new moment spare is = tt
  moment_tells shares stays (Pages was) (Http left) old new moment spare is = tt
  moment_tells shares stays (Desk was) (Http left) old new moment spare is = tt
  moment_tells shares stays (Pages was) (Desk left) old new moment spare is = tt
  moment_tells shares stays (Desk was) (Pages left) old new moment spare is = tt
  moment_tells shares stays (Pages was) (Lines left) old new moment spare is = tt
  moment_tells shares stays (Desk was) (Lines left) old new moment spare is = tt
  moment_tells shares stays (Pages was) (Last left) old new moment spare is = tt
  moment_tells shares stays (Desk was) (Last left) old new moment spare is = tt

  -- what is kept with a peer is no matter of the journal
  asked_tells : (stays : Type 0) (was left : Peer) (old new : Served S) (asked now_asked : Option Entry) → TellsNow store (store_of before) last true stays was left (record old { asked = asked }) new → TellsNow store (store_of before) last true stays was left old (record new { asked = now_asked })
  asked_tells stays (Lines was) (Lines left) old new asked now_asked is = is
  asked_tells stays (Pages was) (Pages left) old new asked now_asked is = is
  asked_tells stays (Desk was) (Desk left) old new asked now_asked is = is
  asked_tells stays (Http was) left old new asked now_asked is = tt
  asked_tells stays (Last was) left old new asked now_asked is = tt
  asked_tells stays (Lines was) (Http left) old new asked now_asked is = tt
  asked_tells stays (Lines was) (Pages left) old new asked now_asked is = tt
  asked_tells stays (Lines was) (Desk left) old new asked now_asked is = tt
  asked_tells stays (Lines was) (Last left) old new asked now_asked is = tt
  asked_tells stays (Pages was) (Http left) old new asked now_asked is = tt
  asked_tells stays (Desk was) (Http left) old new asked now_asked is = tt
  asked_tells stays (Pages was) (Desk left) old new asked now_asked is = tt
  asked_tells stays (Desk was) (Pages left) old new asked now_asked is = tt
  asked_tells stays (Pages was) (Lines left) old new asked now_asked is = tt
  asked_tells stays (Desk was) (Lines left) old new asked now_asked is = tt
  asked_tells stays (Pages was) (Last left) old new asked now_asked is = tt
  asked_tells stays (Desk was) (Last left) old new asked now_asked is = tt

  refused_last : (begun : Peer) → IsRefusedForSpace begun → IsLast begun
  refused_last (Last begun) is = tt
  refused_last (Http begun) is = absurd is
  refused_last (Pages begun) is = absurd is
  refused_last (Desk begun) is = absurd is
  refused_last (Lines begun) is = absurd is

  again_same : (lost : Bool) (asked : List Entry) (was begun : Peer) (old mid : Served S) → AsksAgain store lost asked was begun old mid → ((begun ≡ was) × (mid ≡ old)) ⊎ IsLast begun
  again_same true (entry ∷ more) was (Last begun) old mid is = inr tt
  again_same true (entry ∷ more) was (Http begun) old mid is = absurd is
  again_same true (entry ∷ more) was (Pages begun) old mid is = absurd is
  again_same true (entry ∷ more) was (Desk begun) old mid is = absurd is
  again_same true (entry ∷ more) was (Lines begun) old mid is = absurd is
  again_same true [] was begun old mid (inl same, mid_is) = inl (same, mid_is)
  again_same true [] was begun old mid (inr refused, mid_is) = inr (refused_last begun refused.1)
  again_same false asked was begun old mid (inl same, mid_is) = inl (same, mid_is)
  again_same false asked was begun old mid (inr refused, mid_is) = inr (refused_last begun refused.1)

  turn_tells_now : (shares : Bool) (turn : Turn) (next : Next) (guest left : Guest) (old new : Served S) → IsServed store before old → WasClean new → shares_of old ≡ shares → Turns store shares turn next guest left old new → TellsNow store (store_of before) last shares (next ≢ Close) (peer_of guest) (peer_of left) old new
  turn_tells_now true turn next guest left old new served clean shared turns =
      let begun : Served S = record old { asked = guest.asked } in
      let there : IsServed store before begun = as_served store before old begun served (record { rounds = refl; left = refl; tables = refl; shares = refl }) in
      let left_clean : WasClean turns.left = λ honest. subst (λ (held : Held S). HasCleanDisk (state store held)) (ap (λ (it : Served S). store_of it) turns.same) (clean honest) in
      let told = turn_tells store before fresh last true in_round in_round next (peer_of guest) (peer_of left) begun turns.left there left_clean shared turns.takes in
      subst (λ (it : Served S). TellsNow store (store_of before) last true (next ≢ Close) (peer_of guest) (peer_of left) old it) (sym turns.same) (asked_tells (next ≢ Close) (peer_of guest) (peer_of left) old turns.left guest.asked None told)
  turn_tells_now false turn next guest left old new served clean alone turns =
      let again = again_continues store _ _ _ _ old turns.mid turns.again in
      let told = turn_tells store before fresh last false of_socket of_socket next turns.begun (peer_of left) turns.mid new (served_continues store before old turns.mid served again) clean (again.shares ∙ alone) turns.takes in
      elim (again_same (is_lost_of old) (asked_in guest) (peer_of guest) turns.begun old turns.mid turns.again) [
        | inl same ↦ subst (λ (it : Served S). TellsNow store (store_of before) last false (next ≢ Close) (peer_of guest) (peer_of left) it new) same.1 (subst (λ (it : Peer). TellsNow store (store_of before) last false (next ≢ Close) it (peer_of left) turns.mid new) same.0 told)
        | inr goes_last ↦ last_tells false (next ≢ Close) (peer_of guest) (peer_of left) old new (last_stays of_socket of_socket next turns.begun (peer_of left) turns.mid new turns.takes goes_last)
      ]

  -- where the one follows from the other
  stays_tells : (shares : Bool) (stays more : Type 0) (was left : Peer) (old new : Served S) → (more → stays) → TellsNow store (store_of before) last shares stays was left old new → TellsNow store (store_of before) last shares more was left old new
  stays_tells shares stays more (Lines was) (Lines left) old new on is = record {
    calls = is.calls;
    came = is.came;
    went = is.went;
    waits = is.waits;
    input = is.input;
    output = is.output;
    received = is.received;
    sent = is.sent;
    all_waits = λ stay. is.all_waits (on stay);
    places = is.places;
    answered = is.answered;
  }
  stays_tells shares stays more (Pages was) (Pages left) old new on is = is
  stays_tells shares stays more (Desk was) (Desk left) old new on is = is
  stays_tells shares stays more (Http was) left old new on is = tt
  stays_tells shares stays more (Last was) left old new on is = tt
  stays_tells shares stays more (Lines was) (Http left) old new on is = tt
  stays_tells shares stays more (Lines was) (Pages left) old new on is = tt
  stays_tells shares stays more (Lines was) (Desk left) old new on is = tt
  stays_tells shares stays more (Lines was) (Last left) old new on is = tt
  stays_tells shares stays more (Pages was) (Http left) old new on is = tt
  stays_tells shares stays more (Pages was) (Lines left) old new on is = tt
  stays_tells shares stays more (Pages was) (Last left) old new on is = tt
  stays_tells shares stays more (Pages was) (Desk left) old new on is = tt
  stays_tells shares stays more (Desk was) (Http left) old new on is = tt
  stays_tells shares stays more (Desk was) (Pages left) old new on is = tt
  stays_tells shares stays more (Desk was) (Lines left) old new on is = tt
  stays_tells shares stays more (Desk was) (Last left) old new on is = tt

  not_closed : (next : Next) (left : Guest) (now : Option Guest) → StaysAfter next (Some left) now → now ≢ None → next ≢ Close
  not_closed next left now (inl kept) there = kept.0
  not_closed next left now (inr gone) there = absurd (there gone.1)

  tells_then : (shares : Bool) (was now : Option Guest) (old new : Served S) → IsServed store before old → WasClean new → shares_of old ≡ shares → (serves : Serves store was now old new) → TellsThen store (store_of before) last shares was (left_by store was now old new serves) now old new
  tells_then shares None now old new served clean same (told, vacant) = tt
  tells_then shares (Some guest) now old new served clean same (None, gone) = nothing_now shares (now ≢ None) (peer_of guest) old new
  tells_then shares (Some guest) now old new served clean same (Some reading, (driven, at, by)) =
      let there = shares_begun guest now old new driven ∙ same in
      let turned : Turns store shares driven.turn driven.next guest driven.left driven.begun new = subst (λ b. Turns store b driven.turn driven.next guest driven.left driven.begun new) there driven.driven in
      let told = turn_tells_now shares driven.turn driven.next guest driven.left driven.begun new (served_begun guest now old new served driven) clean there turned in
      let at_moment = subst (λ (it : Served S). TellsNow store (store_of before) last shares (driven.next ≢ Close) (peer_of guest) (peer_of driven.left) it new) driven.moment.1 told in
      stays_tells shares (driven.next ≢ Close) (now ≢ None) (peer_of guest) (peer_of driven.left) old new (not_closed driven.next driven.left now driven.stays)
      (moment_tells shares (driven.next ≢ Close) (peer_of guest) (peer_of driven.left) old new driven.moment.0 (spare_of driven.begun) at_moment)

  tells_in_step : (step : Step) (a b : Slab Guest) (old new : Served S) → IsServed store before old → WasClean new → (does : Does store step a b old new) → TellsInStep store (store_of before) last step a b old new does
  tells_in_step (Serve turner) a b old new served clean does = tells_then false (get a turner) (get b turner) old new served clean does.0 does.1
  tells_in_step (Ask turner) a b old new served clean does = tells_then true (get a turner) (get b turner) old new served clean does.0 does.1
  tells_in_step Keep a b old new served clean does = tt
  tells_in_step Begin a b old new served clean does = tt
  tells_in_step Settle a b old new served clean does = tt
  tells_in_step (Drop dropped) a b old new served clean does = tt
  tells_in_step (Enter doors) a b old new served clean does = tt
  tells_in_step Leave a b old new served clean does = tt

  -- ---- who asked what

  goes_told : (asked : List Entry) (lost : Bool) (peer : Peer) (places : List ℕ) (served : Served S) (place : ℕ) → Goes asked false lost peer places served → Contains places place → HasAnswer peer places (journal_of served)
  goes_told [] lost peer places served place going there = going
  goes_told (entry ∷ more) true peer places served place going there = absurd (none_there place (subst (λ (at : List ℕ). Contains at place) going there))
  goes_told (entry ∷ more) false peer places served place going there = going

  there_told : (lost : Bool) (slot : Option Guest) (places : List ℕ) (served : Served S) (place : ℕ) → IsGoing false lost slot places served → Contains places place → (guest : Guest) × (slot ≡ Some guest) × HasAnswer (peer_of guest) places (journal_of served)
  there_told lost None places served place going there = absurd (none_there place (subst (λ (at : List ℕ). Contains at place) going there))
  there_told lost (Some guest) places served place going there = (guest, refl, goes_told (asked_in guest) lost (peer_of guest) places served place going there)

  -- what the journal has is one view of what goes on
  journal_view : (shares : Bool) (served : Served S) → shares_of served ≡ shares → (lost : Bool) × IsView false lost served
  journal_view true served is = (true, inr (is, refl, refl))
  journal_view false served is = (is_lost_of served, inl (sym is, refl))

  module _ {guests : Slab Guest} {after : Served S} (course : Trail store guests before after) where
    abbrev now_at : Served S
    now_at = course.served_at course.last

    -- whoever has a place is somebody who was there, and was answered
    abbrev IsSomebody : Visit → Guest → Type 0
    IsSomebody (There key) guest = get guests key ≡ Some guest
    IsSomebody (Over n key) guest = (n < course.last) × LetsGo store key guest (course.step_at n) (course.guests_at n) (course.guests_at (suc n)) (course.served_at n) (course.served_at (suc n)) (course.does n)
    IsSomebody (Before n key) guest = (n < course.last) × TurnsAnother store after key guest (course.step_at n) (course.guests_at n) (course.guests_at (suc n)) (course.served_at n) (course.served_at (suc n)) (course.does n)

    visit_told : (lost : Bool) (v : View course course.last false lost now_at) (visit : Visit) (place : ℕ) → Contains (v.places visit) place → (guest : Guest) × IsSomebody visit guest × HadAnswer store (store_of before) last visit (peer_of guest) (v.places visit) (journal_of now_at)
    visit_told lost v (There key) place there =
        let it = there_told lost (get (course.guests_at course.last) key) (v.places (There key)) now_at place (v.there key) there in
        (it.0, course.there key ∙ it.1, it.2)
    visit_told lost v (Over n key) place there =
        elim (cases_lt n course.last) [
          | inl early ↦ elim (v.over n key early).real [
            | inl none ↦ absurd (none_there place (subst (λ (at : List ℕ). Contains at place) none there))
            | inr it ↦ (it.0, (early, (it.1, it.2)), it.3)
          ]
          | inr late ↦ absurd (none_there place (subst (λ (at : List ℕ). Contains at place) (v.no_over n key late) there))
        ]
    visit_told lost v (Before n key) place there =
        elim (cases_lt n course.last) [
          | inl early ↦ elim (v.ahead n key early) [
            | inl none ↦ absurd (none_there place (subst (λ (at : List ℕ). Contains at place) none there))
            | inr it ↦ (it.0, (early, (it.1, it.2, subst (λ (served : Served S). AsksInVain (course.step_at n) (course.served_at n) served) (sym course.ends) (left_out (course.step_at n) (course.served_at n) false now_at (v.out n key early place there)))), it.3)
          ]
          | inr late ↦ absurd (none_there place (subst (λ (at : List ℕ). Contains at place) (v.no_ahead n key late) there))
        ]

    there_answered : (lost : Bool) (v : View course course.last false lost now_at) (key : ℕ) (guest : Guest) → get guests key ≡ Some guest → asked_in guest ≡ [] → HasAnswer (peer_of guest) (v.places (There key)) (journal_of now_at)
    there_answered lost v key guest there none =
        going_settled false lost guest (v.places (There key)) now_at none (subst (λ (slot : Option Guest). IsGoing false lost slot (v.places (There key)) now_at) (sym (course.there key) ∙ there) (v.there key))

  -- ---- the tables

  found_again : CrashesFindLastCommit store → (after : Served S) → IsServed store before after → IsFoundAgain store before after
  found_again lasts after (inl is) on_disk clean has shown name life lived found may =
      subst (λ (journal : List Told). IsFound name (life ++ told_to name journal) found) (sym (journal_is store before fresh after is.follows.more is.follows.over)) (finding.kept_is_found store lasts is.follows.more (store_of before) (store_of after) on_disk is.follows.settles clean has shown name life lived found may)
  found_again lasts after (inr is) on_disk clean has shown name life lived found may =
      subst (λ (journal : List Told). IsFound name (life ++ told_to name journal) found) (sym (journal_is store before fresh after is.more is.over)) (finding.round_is_not_found store lasts is.more (store_of before) is.was is.begun (store_of after) (store_of after) is.settles is.begins (open_of after) is.leads (inl refl) clean has name life lived found may)

module _ {S : Type 0} (store : Ghosts S) where
  -- ---- the steps by their numbers

  abbrev step_from : List Step → ℕ → Step
  step_from [] n = Leave
  step_from (step ∷ steps) zero = step
  step_from (step ∷ steps) (suc n) = step_from steps n

  abbrev guests_from : (steps : List Step) (old new : Slab Guest) (before after : Served S) → DoesAll store steps old new before after → ℕ → Slab Guest
  guests_from steps old new before after does zero = old
  guests_from [] old new before after does (suc n) = old
  guests_from (step ∷ steps) old new before after does (suc n) = guests_from steps does.0 new does.1 after does.3 n

  abbrev served_from : (steps : List Step) (old new : Slab Guest) (before after : Served S) → DoesAll store steps old new before after → ℕ → Served S
  served_from steps old new before after does zero = before
  served_from [] old new before after does (suc n) = before
  served_from (step ∷ steps) old new before after does (suc n) = served_from steps does.0 new does.1 after does.3 n

  does_from : (steps : List Step) (old new : Slab Guest) (before after : Served S) (does : DoesAll store steps old new before after) (n : ℕ)
      → Does store (step_from steps n) (guests_from steps old new before after does n) (guests_from steps old new before after does (suc n)) (served_from steps old new before after does n) (served_from steps old new before after does (suc n))
  does_from [] old new before after does zero = ((λ key. inl refl), refl)
  does_from [] old new before after does (suc n) = ((λ key. inl refl), refl)
  does_from (step ∷ steps) old new before after does zero = does.2
  does_from (step ∷ steps) old new before after does (suc n) = does_from steps does.0 new does.1 after does.3 n

  there_from : (steps : List Step) (old new : Slab Guest) (before after : Served S) (does : DoesAll store steps old new before after) → SameValues (guests_from steps old new before after does (length steps)) new
  there_from [] old new before after does = does.0
  there_from (step ∷ steps) old new before after does = there_from steps does.0 new does.1 after does.3

  ends_from : (steps : List Step) (old new : Slab Guest) (before after : Served S) (does : DoesAll store steps old new before after) → after ≡ served_from steps old new before after does (length steps)
  ends_from [] old new before after does = does.1
  ends_from (step ∷ steps) old new before after does = ends_from steps does.0 new does.1 after does.3

  -- what is said of the step of a number
  says_there : (says : OfSteps store) (n : ℕ) (steps : List Step) (old new : Slab Guest) (before after : Served S) (does : DoesAll store steps old new before after) → n < length steps
      → says (step_from steps n) (guests_from steps old new before after does n) (guests_from steps old new before after does (suc n)) (served_from steps old new before after does n) (served_from steps old new before after does (suc n)) (does_from steps old new before after does n) → OfStep store says n steps old new before after does
  unfolding does_from
  says_there says n [] old new before after does early is = omega (arith, early)
  says_there says zero (step ∷ steps) old new before after does early is = is
  says_there says (suc n) (step ∷ steps) old new before after does early is = says_there says n steps does.0 new does.1 after does.3 (omega (arith, early)) is

  said_there : (says : OfSteps store) (n : ℕ) (steps : List Step) (old new : Slab Guest) (before after : Served S) (does : DoesAll store steps old new before after) → OfStep store says n steps old new before after does
      → (n < length steps) × says (step_from steps n) (guests_from steps old new before after does n) (guests_from steps old new before after does (suc n)) (served_from steps old new before after does n) (served_from steps old new before after does (suc n)) (does_from steps old new before after does n)
  unfolding does_from
  said_there says n [] old new before after does is = absurd is
  said_there says zero (step ∷ steps) old new before after does is = (omega arith, is)
  said_there says (suc n) (step ∷ steps) old new before after does is = let there = said_there says n steps does.0 new does.1 after does.3 is in let early : n < length steps = there.0 in (omega (arith, early), there.1)

  says_too : (says more : OfSteps store) → ((step : Step) (old new : Slab Guest) (before after : Served S) (does : Does store step old new before after) → says step old new before after does → more step old new before after does)
      → (n : ℕ) (steps : List Step) (old new : Slab Guest) (before after : Served S) (does : DoesAll store steps old new before after) → OfStep store says n steps old new before after does → OfStep store more n steps old new before after does
  says_too says more too n [] old new before after does is = absurd is
  says_too says more too zero (step ∷ steps) old new before after does is = too step old does.0 before does.1 does.2 is
  says_too says more too (suc n) (step ∷ steps) old new before after does is = says_too says more too n steps does.0 new does.1 after does.3 is

  -- ---- why one was let go

  is_none_and_some : (slot : Option Guest) (guest : Guest) → slot ≡ None → slot ≡ Some guest → ⊥
  is_none_and_some slot guest none some = let no : None ≡ Some guest = sym none ∙ some in cc

  ends_turn : (was now : Option Guest) (guest : Guest) (old new : Served S) (serves : Serves store was now old new) → left_by store was now old new serves ≡ Some guest → now ≡ None → EndsTurn store was now old new serves
  ends_turn None now guest old new (told, vacant) is none = is_none_and_some None guest refl is
  ends_turn (Some was) now guest old new (Some told, (driven, at, by)) is none =
      elim driven.stays [
        | inl kept ↦ absurd (is_none_and_some now driven.left none kept.1)
        | inr gone ↦ gone.0
      ]
  ends_turn (Some was) now guest old new (None, gone) is none = tt

  ends_own : (turner key : ℕ) (guest : Guest) (a b : Slab Guest) (old new : Served S) (serves : Serves store (get a turner) (get b turner) old new) → AreOthersKept turner a b → left_of_turn store turner key a b old new serves ≡ Some guest → get b key ≡ None → (turner ≡ key) × EndsTurn store (get a turner) (get b turner) old new serves
  ends_own turner key guest a b old new serves others is none =
      elim (cases_eq key turner) [
        | inl same ↦
            let own : left_by store (get a turner) (get b turner) old new serves ≡ Some guest = sym (ap (λ (b2 : Bool). if b2 then left_by store (get a turner) (get b turner) old new serves else get a key) (eq-eqb key turner same)) ∙ is in
            (sym same, ends_turn (get a turner) (get b turner) guest old new serves own (ap (get b) (sym same) ∙ none))
        | inr differs ↦
            let was : get a key ≡ Some guest = sym (ap (λ (b2 : Bool). if b2 then left_by store (get a turner) (get b turner) old new serves else get a key) (ne_eqb key turner differs)) ∙ is in
            absurd (is_none_and_some (get b key) guest none (others key differs ∙ was))
      ]

  may_end : (key : ℕ) (guest : Guest) (step : Step) (a b : Slab Guest) (old new : Served S) (does : Does store step a b old new) → LetsGo store key guest step a b old new does → MayEnd store key step a b old new does
  may_end key guest Keep a b old new does is = is_none_and_some (get b key) guest is.1 (does.0 key ∙ is.0)
  may_end key guest Begin a b old new does is = is_none_and_some (get b key) guest is.1 (does.0 key ∙ is.0)
  may_end key guest (Ask turner) a b old new does is = ends_own turner key guest a b old new does.1 does.2 is.0 is.1
  may_end key guest Settle a b old new does is = is_none_and_some (get b key) guest is.1 (does.0 key ∙ is.0)
  may_end key guest (Serve turner) a b old new does is = ends_own turner key guest a b old new does.1 does.2 is.0 is.1
  may_end key guest (Drop dropped) a b old new does is =
      elim (cases_eq key dropped) [
        | inl same ↦ sym same
        | inr differs ↦ absurd (is_none_and_some (get b key) guest is.1 (does.1 key differs ∙ is.0))
      ]
  may_end key guest (Enter doors) a b old new does is =
      elim (does.0 key) [
        | inl same ↦ is_none_and_some (get b key) guest is.1 (same ∙ is.0)
        | inr came ↦ is_none_and_some (get a key) guest came.0 is.0
      ]
  may_end key guest Leave a b old new does is = tt

  abbrev trail_of : {guests : Slab Guest} {before after : Served S} → Course store guests before after → Trail store guests before after
  trail_of {guests} {before} {after} course = record {
    step_at = step_from course.steps;
    guests_at = guests_from course.steps course.first guests before after course.does;
    served_at = served_from course.steps course.first guests before after course.does;
    does = does_from course.steps course.first guests before after course.does;
    empty = course.empty;
    begins = refl;
    last = length course.steps;
    there = there_from course.steps course.first guests before after course.does;
    ends = ends_from course.steps course.first guests before after course.does;
  }

  -- the disk was honest before each step, if it is in the end
  cleans : {guests : Slab Guest} {before after : Served S} (course : Trail store guests before after) (more n : ℕ) → n + more ≡ course.last → IsClean store after → IsClean store (course.served_at n)
  cleans {after = after} course zero n is clean =
      let same : n ≡ course.last = omega (arith, is) in
      subst (λ (it : ℕ). IsClean store (course.served_at it)) (sym same) (subst (λ (served : Served S). IsClean store served) course.ends clean)
  cleans course (suc more) n is clean = step_clean store (course.step_at n) (course.guests_at n) (course.guests_at (suc n)) (course.served_at n) (course.served_at (suc n)) (course.does n) (cleans course more (suc n) (omega (arith, is)) clean)

  somebody : {guests : Slab Guest} {before after : Served S} (goes : Course store guests before after) (fresh : IsFresh before) (last : Held S) (visit : Visit) (guest : Guest) → IsSomebody store before fresh last (trail_of goes) visit guest → IsVisit store goes visit guest
  somebody goes fresh last (There key) guest is = is
  somebody {guests} {before} {after} goes fresh last (Over n key) guest is = says_there (LetsGo store key guest) n goes.steps goes.first guests before after goes.does is.0 is.1
  somebody {guests} {before} {after} goes fresh last (Before n key) guest is = says_there (TurnsAnother store after key guest) n goes.steps goes.first guests before after goes.does is.0 is.1

  pub from_end_to_end : CrashesFindLastCommit store → FromEndToEnd store
  from_end_to_end lasts doors guests before after goes enter fresh =
      let last : Held S = store_of after in
      let served = served_by store goes.steps goes.first guests before after goes.does fresh.alone fresh.none_asked in
      let course : Trail store guests before after = trail_of goes in
      let now : Served S = course.served_at course.last in
      let is : after ≡ now = course.ends in
      let clean : (n : ℕ) → n ≤ course.last → HasCleanDisk (state store last) → IsClean store (course.served_at n) = λ n low honest. cleans course (course.last - n) n (omega (arith, low)) honest in
      let views = all_views store before fresh last course clean course.last (omega arith) in
      let view = journal_view store before fresh last (shares_of now) now refl in
      let v = views.1 false view.0 view.1 in (
        record {
          course = goes;
          enter = enter;
          by_doors = visits_by store doors goes enter;
          asker = v.shared.asker;
          places = v.places;
          all_asked = λ place low. v.shared.all place (subst (λ (it : Served S). place < length (journal_of it)) is low);
          apart = λ visit place there. let it = v.shared.its visit place there in (subst (λ (it : Served S). place < length (journal_of it)) (sym is) it.0, it.1);
          told = λ place low.
              let visit : Visit = v.shared.asker place in
              let it = visit_told store before fresh last course view.0 v visit place (v.shared.all place (subst (λ (it : Served S). place < length (journal_of it)) is low)) in
              (it.0, somebody goes fresh last visit it.0 it.1, subst (λ (served : Served S). HadAnswer store (store_of before) last visit (peer_of it.0) (v.places visit) (journal_of served)) (sym is) it.2);
          answered = λ key guest there none. subst (λ (served : Served S). IsAnswered store (store_of before) last (peer_of guest) (v.places (There key)) (journal_of served)) (sym is) (there_answered store before fresh last course view.0 v key guest there none);
          let_go = λ n key guest gone.
              let it = said_there (LetsGo store key guest) n goes.steps goes.first guests before after goes.does gone in
              elim (v.heard_or n key it.0 guest it.1.0 it.1.1) [
                | inl told ↦ inl (subst (λ (served : Served S). WasAnswered store (store_of before) last (peer_of guest) (v.places (Over n key)) (journal_of served)) (sym is) told)
                | inr waits ↦ inr (waits.0, says_there (LosesRound store after) n goes.steps goes.first guests before after goes.does it.0 (loses_round store before fresh last (course.served_at n) now after is waits.1))
              ];
          in_turns = λ n early. says_there (TellsInStep store (store_of before) last) n goes.steps goes.first guests before after goes.does early
              (tells_in_step store before fresh last (course.step_at n) (course.guests_at n) (course.guests_at (suc n)) (course.served_at n) (course.served_at (suc n)) (all_views store before fresh last course clean n (omega (arith, early))).0 (clean (suc n) (omega (arith, early))) (course.does n));
          ended = λ n key guest gone. says_too (LetsGo store key guest) (MayEnd store key) (may_end key guest) n goes.steps goes.first guests before after goes.does gone;
          runs = runs_so store before fresh after served;
          lives = lives_on store before fresh after served;
          found = found_again store before fresh last lasts after served;
          page_rules = same_rules store goes.steps goes.first guests before after goes.does;
        },
        refl,
      )
