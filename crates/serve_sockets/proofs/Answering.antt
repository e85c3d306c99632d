-- What is told in a peer's turn stands in the journal.
use Rattle.std.proofs.Common.{◌≡◌, ◌≢◌, ◌≤◌, ◌<◌, ◌&&◌, ℕ, Bool, IsTrue, suc, true, false, length, slice_get, take, Some, arith, length-append, List, [], ◌∷◌, ◌++◌, Result, Ok, Err, refl, sym, ap, subst, ◌∙◌, append_assoc, append-nil, inl, inr}
use Rattle.std.specs.List.{Contains}
use Rattle.std.specs.Result.{IsOkAnd}
use Rattle.std.proofs.Math.Seq.{get_or-append_seam, take-length}
use Rattle.std.proofs.lemmas.Bool.{true≢false}
use Rattle.std.proofs.lemmas.Grind.{flat_map-append}
use Rattle.std.proofs.lemmas.List.{get_or_append_left, take-append-le}
use Rattle.std.proofs.lemmas.Option.{get_or_from_slice_get, slice_get-get_or, slice_get_within}
use Rattle.slab.proofs.SlabLemmas.{Contains-cons_cases}
use Rattle.sqlite.specs.Held.{Held, state}
use Rattle.sqlite.specs.State.{HasCleanDisk}
use Rattle.http_server.proofs.Theorems.{always_served}
use Rattle.http_server.specs.Exchange.{Call, Chain}
use Rattle.sqlite_trees.specs.declared.store.Store.{Ghosts}
use Rattle.http.specs.Request.{body_of}
use Rattle.input_http.specs.declared.refusal.Refusal.{Refusal}
use Rattle.serve_peers.specs.ProofServices.{one_more, stays}
use Rattle.serve_peers.proofs.LineCalls.{lines_then as are_lines_then, none_later}
use Rattle.serve_peers.proofs.LineEnds.{only_ping}
use Rattle.serve_peers.proofs.GatheringKept.{gathered_only}
use Rattle.serve_peers.proofs.Journaling.{applied_then, background_only, line_chain, looked, then}
use Rattle.serve_peers.specs.Answers.{Answers, Gives}
use Rattle.serve_peers.specs.HttpPeers as http
use Rattle.serve_peers.specs.HttpPeers.{calls_of, connection_of}
use Rattle.serve_peers.specs.Journals.{Notes, Told, applied, journal_of, kept_in, log_lags_of, moment_of, needs_password_of, open_of, shares_of, store_of}
use Rattle.serve_peers.specs.Turns.{Continues}
use Rattle.serve_peers.specs.LastPeers.{SaysLast, left_of}
use Rattle.serve_peers.specs.LinePeers as lines
use Rattle.serve_peers.specs.LinePeers.{IsOver, LineCall, TakesLines, bytes_told, lines_of, taken}
use Rattle.serve_peers.specs.LineTexts.{has_to_warn}
use Rattle.serve_peers.specs.Keeping.{backup_of}
use Rattle.serve_peers.specs.Lines.{Asks, BacksUp, Inquires, IsRefused, IsTold, input_of, output_of, received_of, sent_of, side_of}
use Rattle.serve_peers.specs.Requests.{asked}
use Rattle.serve_peers.specs.Streams.{Ends}
use Rattle.serve_peers.specs.declared.entry.Entry.TheVariants as entry
use Rattle.serve_peers.specs.declared.http_peer.HttpPeer.{HttpPeer}
use Rattle.serve_peers.specs.declared.last_peer.LastPeer.{LastPeer}
use Rattle.serve_peers.specs.declared.line_connection.LineConnection.{LineConnection}
use Rattle.serve_peers.specs.declared.line_connection.Side.{Side}
use Rattle.serve_peers.specs.declared.line_peer.LinePeer.{LinePeer}
use Rattle.serve_peers.specs.Space.{lacks_space, needs_space, with_space}
use Rattle.serve_peers.specs.declared.served.Served.{Served}
use Rattle.serve_peers.specs.declared.step.Next.{Next}
use Rattle.serve_peers.specs.declared.step.Next.TheVariants.{Close}
use Rattle.serve_desk.specs.Answers as desk
use Rattle.serve_desk.specs.Operators.{operator_of}
use Rattle.serve_desk.specs.ProofDesk.{Comes as DeskComes, IsApplied as IsAskedThere, IsLeft as IsLeftThere, IsLookedAt as IsLookedAtThere, comes as comes_there}
use Rattle.serve_desk.specs.Questions.{question_of as question_there}
use Rattle.serve_desk.specs.Requests.{asked as asks_there}
use Rattle.serve_web.specs.Answers as web
use Rattle.serve_web.specs.ProofPages.{Comes, IsApplied, IsLeft, IsLookedAt, comes}
use Rattle.serve_web.specs.Questions.{question_of}
use Rattle.serve_web.specs.Requests.{asked as asks_of}
use Rattle.serve_sockets.proofs.Drives.{IsClean, IsServed, continues_clean, desk_chain, pages_chain, served_continues}
use Rattle.serve_sockets.proofs.Inquiring.{answered_so, grown_alone}
use Rattle.serve_sockets.specs.Places.{StandAt}
use Rattle.serve_sockets.specs.Requests.{AnswersCall, AnswersCalls}
use Rattle.serve_sockets.specs.Questions.{AnswersBy}
use Rattle.serve_sockets.specs.Lines.{AnswersLineCalls, AnswersLinesNow, TellsLinesNow, HasAnsweredLines, TellsAnswer}
use Rattle.serve_sockets.specs.Desk.{AnswersDeskCalls, AnswersDeskNow, TellsDeskNow, TellsLine, TellsPage as TellsPageThere}
use Rattle.serve_sockets.specs.Pages.{AnswersPageCalls, AnswersPagesNow, TellsPagesNow, TellsAct, TellsPage}
use Rattle.serve_sockets.specs.EndToEnd.{IsAnswered, IsFresh, TellsNow, WasAnswered, log_of}
use Rattle.serve_sockets.specs.Guests.{TakesTurn}
use Rattle.serve_sockets.specs.declared.guest.Peer.{Peer}
use Rattle.serve_sockets.specs.declared.guest.Peer.TheVariants.{Desk, Http, Last, Lines, Pages}

-- where it is this value, it has what that has
ok_and : (T E : Type 0) (P : T → Type 0) (r : Result T E) (value : T) → r ≡ Ok value → P value → IsOkAnd r P
ok_and T E P r value is it = subst (λ (one : Result T E). IsOkAnd one P) (sym is) it

-- ---- in a longer list

-- the places of these behind so many others
abbrev pub places_from : (n : ℕ) → List Told → List ℕ
places_from n [] = []
places_from n (told ∷ more) = n ∷ places_from (suc n) more

at_longer : (all more : List Told) (place : ℕ) (told : Told) → slice_get all place ≡ Some told → slice_get (all ++ more) place ≡ Some told
at_longer all more place told is =
    let within = slice_get_within all place told is in
    slice_get-get_or (all ++ more) place told (omega (arith, within, length-append all more)) ∙ ap (λ (x : Told). Some x) (get_or_append_left all more told place within ∙ get_or_from_slice_get all place told told is)

at_seam : (front more : List Told) (told : Told) → slice_get (front ++ told ∷ more) (length front) ≡ Some told
at_seam front more told =
    slice_get-get_or (front ++ told ∷ more) (length front) told (omega (arith, length-append front (told ∷ more))) ∙ ap (λ (x : Told). Some x) (get_or-append_seam front told more told)

stand_longer : (least : ℕ) (places : List ℕ) (some all more : List Told) → StandAt least places some all → StandAt least places some (all ++ more)
stand_longer least [] [] all more is = tt
stand_longer least (place ∷ places) (told ∷ some) all more is = (is.0, at_longer all more place told is.1, stand_longer (suc place) places some all more is.2)
stand_longer least [] (told ∷ some) all more is = absurd is
stand_longer least (place ∷ places) [] all more is = absurd is

-- what was before an end stays there
take_within : (all more : List Told) (n : ℕ) → n ≤ length all → take n (all ++ more) ≡ take n all
take_within all more n within = take-append-le n all more within

places_then : (journal first more : List Told) → places_from (length journal) first ++ places_from (length (journal ++ first)) more ≡ places_from (length journal) (first ++ more)
places_then journal [] more = ap (λ (log : List Told). places_from (length log) more) (append-nil journal)
places_then journal (told ∷ first) more =
    let long : length (journal ++ told ∷ []) ≡ suc (length journal) = omega (arith, length-append journal (told ∷ [])) in
    let on : places_from (suc (length journal)) first ++ places_from (length ((journal ++ told ∷ []) ++ first)) more ≡ places_from (suc (length journal)) (first ++ more) = subst (λ (n : ℕ). places_from n first ++ places_from (length ((journal ++ told ∷ []) ++ first)) more ≡ places_from n (first ++ more)) long (places_then (journal ++ told ∷ []) first more) in
    ap (λ (l : List ℕ). length journal ∷ l) (subst (λ (log : List Told). places_from (suc (length journal)) first ++ places_from (length log) more ≡ places_from (suc (length journal)) (first ++ more)) (append_assoc journal (told ∷ []) first) on)

pub stand_behind : (least : ℕ) (front more : List Told) → least ≤ length front → StandAt least (places_from (length front) more) more (front ++ more)
stand_behind least front [] low = tt
stand_behind least front (told ∷ more) low =
    let longer : List Told = front ++ told ∷ [] in
    let long : length longer ≡ suc (length front) = omega (arith, length-append front (told ∷ [])) in
    let rest : StandAt (length longer) (places_from (length longer) more) more (longer ++ more) = stand_behind (length longer) longer more (omega arith) in
    (low, at_seam front more told, subst (λ (all : List Told). StandAt (suc (length front)) (places_from (suc (length front)) more) more all) (append_assoc front (told ∷ []) more) (subst (λ (n : ℕ). StandAt n (places_from n more) more (longer ++ more)) long rest))

stand_then : (least : ℕ) (places : List ℕ) (some all more : List Told) → least ≤ length all → StandAt least places some all → StandAt least (places ++ places_from (length all) more) (some ++ more) (all ++ more)
stand_then least [] [] all more low is = stand_behind least all more low
stand_then least (place ∷ places) (told ∷ some) all more low is = (is.0, at_longer all more place told is.1, stand_then (suc place) places some all more (let within = slice_get_within all place told is.1 in omega (arith, within)) is.2)
stand_then least [] (told ∷ some) all more low is = absurd is
stand_then least (place ∷ places) [] all more low is = absurd is

-- ---- which places these are

pub none_there : (place : ℕ) → Contains [] place → ⊥
none_there place is = let never : is.0 < 0 = is.1 in omega (arith, never)

stand_within : (least : ℕ) (places : List ℕ) (some all : List Told) → StandAt least places some all → (place : ℕ) → Contains places place → place < length all
stand_within least [] [] all is place there = absurd (none_there place there)
stand_within least (first ∷ places) (told ∷ some) all is place there =
    elim (Contains-cons_cases first place places there) [
      | inl same ↦ subst (λ (n : ℕ). n < length all) same (slice_get_within all first told is.1)
      | inr later ↦ stand_within (suc first) places some all is.2 place later
    ]
stand_within least [] (told ∷ some) all is place there = absurd is
stand_within least (first ∷ places) [] all is place there = absurd is

pub places_behind : (n : ℕ) (more : List Told) (place : ℕ) → Contains (places_from n more) place → n ≤ place
places_behind n [] place there = absurd (none_there place there)
places_behind n (told ∷ more) place there =
    elim (Contains-cons_cases n place (places_from (suc n) more) there) [
      | inl same ↦ omega (arith, same)
      | inr later ↦ let behind = places_behind (suc n) more place later in omega (arith, behind)
    ]

-- ---- one answer after another

and_left : (a b : Bool) → IsTrue (a && b) → IsTrue a
and_left true b is = refl
and_left false b is = is

call_then : (wants : Result (List ℕ) Refusal) (call : Call) (mine rest its : List Told) → AnswersCall wants call mine rest → AnswersCall wants call (mine ++ its) (rest ++ its)
call_then (Err why) call mine rest its is = (is.0, ap (λ (l : List Told). l ++ its) is.1)
call_then (Ok account) call mine rest its (inl is) = inl (is.0, is.1, ap (λ (l : List Told). l ++ its) is.2)
call_then (Ok account) call mine rest its (inr is) = inr (is.0, is.1, ap (λ (l : List Told). l ++ its) is.2)

calls_then : (first more : List Call) (mine its : List Told) → AnswersCalls first mine → AnswersCalls more its → AnswersCalls (first ++ more) (mine ++ its)
calls_then [] more mine its none is = subst (λ (l : List Told). AnswersCalls more (l ++ its)) (sym none) is
calls_then (call ∷ first) more mine its answers is = (answers.0 ++ its, call_then (asked call.0) call mine answers.0 its answers.1, calls_then first more answers.0 its answers.2 is)

module _ {S : Type 0} (store : Ghosts S) (first last : Held S) where
  lines_longer : (side : Side) (calls : List LineCall) (least : ℕ) (places : List ℕ) (journal more : List Told) → AnswersLineCalls store first last side calls least places journal → AnswersLineCalls store first last side calls least places (journal ++ more)
  lines_longer side [] least places journal more is = is
  lines_longer side (call ∷ calls) least places journal more (inl (told, tells, place, rest, are, low, stands, later)) = inl (told, tells, place, rest, are, low, at_longer journal more place told stands, lines_longer side calls (suc place) rest journal more later)
  lines_longer side (call ∷ calls) least places journal more (inr (inl (n, low, within, tells, later))) = inr (inl (n, low, (omega (arith, within, length-append journal more)), subst (λ (so_far : List Told). TellsAnswer store first last side call so_far) (sym (take_within journal more n within)) tells, lines_longer side calls n places journal more later))
  lines_longer side (call ∷ calls) least places journal more (inr (inr (bad, later))) = inr (inr (bad, lines_longer side calls least places journal more later))

  lines_lower : (side : Side) (calls : List LineCall) (least lower : ℕ) (places : List ℕ) (journal : List Told) → lower ≤ least → AnswersLineCalls store first last side calls least places journal → AnswersLineCalls store first last side calls lower places journal
  lines_lower side [] least lower places journal low is = is
  lines_lower side (call ∷ calls) least lower places journal low (inl (told, tells, place, rest, are, high, stands, later)) = inl (told, tells, place, rest, are, omega (arith, low, high), stands, later)
  lines_lower side (call ∷ calls) least lower places journal low (inr (inl (n, high, within, tells, later))) = inr (inl (n, omega (arith, low, high), within, tells, later))
  lines_lower side (call ∷ calls) least lower places journal low (inr (inr (bad, later))) = inr (inr (bad, lines_lower side calls least lower places journal low later))

  lines_then : (side : Side) (these more : List LineCall) (least : ℕ) (places its : List ℕ) (journal told : List Told) → least ≤ length journal → AnswersLineCalls store first last side these least places journal → AnswersLineCalls store first last side more (length journal) its (journal ++ told)
      → AnswersLineCalls store first last side (these ++ more) least (places ++ its) (journal ++ told)
  lines_then side [] more least places its journal told low none is = subst (λ (at : List ℕ). AnswersLineCalls store first last side more least (at ++ its) (journal ++ told)) (sym none) (lines_lower side more (length journal) least its (journal ++ told) low is)
  lines_then side (call ∷ these) more least places its journal told low (inl (one, tells, place, rest, are, high, stands, later)) is =
      let within = slice_get_within journal place one stands in
      inl (one, tells, place, rest ++ its, ap (λ (at : List ℕ). at ++ its) are, high, at_longer journal told place one stands, lines_then side these more (suc place) rest its journal told (omega (arith, within)) later is)
  lines_then side (call ∷ these) more least places its journal told low (inr (inl (n, high, within, tells, later))) is =
      inr (inl (n, high, (omega (arith, within, length-append journal told)), subst (λ (so_far : List Told). TellsAnswer store first last side call so_far) (sym (take_within journal told n within)) tells, lines_then side these more n places its journal told within later is))
  lines_then side (call ∷ these) more least places its journal told low (inr (inr (bad, later))) is = inr (inr (bad, lines_then side these more least places its journal told low later is))

  lines_within : (side : Side) (calls : List LineCall) (least : ℕ) (places : List ℕ) (journal : List Told) → AnswersLineCalls store first last side calls least places journal → (place : ℕ) → Contains places place → place < length journal
  lines_within side [] least places journal none place there = absurd (none_there place (subst (λ (at : List ℕ). Contains at place) none there))
  lines_within side (call ∷ calls) least places journal (inl (told, tells, at, rest, are, low, stands, later)) place there =
      elim (Contains-cons_cases at place rest (subst (λ (all : List ℕ). Contains all place) are there)) [
        | inl same ↦ subst (λ (n : ℕ). n < length journal) same (slice_get_within journal at told stands)
        | inr behind ↦ lines_within side calls (suc at) rest journal later place behind
      ]
  lines_within side (call ∷ calls) least places journal (inr (inl (n, low, within, tells, later))) place there = lines_within side calls n places journal later place there
  lines_within side (call ∷ calls) least places journal (inr (inr (bad, later))) place there = lines_within side calls least places journal later place there

  pages_longer : (calls : List Call) (least : ℕ) (places : List ℕ) (journal more : List Told) → AnswersPageCalls store first last calls least places journal → AnswersPageCalls store first last calls least places (journal ++ more)
  pages_longer [] least places journal more is = is
  pages_longer (call ∷ calls) least places journal more (inl (told, tells, place, rest, are, low, stands, later)) = inl (told, tells, place, rest, are, low, at_longer journal more place told stands, pages_longer calls (suc place) rest journal more later)
  pages_longer (call ∷ calls) least places journal more (inr (inl (n, low, within, tells, later))) = inr (inl (n, low, (omega (arith, within, length-append journal more)), subst (λ (so_far : List Told). TellsPage store first last call so_far) (sym (take_within journal more n within)) tells, pages_longer calls n places journal more later))
  pages_longer (call ∷ calls) least places journal more (inr (inr (still, later))) = inr (inr (still, pages_longer calls least places journal more later))

  pages_lower : (calls : List Call) (least lower : ℕ) (places : List ℕ) (journal : List Told) → lower ≤ least → AnswersPageCalls store first last calls least places journal → AnswersPageCalls store first last calls lower places journal
  pages_lower [] least lower places journal low is = is
  pages_lower (call ∷ calls) least lower places journal low (inl (told, tells, place, rest, are, high, stands, later)) = inl (told, tells, place, rest, are, omega (arith, low, high), stands, later)
  pages_lower (call ∷ calls) least lower places journal low (inr (inl (n, high, within, tells, later))) = inr (inl (n, omega (arith, low, high), within, tells, later))
  pages_lower (call ∷ calls) least lower places journal low (inr (inr (still, later))) = inr (inr (still, pages_lower calls least lower places journal low later))

  pages_then : (these more : List Call) (least : ℕ) (places its : List ℕ) (journal told : List Told) → least ≤ length journal → AnswersPageCalls store first last these least places journal → AnswersPageCalls store first last more (length journal) its (journal ++ told)
      → AnswersPageCalls store first last (these ++ more) least (places ++ its) (journal ++ told)
  pages_then [] more least places its journal told low none is = subst (λ (at : List ℕ). AnswersPageCalls store first last more least (at ++ its) (journal ++ told)) (sym none) (pages_lower more (length journal) least its (journal ++ told) low is)
  pages_then (call ∷ these) more least places its journal told low (inl (one, tells, place, rest, are, high, stands, later)) is =
      let within = slice_get_within journal place one stands in
      inl (one, tells, place, rest ++ its, ap (λ (at : List ℕ). at ++ its) are, high, at_longer journal told place one stands, pages_then these more (suc place) rest its journal told (omega (arith, within)) later is)
  pages_then (call ∷ these) more least places its journal told low (inr (inl (n, high, within, tells, later))) is =
      inr (inl (n, high, (omega (arith, within, length-append journal told)), subst (λ (so_far : List Told). TellsPage store first last call so_far) (sym (take_within journal told n within)) tells, pages_then these more n places its journal told within later is))
  pages_then (call ∷ these) more least places its journal told low (inr (inr (still, later))) is = inr (inr (still, pages_then these more least places its journal told low later is))

  pages_within : (calls : List Call) (least : ℕ) (places : List ℕ) (journal : List Told) → AnswersPageCalls store first last calls least places journal → (place : ℕ) → Contains places place → place < length journal
  pages_within [] least places journal none place there = absurd (none_there place (subst (λ (at : List ℕ). Contains at place) none there))
  pages_within (call ∷ calls) least places journal (inl (told, tells, at, rest, are, low, stands, later)) place there =
      elim (Contains-cons_cases at place rest (subst (λ (all : List ℕ). Contains all place) are there)) [
        | inl same ↦ subst (λ (n : ℕ). n < length journal) same (slice_get_within journal at told stands)
        | inr behind ↦ pages_within calls (suc at) rest journal later place behind
      ]
  pages_within (call ∷ calls) least places journal (inr (inl (n, low, within, tells, later))) place there = pages_within calls n places journal later place there
  pages_within (call ∷ calls) least places journal (inr (inr (still, later))) place there = pages_within calls least places journal later place there

  desk_longer : (calls : List Call) (least : ℕ) (places : List ℕ) (journal more : List Told) → AnswersDeskCalls store first last calls least places journal → AnswersDeskCalls store first last calls least places (journal ++ more)
  desk_longer [] least places journal more is = is
  desk_longer (call ∷ calls) least places journal more (inl (told, tells, place, rest, are, low, stands, later)) = inl (told, tells, place, rest, are, low, at_longer journal more place told stands, desk_longer calls (suc place) rest journal more later)
  desk_longer (call ∷ calls) least places journal more (inr (inl (n, low, within, tells, later))) = inr (inl (n, low, (omega (arith, within, length-append journal more)), subst (λ (so_far : List Told). TellsPageThere store first last call so_far) (sym (take_within journal more n within)) tells, desk_longer calls n places journal more later))
  desk_longer (call ∷ calls) least places journal more (inr (inr (still, later))) = inr (inr (still, desk_longer calls least places journal more later))

  desk_lower : (calls : List Call) (least lower : ℕ) (places : List ℕ) (journal : List Told) → lower ≤ least → AnswersDeskCalls store first last calls least places journal → AnswersDeskCalls store first last calls lower places journal
  desk_lower [] least lower places journal low is = is
  desk_lower (call ∷ calls) least lower places journal low (inl (told, tells, place, rest, are, high, stands, later)) = inl (told, tells, place, rest, are, omega (arith, low, high), stands, later)
  desk_lower (call ∷ calls) least lower places journal low (inr (inl (n, high, within, tells, later))) = inr (inl (n, omega (arith, low, high), within, tells, later))
  desk_lower (call ∷ calls) least lower places journal low (inr (inr (still, later))) = inr (inr (still, desk_lower calls least lower places journal low later))

  desk_then : (these more : List Call) (least : ℕ) (places its : List ℕ) (journal told : List Told) → least ≤ length journal → AnswersDeskCalls store first last these least places journal → AnswersDeskCalls store first last more (length journal) its (journal ++ told)
      → AnswersDeskCalls store first last (these ++ more) least (places ++ its) (journal ++ told)
  desk_then [] more least places its journal told low none is = subst (λ (at : List ℕ). AnswersDeskCalls store first last more least (at ++ its) (journal ++ told)) (sym none) (desk_lower more (length journal) least its (journal ++ told) low is)
  desk_then (call ∷ these) more least places its journal told low (inl (one, tells, place, rest, are, high, stands, later)) is =
      let within = slice_get_within journal place one stands in
      inl (one, tells, place, rest ++ its, ap (λ (at : List ℕ). at ++ its) are, high, at_longer journal told place one stands, desk_then these more (suc place) rest its journal told (omega (arith, within)) later is)
  desk_then (call ∷ these) more least places its journal told low (inr (inl (n, high, within, tells, later))) is =
      inr (inl (n, high, (omega (arith, within, length-append journal told)), subst (λ (so_far : List Told). TellsPageThere store first last call so_far) (sym (take_within journal told n within)) tells, desk_then these more n places its journal told within later is))
  desk_then (call ∷ these) more least places its journal told low (inr (inr (still, later))) is = inr (inr (still, desk_then these more least places its journal told low later is))

  desk_within : (calls : List Call) (least : ℕ) (places : List ℕ) (journal : List Told) → AnswersDeskCalls store first last calls least places journal → (place : ℕ) → Contains places place → place < length journal
  desk_within [] least places journal none place there = absurd (none_there place (subst (λ (at : List ℕ). Contains at place) none there))
  desk_within (call ∷ calls) least places journal (inl (told, tells, at, rest, are, low, stands, later)) place there =
      elim (Contains-cons_cases at place rest (subst (λ (all : List ℕ). Contains all place) are there)) [
        | inl same ↦ subst (λ (n : ℕ). n < length journal) same (slice_get_within journal at told stands)
        | inr behind ↦ desk_within calls (suc at) rest journal later place behind
      ]
  desk_within (call ∷ calls) least places journal (inr (inl (n, low, within, tells, later))) place there = desk_within calls n places journal later place there
  desk_within (call ∷ calls) least places journal (inr (inr (still, later))) place there = desk_within calls least places journal later place there

  -- what was told in one turn
  lines_loose : (shares : Bool) (side : Side) (calls : List LineCall) (least : ℕ) (places : List ℕ) (journal : List Told) → AnswersLinesNow store first last shares side calls least places journal → AnswersLineCalls store first last side calls least places journal
  lines_loose shares side [] least places journal is = is
  lines_loose shares side (call ∷ calls) least places journal (inl (told, tells, rest, are, stands, later)) = inl (told, tells, least, rest, are, omega arith, stands, lines_loose shares side calls (suc least) rest journal later)
  lines_loose shares side (call ∷ calls) least places journal (inr (inl (alone, within, tells, later))) = inr (inl (least, omega arith, within, tells, lines_loose shares side calls least places journal later))
  lines_loose shares side (call ∷ calls) least places journal (inr (inr (bad, later))) = inr (inr (bad, lines_loose shares side calls least places journal later))

  pages_loose : (shares : Bool) (calls : List Call) (least : ℕ) (places : List ℕ) (journal : List Told) → AnswersPagesNow store first last shares calls least places journal → AnswersPageCalls store first last calls least places journal
  pages_loose shares [] least places journal is = is
  pages_loose shares (call ∷ calls) least places journal (inl (told, tells, rest, are, stands, later)) = inl (told, tells, least, rest, are, omega arith, stands, pages_loose shares calls (suc least) rest journal later)
  pages_loose shares (call ∷ calls) least places journal (inr (inl (alone, within, tells, later))) = inr (inl (least, omega arith, within, tells, pages_loose shares calls least places journal later))
  pages_loose shares (call ∷ calls) least places journal (inr (inr (still, later))) = inr (inr (still, pages_loose shares calls least places journal later))

  desk_loose : (shares : Bool) (calls : List Call) (least : ℕ) (places : List ℕ) (journal : List Told) → AnswersDeskNow store first last shares calls least places journal → AnswersDeskCalls store first last calls least places journal
  desk_loose shares [] least places journal is = is
  desk_loose shares (call ∷ calls) least places journal (inl (told, tells, rest, are, stands, later)) = inl (told, tells, least, rest, are, omega arith, stands, desk_loose shares calls (suc least) rest journal later)
  desk_loose shares (call ∷ calls) least places journal (inr (inl (alone, within, tells, later))) = inr (inl (least, omega arith, within, tells, desk_loose shares calls least places journal later))
  desk_loose shares (call ∷ calls) least places journal (inr (inr (still, later))) = inr (inr (still, desk_loose shares calls least places journal later))

  -- ---- what was told stays told

  pub answered_longer : (peer : Peer) (places : List ℕ) (journal more : List Told) → IsAnswered store first last peer places journal → IsAnswered store first last peer places (journal ++ more)
  answered_longer (Http peer) places journal more is = record { served = is.served; mine = is.mine; answered = is.answered; stand = stand_longer 0 places is.mine journal more is.stand }
  answered_longer (Pages peer) places journal more is = record { served = is.served; answered = pages_longer (calls_of peer) 0 places journal more is.answered }
  answered_longer (Desk peer) places journal more is = record { served = is.served; answered = desk_longer (calls_of peer) 0 places journal more is.answered }
  answered_longer (Lines peer) places journal more is = record { calls = is.calls; lines = is.lines; came = is.came; goes = is.goes; answered = lines_longer (side_of (lines_of peer)) is.calls 0 places journal more is.answered }
  answered_longer (Last peer) places journal more (inl is) = inl (record { told = is.told; stands = stand_longer 0 places (is.told ∷ []) journal more is.stands; went = is.went; text = is.text })
  answered_longer (Last peer) places journal more (inr is) = inr is

  pub was_longer : (peer : Peer) (places : List ℕ) (journal more : List Told) → WasAnswered store first last peer places journal → WasAnswered store first last peer places (journal ++ more)
  was_longer (Http peer) places journal more is = answered_longer (Http peer) places journal more is
  was_longer (Pages peer) places journal more is = answered_longer (Pages peer) places journal more is
  was_longer (Desk peer) places journal more is = answered_longer (Desk peer) places journal more is
  was_longer (Lines peer) places journal more (waits, is) = (waits, record { calls = is.calls; lines = is.lines; came = is.came; goes = is.goes; answered = lines_longer (side_of (lines_of peer)) is.calls 0 places journal more is.answered })
  was_longer (Last peer) places journal more is = answered_longer (Last peer) places journal more is

  pub was_answered : (peer : Peer) (places : List ℕ) (journal : List Told) → IsAnswered store first last peer places journal → WasAnswered store first last peer places journal
  was_answered (Http peer) places journal is = is
  was_answered (Pages peer) places journal is = is
  was_answered (Desk peer) places journal is = is
  was_answered (Lines peer) places journal is = (output_of (lines_of peer), is)
  was_answered (Last peer) places journal is = is

  pub answered_within : (peer : Peer) (places : List ℕ) (journal : List Told) → IsAnswered store first last peer places journal → (place : ℕ) → Contains places place → place < length journal
  answered_within (Http peer) places journal is = stand_within 0 places is.mine journal is.stand
  answered_within (Pages peer) places journal is = pages_within (calls_of peer) 0 places journal is.answered
  answered_within (Desk peer) places journal is = desk_within (calls_of peer) 0 places journal is.answered
  answered_within (Lines peer) places journal is = lines_within (side_of (lines_of peer)) is.calls 0 places journal is.answered
  answered_within (Last peer) places journal (inl is) = stand_within 0 places (is.told ∷ []) journal is.stands
  answered_within (Last peer) places journal (inr is) = subst (λ (at : List ℕ). (place : ℕ) → Contains at place → place < length journal) (sym is.nowhere) (λ place there. absurd (none_there place there))

module _ {S : Type 0} (store : Ghosts S) (before : Served S) (fresh : IsFresh before) (last : Held S) where
  -- ---- what a turn applies, and what is told of it

  gives_told : (lacks : Bool) (wants : Result (List ℕ) Refusal) (call : Call) (old new : Served S) → (IsTrue lacks → IsTrue (needs_space (body_of call.0))) → Gives store (with_space lacks wants) old call.0 call.1 new → (c : Continues store old new) × ((rest : List Told) → AnswersCall wants call (applied c.more ++ rest) rest)
  unfolding one_more stays
  gives_told false (Ok account) call old new needs is = (one_more store (entry.Message (moment_of old) account (body_of call.0)) is.told old new is.next, λ rest. inl ((entry.Message (moment_of old) account (body_of call.0), is.told), record { moment = moment_of old; asked = refl; tells = is.tells }, refl))
  gives_told true (Ok account) call old new needs is = subst (λ (served : Served S). (c : Continues store old served) × ((rest : List Told) → AnswersCall (Ok account) call (applied c.more ++ rest) rest)) (sym is.1) (stays store old, λ rest. inr (needs refl, is.0, refl))
  gives_told false (Err why) call old new needs is = subst (λ (served : Served S). (c : Continues store old served) × ((rest : List Told) → AnswersCall (Err why) call (applied c.more ++ rest) rest)) (sym is.1) (stays store old, λ rest. (is.0, refl))
  gives_told true (Err why) call old new needs is = subst (λ (served : Served S). (c : Continues store old served) × ((rest : List Told) → AnswersCall (Err why) call (applied c.more ++ rest) rest)) (sym is.1) (stays store old, λ rest. (is.0, refl))

  pub calls_told : (calls : List Call) (old new : Served S) → Chain (Answers store) old calls new → (c : Continues store old new) × AnswersCalls calls (applied c.more)
  unfolding stays then
  calls_told [] old new is = subst (λ (served : Served S). (c : Continues store old served) × AnswersCalls [] (applied c.more)) (sym is) (stays store old, refl)
  calls_told (call ∷ calls) old new is =
      let first = gives_told (lacks_space old call.0) (asked call.0) call old is.0 (and_left (needs_space (body_of call.0)) _) is.1 in
      let rest = calls_told calls is.0 new is.2 in
      (then store old is.0 new first.0 rest.0, (applied rest.0.more, subst (λ (mine : List Told). AnswersCall (asked call.0) call mine (applied rest.0.more)) (sym (applied_then first.0.more rest.0.more)) (first.1 (applied rest.0.more)), rest.1))

  -- the journal, where nothing is shared
  abbrev IsJournal : (journal : List Told) → Served S → Type 0
  IsJournal journal served = shares_of served ≡ false → journal ≡ journal_of served

  pub journal_then : (journal : List Told) (old new : Served S) (c : Continues store old new) → IsJournal journal old → IsJournal (journal ++ applied c.more) new
  journal_then journal old new c is alone =
      let was : shares_of old ≡ false = sym c.shares ∙ alone in
      ap (λ (told : List Told). told ++ applied c.more) (is was) ∙ sym (grown_alone c.more old new (subst (λ b. Notes b c.more old new) was c.notes).0)

  -- one line is told, at the end of the journal
  abbrev LineTold : (shares : Bool) (side : Side) (call : LineCall) (old new : Served S) → Type 0
  LineTold shares side call old new = (c : Continues store old new)
      × ((journal : List Told) → IsJournal journal old → (calls : List LineCall) (its : List ℕ) (told : List Told) → AnswersLinesNow store (store_of before) last shares side calls (length (journal ++ applied c.more)) its ((journal ++ applied c.more) ++ told)
      → AnswersLinesNow store (store_of before) last shares side (call ∷ calls) (length journal) (places_from (length journal) (applied c.more) ++ its) ((journal ++ applied c.more) ++ told))

  asks_told : (shares : Bool) (side : Side) (call : LineCall) (old new : Served S) → Asks store side call.0 old call.1 new → LineTold shares side call old new
  unfolding one_more
  asks_told shares side call old new is = (
    one_more store is.entry is.told old new is.next,
    λ journal is_journal calls its told later.
        let one : Told = (is.entry, is.told) in
        let long : length (journal ++ one ∷ []) ≡ suc (length journal) = omega (arith, length-append journal (one ∷ [])) in
        let stands : slice_get ((journal ++ one ∷ []) ++ told) (length journal) ≡ Some one = at_longer (journal ++ one ∷ []) told (length journal) one (at_seam journal [] one) in
        inl (one, record { line = is.line; ended = is.ended; own = is.own; moment = moment_of old; said = is.said; says = is.says }, its, refl, stands, subst (λ (n : ℕ). AnswersLinesNow store (store_of before) last shares side calls n its ((journal ++ one ∷ []) ++ told)) long later),
  )

  -- nothing was applied: the rest stands where it did
  none_told : (shares : Bool) (side : Side) (calls : List LineCall) (journal told : List Told) (its : List ℕ) → AnswersLinesNow store (store_of before) last shares side calls (length (journal ++ [])) its ((journal ++ []) ++ told) → AnswersLinesNow store (store_of before) last shares side calls (length journal) its ((journal ++ []) ++ told)
  none_told shares side calls journal told its later = subst (λ (n : ℕ). AnswersLinesNow store (store_of before) last shares side calls n its ((journal ++ []) ++ told)) (ap length (append-nil journal)) later

  inquires_told : (shares : Bool) (side : Side) (call : LineCall) (old new : Served S) → IsServed store before old → (HasCleanDisk (state store last) → IsClean store new) → shares_of old ≡ shares → Inquires store side call.0 old call.1 new → LineTold shares side call old new
  unfolding looked
  inquires_told shares side call old new served clean same is = (
    looked store is.question is.told old new is.next,
    λ journal is_journal calls its told later.
        let so_far : take (length journal) ((journal ++ []) ++ told) ≡ journal_of old = take_within (journal ++ []) told (length journal) (omega (arith, ap length (append-nil journal))) ∙ ap (λ x. take (length journal) x) (append-nil journal) ∙ take-length journal ∙ is_journal is.next.alone in
        inr (inl (
          sym same ∙ is.next.alone,
          omega (arith, length-append (journal ++ []) told, ap length (append-nil journal)),
          record {
            line = is.line;
            ended = is.ended;
            own = is.own;
            question = is.question;
            asks = is.asks;
            said = is.said;
            told = is.told;
            warns = has_to_warn is.question (log_lags_of old);
            pings = only_ping is.question (log_lags_of old);
            says = is.says;
            answers = subst (λ (log : List Told). AnswersBy store (store_of before) last log is.question is.told) (sym so_far) (answered_so store before fresh last is.question is.told old new served clean is.next);
          },
          none_told shares side calls journal told its later,
        )),
  )

  bad_told : (shares : Bool) (side : Side) (call : LineCall) (old new : Served S) → IsRefused store side call.0 old call.1 new → LineTold shares side call old new
  unfolding stays
  bad_told shares side call old new bad = subst (λ (served : Served S). LineTold shares side call old served) (sym bad.1) (stays store old, λ journal is_journal calls its told later. inr (inr (inr bad.0, none_told shares side calls journal told its later)))

  backup_told : (shares : Bool) (side : Side) (call : LineCall) (old new : Served S) → BacksUp store side call.0 old call.1 new → LineTold shares side call old new
  unfolding background_only
  backup_told shares side call old new is = subst (λ (served : Served S). LineTold shares side call old served) (sym is.next.same) (
    background_only store old (record old.background { backup = backup_of new }) refl,
    λ journal is_journal calls its told later. inr (inr (inl (record { line = is.line; ended = is.ended; operator = is.operator; asked = is.asked; said = is.said; told = is.told; says = is.says }), none_told shares side calls journal told its later)),
  )

  line_told : (shares : Bool) (side : Side) (call : LineCall) (old new : Served S) → IsServed store before old → (HasCleanDisk (state store last) → IsClean store new) → shares_of old ≡ shares → IsTold store side call.0 old call.1 new → LineTold shares side call old new
  line_told shares side call old new served clean same (inl asks) = asks_told shares side call old new asks
  line_told shares side call old new served clean same (inr (inl inquires)) = inquires_told shares side call old new served clean same inquires
  line_told shares side call old new served clean same (inr (inr (inl backs))) = backup_told shares side call old new backs
  line_told shares side call old new served clean same (inr (inr (inr bad))) = bad_told shares side call old new bad

  abbrev LinesTold : (shares : Bool) (side : Side) (calls : List LineCall) (old new : Served S) → Type 0
  LinesTold shares side calls old new = (c : Continues store old new)
      × ((journal : List Told) → IsJournal journal old → AnswersLinesNow store (store_of before) last shares side calls (length journal) (places_from (length journal) (applied c.more)) (journal ++ applied c.more))

  pub lines_told : (shares : Bool) (side : Side) (calls : List LineCall) (old new : Served S) → IsServed store before old → (HasCleanDisk (state store last) → IsClean store new) → shares_of old ≡ shares → lines.Chain store side old calls new → LinesTold shares side calls old new
  unfolding stays then
  lines_told shares side [] old new served clean same is = subst (λ (it : Served S). LinesTold shares side [] old it) (sym is) (stays store old, λ journal is_journal. refl)
  lines_told shares side (call ∷ calls) old new served clean same is =
      let rest_on : Continues store is.0 new = line_chain store side calls is.0 new is.2 in
      let first = line_told shares side call old is.0 served (λ honest. continues_clean store is.0 new rest_on (clean honest)) same is.1 in
      let rest = lines_told shares side calls is.0 new (served_continues store before old is.0 served first.0) clean (first.0.shares ∙ same) is.2 in (
        then store old is.0 new first.0 rest.0,
        λ journal is_journal.
            let mid : List Told = journal ++ applied first.0.more in
            let later = rest.1 mid (journal_then journal old is.0 first.0 is_journal) in
            let all = first.1 journal is_journal calls (places_from (length mid) (applied rest.0.more)) (applied rest.0.more) later in
            let log : mid ++ applied rest.0.more ≡ journal ++ applied (first.0.more ++ rest.0.more) = append_assoc journal (applied first.0.more) (applied rest.0.more) ∙ ap (λ x. journal ++ x) (sym (applied_then first.0.more rest.0.more)) in
            let at : places_from (length journal) (applied first.0.more) ++ places_from (length mid) (applied rest.0.more) ≡ places_from (length journal) (applied (first.0.more ++ rest.0.more)) =
            places_then journal (applied first.0.more) (applied rest.0.more) ∙ ap (λ (told : List Told). places_from (length journal) told) (sym (applied_then first.0.more rest.0.more)) in
            subst (λ (at : List ℕ). AnswersLinesNow store (store_of before) last shares side (call ∷ calls) (length journal) at (journal ++ applied (first.0.more ++ rest.0.more))) at (subst (λ (told : List Told). AnswersLinesNow store (store_of before) last shares side (call ∷ calls) (length journal) (places_from (length journal) (applied first.0.more) ++ places_from (length mid) (applied rest.0.more)) told) log all),
      )

  -- ---- a browser

  -- one request is told, at the end of the journal
  abbrev PageTold : (shares : Bool) (call : Call) (old new : Served S) → Type 0
  PageTold shares call old new = (c : Continues store old new)
      × ((journal : List Told) → IsJournal journal old → (calls : List Call) (its : List ℕ) (told : List Told) → AnswersPagesNow store (store_of before) last shares calls (length (journal ++ applied c.more)) its ((journal ++ applied c.more) ++ told)
      → AnswersPagesNow store (store_of before) last shares (call ∷ calls) (length journal) (places_from (length journal) (applied c.more) ++ its) ((journal ++ applied c.more) ++ told))

  -- nothing was applied: the rest stands where it did
  none_shown : (shares : Bool) (calls : List Call) (journal told : List Told) (its : List ℕ) → AnswersPagesNow store (store_of before) last shares calls (length (journal ++ [])) its ((journal ++ []) ++ told) → AnswersPagesNow store (store_of before) last shares calls (length journal) its ((journal ++ []) ++ told)
  none_shown shares calls journal told its later = subst (λ (n : ℕ). AnswersPagesNow store (store_of before) last shares calls n its ((journal ++ []) ++ told)) (ap length (append-nil journal)) later

  act_told : (shares : Bool) (call : Call) (old new : Served S) → IsApplied store (asks_of call.0) old call.0 call.1 new → PageTold shares call old new
  unfolding one_more
  act_told shares call old new is = (
    one_more store (entry.Message (moment_of old) is.account is.message) is.applies.told old new is.applies.next,
    λ journal is_journal calls its told later.
        let one : Told = (entry.Message (moment_of old) is.account is.message, is.applies.told) in
        let long : length (journal ++ one ∷ []) ≡ suc (length journal) = omega (arith, length-append journal (one ∷ [])) in
        let stands : slice_get ((journal ++ one ∷ []) ++ told) (length journal) ≡ Some one = at_longer (journal ++ one ∷ []) told (length journal) one (at_seam journal [] one) in
        let tells : TellsAct call one = record {
          account = is.account;
          act = is.act;
          job = is.job;
          message = is.message;
          wants = ok_and _ _ _ (asks_of call.0) is.asks is.wanted is.is;
          moment = moment_of old;
          asked = refl;
          tells = is.applies.tells;
        } in
        inl (one, tells, its, refl, stands, subst (λ (n : ℕ). AnswersPagesNow store (store_of before) last shares calls n its ((journal ++ one ∷ []) ++ told)) long later),
  )

  shown_told : (shares : Bool) (call : Call) (old new : Served S) → IsServed store before old → (HasCleanDisk (state store last) → IsClean store new) → shares_of old ≡ shares → IsLookedAt store (asks_of call.0) old call.0 call.1 new → PageTold shares call old new
  unfolding looked
  shown_told shares call old new served clean same is = (
    looked store (question_of (needs_password_of old) (moment_of old) is.asks) is.shows.told old new is.shows.next,
    λ journal is_journal calls its told later.
        let so_far : take (length journal) ((journal ++ []) ++ told) ≡ journal_of old = take_within (journal ++ []) told (length journal) (omega (arith, ap length (append-nil journal))) ∙ ap (λ x. take (length journal) x) (append-nil journal) ∙ take-length journal ∙ is_journal is.shows.next.alone in
        inr (inl (
          sym same ∙ is.shows.next.alone,
          omega (arith, length-append (journal ++ []) told, ap length (append-nil journal)),
          record {
            needs_password = needs_password_of old;
            moment = moment_of old;
            question = question_of (needs_password_of old) (moment_of old) is.asks;
            wants = ok_and _ _ _ (asks_of call.0) is.asks is.wanted refl;
            told = is.shows.told;
            shows = is.shows.tells;
            answers = subst (λ (log : List Told). AnswersBy store (store_of before) last log (question_of (needs_password_of old) (moment_of old) is.asks) is.shows.told) (sym so_far) (answered_so store before fresh last (question_of (needs_password_of old) (moment_of old) is.asks) is.shows.told old new served clean is.shows.next);
          },
          none_shown shares calls journal told its later,
        )),
  )

  left_told : (shares : Bool) (call : Call) (old new : Served S) → IsLeft store (asks_of call.0) old call.0 call.1 new → PageTold shares call old new
  left_told shares call old new is = subst (λ (served : Served S). PageTold shares call old served) (sym is.1.1) (gathered_only store old is.1.0, λ journal is_journal calls its told later. inr (inr (is.0, none_shown shares calls journal told its later)))

  page_told : (shares : Bool) (call : Call) (old new : Served S) → IsServed store before old → (HasCleanDisk (state store last) → IsClean store new) → shares_of old ≡ shares → Comes store (asks_of call.0) old call.0 call.1 new → PageTold shares call old new
  page_told shares call old new served clean same (inl is) = act_told shares call old new is
  page_told shares call old new served clean same (inr (inl is)) = shown_told shares call old new served clean same is
  page_told shares call old new served clean same (inr (inr is)) = left_told shares call old new is

  abbrev PagesTold : (shares : Bool) (calls : List Call) (old new : Served S) → Type 0
  PagesTold shares calls old new = (c : Continues store old new)
      × ((journal : List Told) → IsJournal journal old → AnswersPagesNow store (store_of before) last shares calls (length journal) (places_from (length journal) (applied c.more)) (journal ++ applied c.more))

  pub pages_told : (shares : Bool) (calls : List Call) (old new : Served S) → IsServed store before old → (HasCleanDisk (state store last) → IsClean store new) → shares_of old ≡ shares → Chain (web.Answers store) old calls new → PagesTold shares calls old new
  unfolding stays then
  pages_told shares [] old new served clean same is = subst (λ (it : Served S). PagesTold shares [] old it) (sym is) (stays store old, λ journal is_journal. refl)
  pages_told shares (call ∷ calls) old new served clean same is =
      let rest_on : Continues store is.0 new = pages_chain store calls is.0 new is.2 in
      let first = page_told shares call old is.0 served (λ honest. continues_clean store is.0 new rest_on (clean honest)) same (comes store old call.0 call.1 is.0 is.1) in
      let rest = pages_told shares calls is.0 new (served_continues store before old is.0 served first.0) clean (first.0.shares ∙ same) is.2 in (
        then store old is.0 new first.0 rest.0,
        λ journal is_journal.
            let mid : List Told = journal ++ applied first.0.more in
            let later = rest.1 mid (journal_then journal old is.0 first.0 is_journal) in
            let all = first.1 journal is_journal calls (places_from (length mid) (applied rest.0.more)) (applied rest.0.more) later in
            let log : mid ++ applied rest.0.more ≡ journal ++ applied (first.0.more ++ rest.0.more) = append_assoc journal (applied first.0.more) (applied rest.0.more) ∙ ap (λ x. journal ++ x) (sym (applied_then first.0.more rest.0.more)) in
            let at : places_from (length journal) (applied first.0.more) ++ places_from (length mid) (applied rest.0.more) ≡ places_from (length journal) (applied (first.0.more ++ rest.0.more)) =
            places_then journal (applied first.0.more) (applied rest.0.more) ∙ ap (λ (told : List Told). places_from (length journal) told) (sym (applied_then first.0.more rest.0.more)) in
            subst (λ (at : List ℕ). AnswersPagesNow store (store_of before) last shares (call ∷ calls) (length journal) at (journal ++ applied (first.0.more ++ rest.0.more))) at (subst (λ (told : List Told). AnswersPagesNow store (store_of before) last shares (call ∷ calls) (length journal) (places_from (length journal) (applied first.0.more) ++ places_from (length mid) (applied rest.0.more)) told) log all),
      )

  -- ---- an operator at the desk

  -- one request is told, at the end of the journal
  abbrev DeskTold : (shares : Bool) (call : Call) (old new : Served S) → Type 0
  DeskTold shares call old new = (c : Continues store old new)
      × ((journal : List Told) → IsJournal journal old → (calls : List Call) (its : List ℕ) (told : List Told) → AnswersDeskNow store (store_of before) last shares calls (length (journal ++ applied c.more)) its ((journal ++ applied c.more) ++ told)
      → AnswersDeskNow store (store_of before) last shares (call ∷ calls) (length journal) (places_from (length journal) (applied c.more) ++ its) ((journal ++ applied c.more) ++ told))

  -- nothing was applied: the rest stands where it did
  none_there_shown : (shares : Bool) (calls : List Call) (journal told : List Told) (its : List ℕ) → AnswersDeskNow store (store_of before) last shares calls (length (journal ++ [])) its ((journal ++ []) ++ told) → AnswersDeskNow store (store_of before) last shares calls (length journal) its ((journal ++ []) ++ told)
  none_there_shown shares calls journal told its later = subst (λ (n : ℕ). AnswersDeskNow store (store_of before) last shares calls n its ((journal ++ []) ++ told)) (ap length (append-nil journal)) later

  line_there_told : (shares : Bool) (call : Call) (old new : Served S) → IsAskedThere store (operator_of call.0) (asks_there call.0) old call.0 call.1 new → DeskTold shares call old new
  unfolding one_more
  line_there_told shares call old new is = (
    one_more store (entry.Desk is.operator is.event.line) is.event.applies.told old new is.event.applies.next,
    λ journal is_journal calls its told later.
        let one : Told = (entry.Desk is.operator is.event.line, is.event.applies.told) in
        let long : length (journal ++ one ∷ []) ≡ suc (length journal) = omega (arith, length-append journal (one ∷ [])) in
        let stands : slice_get ((journal ++ one ∷ []) ++ told) (length journal) ≡ Some one = at_longer (journal ++ one ∷ []) told (length journal) one (at_seam journal [] one) in
        let tells : TellsLine call one = record {
          operator = is.operator;
          named = is.named;
          wants = is.wanted;
          moment = moment_of old;
          line = is.event.line;
          read = is.event.read;
          asked = refl;
          deed = is.event.deed;
          does = is.event.does;
          page = is.event.applies.page;
          of_line = is.event.applies.of_line;
          by = is.event.applies.by;
          came = is.event.applies.came;
          onward = is.event.applies.onward;
          tells = is.event.applies.tells;
        } in
        inl (one, tells, its, refl, stands, subst (λ (n : ℕ). AnswersDeskNow store (store_of before) last shares calls n its ((journal ++ one ∷ []) ++ told)) long later),
  )

  shown_there_told : (shares : Bool) (call : Call) (old new : Served S) → IsServed store before old → (HasCleanDisk (state store last) → IsClean store new) → shares_of old ≡ shares → IsLookedAtThere store (asks_there call.0) old call.0 call.1 new → DeskTold shares call old new
  unfolding looked
  shown_there_told shares call old new served clean same is = (
    looked store (question_there (moment_of old) is.asks) is.shows.told old new is.shows.next,
    λ journal is_journal calls its told later.
        let so_far : take (length journal) ((journal ++ []) ++ told) ≡ journal_of old = take_within (journal ++ []) told (length journal) (omega (arith, ap length (append-nil journal))) ∙ ap (λ x. take (length journal) x) (append-nil journal) ∙ take-length journal ∙ is_journal is.shows.next.alone in
        inr (inl (
          sym same ∙ is.shows.next.alone,
          omega (arith, length-append (journal ++ []) told, ap length (append-nil journal)),
          record {
            moment = moment_of old;
            question = question_there (moment_of old) is.asks;
            wants = ok_and _ _ _ (asks_there call.0) is.asks is.wanted refl;
            told = is.shows.told;
            shows = is.shows.tells;
            answers = subst (λ (log : List Told). AnswersBy store (store_of before) last log (question_there (moment_of old) is.asks) is.shows.told) (sym so_far) (answered_so store before fresh last (question_there (moment_of old) is.asks) is.shows.told old new served clean is.shows.next);
          },
          none_there_shown shares calls journal told its later,
        )),
  )

  left_there_told : (shares : Bool) (call : Call) (old new : Served S) → IsLeftThere store (asks_there call.0) old call.0 call.1 new → DeskTold shares call old new
  left_there_told shares call old new is = subst (λ (served : Served S). DeskTold shares call old served) (sym is.1.1) (gathered_only store old is.1.0, λ journal is_journal calls its told later. inr (inr (is.0, none_there_shown shares calls journal told its later)))

  desk_told : (shares : Bool) (call : Call) (old new : Served S) → IsServed store before old → (HasCleanDisk (state store last) → IsClean store new) → shares_of old ≡ shares → DeskComes store (operator_of call.0) (asks_there call.0) old call.0 call.1 new → DeskTold shares call old new
  desk_told shares call old new served clean same (inl is) = line_there_told shares call old new is
  desk_told shares call old new served clean same (inr (inl is)) = shown_there_told shares call old new served clean same is
  desk_told shares call old new served clean same (inr (inr is)) = left_there_told shares call old new is

  abbrev DeskTolds : (shares : Bool) (calls : List Call) (old new : Served S) → Type 0
  DeskTolds shares calls old new = (c : Continues store old new)
      × ((journal : List Told) → IsJournal journal old → AnswersDeskNow store (store_of before) last shares calls (length journal) (places_from (length journal) (applied c.more)) (journal ++ applied c.more))

  pub desk_tolds : (shares : Bool) (calls : List Call) (old new : Served S) → IsServed store before old → (HasCleanDisk (state store last) → IsClean store new) → shares_of old ≡ shares → Chain (desk.Answers store) old calls new → DeskTolds shares calls old new
  unfolding stays then
  desk_tolds shares [] old new served clean same is = subst (λ (it : Served S). DeskTolds shares [] old it) (sym is) (stays store old, λ journal is_journal. refl)
  desk_tolds shares (call ∷ calls) old new served clean same is =
      let rest_on : Continues store is.0 new = desk_chain store calls is.0 new is.2 in
      let first = desk_told shares call old is.0 served (λ honest. continues_clean store is.0 new rest_on (clean honest)) same (comes_there store old call.0 call.1 is.0 is.1) in
      let rest = desk_tolds shares calls is.0 new (served_continues store before old is.0 served first.0) clean (first.0.shares ∙ same) is.2 in (
        then store old is.0 new first.0 rest.0,
        λ journal is_journal.
            let mid : List Told = journal ++ applied first.0.more in
            let later = rest.1 mid (journal_then journal old is.0 first.0 is_journal) in
            let all = first.1 journal is_journal calls (places_from (length mid) (applied rest.0.more)) (applied rest.0.more) later in
            let log : mid ++ applied rest.0.more ≡ journal ++ applied (first.0.more ++ rest.0.more) = append_assoc journal (applied first.0.more) (applied rest.0.more) ∙ ap (λ x. journal ++ x) (sym (applied_then first.0.more rest.0.more)) in
            let at : places_from (length journal) (applied first.0.more) ++ places_from (length mid) (applied rest.0.more) ≡ places_from (length journal) (applied (first.0.more ++ rest.0.more)) =
            places_then journal (applied first.0.more) (applied rest.0.more) ∙ ap (λ (told : List Told). places_from (length journal) told) (sym (applied_then first.0.more rest.0.more)) in
            subst (λ (at : List ℕ). AnswersDeskNow store (store_of before) last shares (call ∷ calls) (length journal) at (journal ++ applied (first.0.more ++ rest.0.more))) at (subst (λ (told : List Told). AnswersDeskNow store (store_of before) last shares (call ∷ calls) (length journal) (places_from (length journal) (applied first.0.more) ++ places_from (length mid) (applied rest.0.more)) told) log all),
      )

  -- ---- a turn

  -- Who was answered is, with what this turn applies; but what waits to go may be lost where that ends
  -- the connection.
  abbrev pub Answered : (next : Next) (was now : Peer) (old new : Served S) → Type 0
  Answered next was now old new = (c : Continues store old new)
      × ((places : List ℕ) (journal : List Told) → IsJournal journal old → IsAnswered store (store_of before) last was places journal
      → (next ≢ Close → IsAnswered store (store_of before) last now (places ++ places_from (length journal) (applied c.more)) (journal ++ applied c.more))
      × WasAnswered store (store_of before) last now (places ++ places_from (length journal) (applied c.more)) (journal ++ applied c.more))

  http_answered : (next : Next) (was now : HttpPeer) (old new : Served S) → http.MakesCalls store was now old new → Answered next (Http was) (Http now) old new
  http_answered next was now old new is =
      let told = calls_told is.0 old new is.2 in
      let more : List Told = applied told.0.more in (
        told.0,
        λ places journal is_journal had.
            let now_has : IsAnswered store (store_of before) last (Http now) (places ++ places_from (length journal) more) (journal ++ more) = record {
              served = always_served (connection_of now);
              mine = had.mine ++ more;
              answered = subst (λ (calls : List Call). AnswersCalls calls (had.mine ++ more)) (sym is.1) (calls_then (calls_of was) is.0 had.mine more had.answered told.1);
              stand = stand_then 0 places had.mine journal more (omega arith) had.stand;
            } in
            ((λ goes. now_has), now_has),
      )

  pages_answered : (next : Next) (was now : HttpPeer) (old new : Served S) → IsServed store before old → (HasCleanDisk (state store last) → IsClean store new) → http.CallsService (web.Answers store) was now old new → Answered next (Pages was) (Pages now) old new
  pages_answered next was now old new served clean is =
      let told = pages_told (shares_of old) is.0 old new served clean refl is.2 in
      let more : List Told = applied told.0.more in (
        told.0,
        λ places journal is_journal had.
            let now_has : IsAnswered store (store_of before) last (Pages now) (places ++ places_from (length journal) more) (journal ++ more) = record {
              served = always_served (connection_of now);
              answered = subst (λ (calls : List Call). AnswersPageCalls store (store_of before) last calls 0 (places ++ places_from (length journal) more) (journal ++ more)) (sym is.1)
                  (pages_then store (store_of before) last (calls_of was) is.0 0 places (places_from (length journal) more) journal more (omega arith) had.answered (pages_loose store (store_of before) last (shares_of old) is.0 (length journal) (places_from (length journal) more) (journal ++ more) (told.1 journal is_journal)));
            } in
            ((λ goes. now_has), now_has),
      )

  desk_answered : (next : Next) (was now : HttpPeer) (old new : Served S) → IsServed store before old → (HasCleanDisk (state store last) → IsClean store new) → http.CallsService (desk.Answers store) was now old new → Answered next (Desk was) (Desk now) old new
  desk_answered next was now old new served clean is =
      let told = desk_tolds (shares_of old) is.0 old new served clean refl is.2 in
      let more : List Told = applied told.0.more in (
        told.0,
        λ places journal is_journal had.
            let now_has : IsAnswered store (store_of before) last (Desk now) (places ++ places_from (length journal) more) (journal ++ more) = record {
              served = always_served (connection_of now);
              answered = subst (λ (calls : List Call). AnswersDeskCalls store (store_of before) last calls 0 (places ++ places_from (length journal) more) (journal ++ more)) (sym is.1)
                  (desk_then store (store_of before) last (calls_of was) is.0 0 places (places_from (length journal) more) journal more (omega arith) had.answered (desk_loose store (store_of before) last (shares_of old) is.0 (length journal) (places_from (length journal) more) (journal ++ more) (told.1 journal is_journal)));
            } in
            ((λ goes. now_has), now_has),
      )

  lines_answered : (ends ends2 : Ends) (was now : LineConnection) (waits : List ℕ) (old new : Served S) → IsServed store before old → (HasCleanDisk (state store last) → IsClean store new) → TakesLines store ends ends2 was now waits old new
      → (c : Continues store old new) × ((places : List ℕ) (journal : List Told) → IsJournal journal old → HasAnsweredLines store (store_of before) last was (output_of was) places journal → HasAnsweredLines store (store_of before) last now waits (places ++ places_from (length journal) (applied c.more)) (journal ++ applied c.more))
  lines_answered ends ends2 was now waits old new served clean is =
      let told = lines_told (shares_of old) (side_of was) is.calls old new served clean refl is.chain in
      let more : List Told = applied told.0.more in (
        told.0,
        λ places journal is_journal had. record {
          calls = had.calls ++ is.calls;
          lines = are_lines_then (IsOver was) (IsOver now) had.calls is.calls had.lines (λ over. (none_later store ends ends2 was now waits old new is over).0) (λ over. (none_later store ends ends2 was now waits old new is over).1) is.lines;
          came =
              is.received ∙ ap (λ x. x ++ is.came) had.came ∙ append_assoc (taken had.calls) (input_of was) is.came ∙ ap (λ x. taken had.calls ++ x) is.input
              ∙ sym (append_assoc (taken had.calls) (taken is.calls) (input_of now)) ∙ ap (λ x. x ++ input_of now) (sym (flat_map-append (λ (call : LineCall). call.0) had.calls is.calls));
          goes =
              flat_map-append (λ (call : LineCall). call.1) had.calls is.calls ∙ ap (λ x. x ++ bytes_told is.calls) had.goes ∙ append_assoc (sent_of was) (output_of was) (bytes_told is.calls)
              ∙ ap (λ x. sent_of was ++ x) is.output ∙ sym (append_assoc (sent_of was) is.went waits) ∙ ap (λ x. x ++ waits) (sym is.sent);
          answered = subst (λ (side : Side). AnswersLineCalls store (store_of before) last side (had.calls ++ is.calls) 0 (places ++ places_from (length journal) more) (journal ++ more)) (sym is.side)
              (lines_then store (store_of before) last (side_of was) had.calls is.calls 0 places (places_from (length journal) more) journal more (omega arith) had.answered (lines_loose store (store_of before) last (shares_of old) (side_of was) is.calls (length journal) (places_from (length journal) more) (journal ++ more) (told.1 journal is_journal)));
        },
      )

  -- nothing was applied
  none_applied : (peer : Peer) (places : List ℕ) (journal : List Told) → IsAnswered store (store_of before) last peer places journal → IsAnswered store (store_of before) last peer (places ++ []) (journal ++ [])
  none_applied peer places journal is = subst (λ (at : List ℕ). IsAnswered store (store_of before) last peer at (journal ++ [])) (sym (append-nil places)) (subst (λ (told : List Told). IsAnswered store (store_of before) last peer places told) (sym (append-nil journal)) is)

  line_peer_answered : (ends ends2 : Ends) (next : Next) (was now : LinePeer) (old new : Served S) → IsServed store before old → (HasCleanDisk (state store last) → IsClean store new) → lines.TakesTurn store ends ends2 next was now old new → Answered next (Lines was) (Lines now) old new
  unfolding stays
  line_peer_answered ends ends2 next was now old new served clean (inl drops) =
      subst (λ (it : Served S). Answered next (Lines was) (Lines now) old it) (sym drops.4) (
        stays store old,
        λ places journal is_journal had.
            let now_has = subst (λ (connection : LineConnection). HasAnsweredLines store (store_of before) last connection (output_of connection) (places ++ []) (journal ++ [])) (sym drops.3) (none_applied (Lines was) places journal had) in
            ((λ goes. now_has), (output_of (lines_of now), now_has)),
      )
  line_peer_answered ends ends2 next was now old new served clean (inr takes) =
      let told = lines_answered ends ends2 (lines_of was) (lines_of now) takes.0 old new served clean takes.1 in (
        told.0,
        λ places journal is_journal had.
            let its : List ℕ = places ++ places_from (length journal) (applied told.0.more) in
            let all : List Told = journal ++ applied told.0.more in
            let now_has = told.1 places journal is_journal had in
            ((λ goes. subst (λ (waits : List ℕ). HasAnsweredLines store (store_of before) last (lines_of now) waits its all) (takes.2 goes) now_has), (takes.0, now_has)),
      )

  last_answered : (ends ends2 : Ends) (next : Next) (was now : LastPeer) (old new : Served S) → SaysLast ends ends2 was now → new ≡ old → Answered next (Last was) (Last now) old new
  unfolding stays
  last_answered ends ends2 next was now old new says same =
      subst (λ (it : Served S). Answered next (Last was) (Last now) old it) (sym same) (
        stays store old,
        λ places journal is_journal had.
            let now_has : IsAnswered store (store_of before) last (Last now) (places ++ []) (journal ++ []) = none_applied (Last now) places journal (elim had [
              | inl tells ↦ inl (record {
                told = tells.told;
                stands = tells.stands;
                went = tells.went ++ says.went;
                text = tells.text ∙ ap (λ x. tells.went ++ x) says.left ∙ sym (append_assoc tells.went says.went (left_of now));
              })
              | inr off ↦ inr (record {
                nowhere = off.nowhere;
                went = off.went ++ says.went;
                text = off.text ∙ ap (λ x. off.went ++ x) says.left ∙ sym (append_assoc off.went says.went (left_of now));
              })
            ]) in
            ((λ goes. now_has), now_has),
      )

  pub turn_answered : (ends ends2 : Ends) (next : Next) (was now : Peer) (old new : Served S) → IsServed store before old → (HasCleanDisk (state store last) → IsClean store new) → TakesTurn store ends ends2 next was now old new → Answered next was now old new
  turn_answered ends ends2 next (Http was) (Http now) old new served clean is = http_answered next was now old new is.0
  turn_answered ends ends2 next (Pages was) (Pages now) old new served clean is = pages_answered next was now old new served clean is.0
  turn_answered ends ends2 next (Desk was) (Desk now) old new served clean is = desk_answered next was now old new served clean is.0
  turn_answered ends ends2 next (Lines was) (Lines now) old new served clean is = line_peer_answered ends ends2 next was now old new served clean is
  turn_answered ends ends2 next (Last was) (Last now) old new served clean is = last_answered ends ends2 next was now old new is.0 is.1
  turn_answered ends ends2 next (Http was) (Pages now) old new served clean is = absurd is
  turn_answered ends ends2 next (Http was) (Desk now) old new served clean is = absurd is
  turn_answered ends ends2 next (Desk was) (Pages now) old new served clean is = absurd is
  turn_answered ends ends2 next (Pages was) (Http now) old new served clean is = absurd is
  turn_answered ends ends2 next (Desk was) (Http now) old new served clean is = absurd is
  turn_answered ends ends2 next (Pages was) (Desk now) old new served clean is = absurd is
  turn_answered ends ends2 next (Pages was) (Lines now) old new served clean is = absurd is
  turn_answered ends ends2 next (Desk was) (Lines now) old new served clean is = absurd is
  turn_answered ends ends2 next (Pages was) (Last now) old new served clean is = absurd is
  turn_answered ends ends2 next (Desk was) (Last now) old new served clean is = absurd is
  turn_answered ends ends2 next (Lines was) (Pages now) old new served clean is = absurd is
  turn_answered ends ends2 next (Lines was) (Desk now) old new served clean is = absurd is
  turn_answered ends ends2 next (Last was) (Pages now) old new served clean is = absurd is
  turn_answered ends ends2 next (Last was) (Desk now) old new served clean is = absurd is
  turn_answered ends ends2 next (Http was) (Lines now) old new served clean is = absurd is
  turn_answered ends ends2 next (Http was) (Last now) old new served clean is = absurd is
  turn_answered ends ends2 next (Lines was) (Http now) old new served clean is = absurd is
  turn_answered ends ends2 next (Lines was) (Last now) old new served clean is = absurd is
  turn_answered ends ends2 next (Last was) (Http now) old new served clean is = absurd is
  turn_answered ends ends2 next (Last was) (Lines now) old new served clean is = absurd is

  -- ---- what one turn is told

  log_grown : (shares : Bool) (old new : Served S) (c : Continues store old new) → shares_of old ≡ shares → log_of shares new ≡ log_of shares old ++ applied c.more
  log_grown true old new c is = let notes : Notes true c.more old new = subst (λ b. Notes b c.more old new) is c.notes in (λ i. kept_in (notes.0 i) ++ notes.1 i) ∙ sym (append_assoc (journal_of old) (open_of old) (applied c.more))
  log_grown false old new c is = grown_alone c.more old new (subst (λ b. Notes b c.more old new) is c.notes).0

  log_is : (shares : Bool) (old : Served S) → shares_of old ≡ shares → IsJournal (log_of shares old) old
  log_is true old is = λ alone. absurd (true≢false (sym is ∙ alone))
  log_is false old is = λ _. refl

  lines_now : (shares : Bool) (ends ends2 : Ends) (next : Next) (was now : LinePeer) (old new : Served S) → IsServed store before old → (HasCleanDisk (state store last) → IsClean store new) → shares_of old ≡ shares → lines.TakesTurn store ends ends2 next was now old new
      → TellsLinesNow store (store_of before) last shares (next ≢ Close) (lines_of was) (lines_of now) (length (log_of shares old)) (log_of shares new)
  lines_now shares ends ends2 next was now old new served clean same (inl drops) = record {
    calls = [];
    came = [];
    went = [];
    waits = output_of (lines_of was);
    input = append-nil (input_of (lines_of was)) ∙ sym (ap input_of drops.3);
    output = append-nil (output_of (lines_of was));
    received = ap received_of drops.3 ∙ sym (append-nil (received_of (lines_of was)));
    sent = ap sent_of drops.3 ∙ sym (append-nil (sent_of (lines_of was)));
    all_waits = λ stays. sym (ap output_of drops.3);
    places = [];
    answered = refl;
  }
  lines_now shares ends ends2 next was now old new served clean same (inr (waits, is, goes)) =
      let told = lines_told shares (side_of (lines_of was)) is.calls old new served clean same is.chain in
      let its : List ℕ = places_from (length (log_of shares old)) (applied told.0.more) in
      record {
        calls = is.calls;
        came = is.came;
        went = is.went;
        waits = waits;
        input = is.input;
        output = is.output;
        received = is.received;
        sent = is.sent;
        all_waits = goes;
        places = its;
        answered = subst (λ (log : List Told). AnswersLinesNow store (store_of before) last shares (side_of (lines_of was)) is.calls (length (log_of shares old)) its log) (sym (log_grown shares old new told.0 same)) (told.1 (log_of shares old) (log_is shares old same));
      }

  pages_now : (shares : Bool) (was now : HttpPeer) (old new : Served S) → IsServed store before old → (HasCleanDisk (state store last) → IsClean store new) → shares_of old ≡ shares → http.CallsService (web.Answers store) was now old new → TellsPagesNow store (store_of before) last shares was now (length (log_of shares old)) (log_of shares new)
  pages_now shares was now old new served clean same is =
      let told = pages_told shares is.0 old new served clean same is.2 in
      let its : List ℕ = places_from (length (log_of shares old)) (applied told.0.more) in
      record {
        calls = is.0;
        more = is.1;
        places = its;
        answered = subst (λ (log : List Told). AnswersPagesNow store (store_of before) last shares is.0 (length (log_of shares old)) its log) (sym (log_grown shares old new told.0 same)) (told.1 (log_of shares old) (log_is shares old same));
      }

  desk_now : (shares : Bool) (was now : HttpPeer) (old new : Served S) → IsServed store before old → (HasCleanDisk (state store last) → IsClean store new) → shares_of old ≡ shares → http.CallsService (desk.Answers store) was now old new → TellsDeskNow store (store_of before) last shares was now (length (log_of shares old)) (log_of shares new)
  desk_now shares was now old new served clean same is =
      let told = desk_tolds shares is.0 old new served clean same is.2 in
      let its : List ℕ = places_from (length (log_of shares old)) (applied told.0.more) in
      record {
        calls = is.0;
        more = is.1;
        places = its;
        answered = subst (λ (log : List Told). AnswersDeskNow store (store_of before) last shares is.0 (length (log_of shares old)) its log) (sym (log_grown shares old new told.0 same)) (told.1 (log_of shares old) (log_is shares old same));
      }

  pub turn_tells : (shares : Bool) (ends ends2 : Ends) (next : Next) (was now : Peer) (old new : Served S) → IsServed store before old → (HasCleanDisk (state store last) → IsClean store new) → shares_of old ≡ shares → TakesTurn store ends ends2 next was now old new → TellsNow store (store_of before) last shares (next ≢ Close) was now old new
  turn_tells shares ends ends2 next (Lines was) (Lines now) old new served clean same is = lines_now shares ends ends2 next was now old new served clean same is
  turn_tells shares ends ends2 next (Pages was) (Pages now) old new served clean same is = pages_now shares was now old new served clean same is.0
  turn_tells shares ends ends2 next (Desk was) (Desk now) old new served clean same is = desk_now shares was now old new served clean same is.0
  turn_tells shares ends ends2 next (Http was) now old new served clean same is = tt
  turn_tells shares ends ends2 next (Last was) now old new served clean same is = tt
  turn_tells shares ends ends2 next (Lines was) (Http now) old new served clean same is = tt
  turn_tells shares ends ends2 next (Lines was) (Pages now) old new served clean same is = tt
  turn_tells shares ends ends2 next (Lines was) (Desk now) old new served clean same is = tt
  turn_tells shares ends ends2 next (Lines was) (Last now) old new served clean same is = tt
  turn_tells shares ends ends2 next (Pages was) (Http now) old new served clean same is = tt
  turn_tells shares ends ends2 next (Desk was) (Http now) old new served clean same is = tt
  turn_tells shares ends ends2 next (Pages was) (Desk now) old new served clean same is = tt
  turn_tells shares ends ends2 next (Desk was) (Pages now) old new served clean same is = tt
  turn_tells shares ends ends2 next (Pages was) (Lines now) old new served clean same is = tt
  turn_tells shares ends ends2 next (Desk was) (Lines now) old new served clean same is = tt
  turn_tells shares ends ends2 next (Pages was) (Last now) old new served clean same is = tt
  turn_tells shares ends ends2 next (Desk was) (Last now) old new served clean same is = tt
