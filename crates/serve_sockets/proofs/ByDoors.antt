-- Whoever is there speaks what the door is for by which it came in.
use Rattle.std.proofs.Common.{◌≡◌, ℕ, zero, suc, Bool, true, false, List, [], ◌∷◌, slice_get, Option, None, Some, IsSomeAnd, if◌then◌else◌, refl, sym, ap, subst, ◌∙◌, inl, inr}
use Rattle.std.proofs.lemmas.Bool.{cases_eq, eq-eqb, ne_eqb}
use Rattle.slab.specs.Slab.{Slab, SameValues, get}
use Rattle.sqlite_trees.specs.declared.store.Store.{Ghosts}
use Rattle.serve_peers.specs.LinePeers as lines
use Rattle.serve_peers.specs.Lines.{side_of}
use Rattle.serve_peers.specs.Streams.{Ends}
use Rattle.serve_peers.specs.declared.entry.Entry.{Entry}
use Rattle.serve_peers.specs.declared.http_peer.HttpPeer.{HttpPeer}
use Rattle.serve_peers.specs.declared.line_peer.LinePeer.{LinePeer}
use Rattle.serve_peers.specs.declared.served.Served.{Served}
use Rattle.serve_peers.specs.declared.step.Next.{Next}
use Rattle.serve_peers.specs.declared.step.Turn.{Turn}
use Rattle.serve_sockets.specs.Doors.{IsByDoor, Speaks}
use Rattle.serve_sockets.specs.Guests.{AsksAgain, CameBy, IsNew, IsRefusedForSpace, StaysOrIsRefused, TakesTurn, Turns, in_round, of_socket, peer_of}
use Rattle.serve_sockets.specs.Halls.{AllEnterBy, AreOthersKept, Ask, Begin, Does, DoesAll, Drop, Enter, EntersBy, Keep, Leave, MayGo, OnlyEnter, OnlyLeave, Serve, Serves, Settle, Step}
use Rattle.serve_sockets.specs.Visits.{Before, Course, IsVisit, LetsGo, OfStep, Over, There, TurnsAnother, Visit, left_by, left_in, left_of_turn}
use Rattle.serve_sockets.specs.declared.doors.Speech.{Speech}
use Rattle.serve_sockets.specs.declared.doors.Speech.TheVariants as speech_is
use Rattle.serve_sockets.specs.declared.guest.Guest.{Guest}
use Rattle.serve_sockets.specs.declared.guest.Peer.{Peer}
use Rattle.serve_sockets.specs.declared.guest.Peer.TheVariants.{Desk, Http, Last, Lines, Pages}

-- ---- one guest

keeps_one : (doors : List Speech) (was now : Guest) → now.door ≡ was.door → ((speech : Speech) → Speaks (peer_of was) speech → Speaks (peer_of now) speech) → IsByDoor doors was → IsByDoor doors now
keeps_one doors was now door speaks (speech, at, is) = (speech, ap (λ place. slice_get doors place) door ∙ at, speaks speech is)

came_speaks : (speech : Speech) (peer : Peer) → CameBy speech peer → Speaks peer speech
came_speaks speech_is.Http (Http peer) is = tt
came_speaks speech_is.Pages (Pages peer) is = tt
came_speaks speech_is.Desk (Desk peer) is = tt
came_speaks (speech_is.Lines side) (Lines peer) is = is.side
came_speaks _ _ is = absurd is

http_speaks : (before after : HttpPeer) (speech : Speech) → Speaks (Http before) speech → Speaks (Http after) speech
http_speaks before after speech_is.Http is = tt
http_speaks before after speech_is.Pages is = absurd is
http_speaks before after speech_is.Desk is = absurd is
http_speaks before after (speech_is.Lines side) is = absurd is

desk_speaks : (before after : HttpPeer) (speech : Speech) → Speaks (Desk before) speech → Speaks (Desk after) speech
desk_speaks before after speech_is.Http is = absurd is
desk_speaks before after speech_is.Pages is = absurd is
desk_speaks before after speech_is.Desk is = tt
desk_speaks before after (speech_is.Lines side) is = absurd is

pages_speak : (before after : HttpPeer) (speech : Speech) → Speaks (Pages before) speech → Speaks (Pages after) speech
pages_speak before after speech_is.Http is = absurd is
pages_speak before after speech_is.Pages is = tt
pages_speak before after speech_is.Desk is = absurd is
pages_speak before after (speech_is.Lines side) is = absurd is

lines_speak : (before after : LinePeer) (speech : Speech) → side_of (lines.lines_of after) ≡ side_of (lines.lines_of before) → Speaks (Lines before) speech → Speaks (Lines after) speech
lines_speak before after speech_is.Http same is = absurd is
lines_speak before after speech_is.Pages same is = absurd is
lines_speak before after speech_is.Desk same is = absurd is
lines_speak before after (speech_is.Lines side) same is = same ∙ is

refused_speaks : (begun : Peer) (speech : Speech) → IsRefusedForSpace begun → Speaks begun speech
refused_speaks (Last peer) speech is = tt
refused_speaks (Http peer) speech is = absurd is
refused_speaks (Pages peer) speech is = absurd is
refused_speaks (Desk peer) speech is = absurd is
refused_speaks (Lines peer) speech is = absurd is

stays_speak : (most : ℕ) (before begun : Peer) (speech : Speech) → StaysOrIsRefused most before begun → Speaks before speech → Speaks begun speech
stays_speak most before begun speech (inl same) is = subst (λ (peer : Peer). Speaks peer speech) (sym same) is
stays_speak most before begun speech (inr refused) is = refused_speaks begun speech refused.1

none_some : (slot : Option Guest) (guest : Guest) → slot ≡ None → slot ≡ Some guest → ⊥
none_some slot guest none some = let no : None ≡ Some guest = sym none ∙ some in cc

some_is : (slot : Option Guest) (one other : Guest) → slot ≡ Some one → slot ≡ Some other → one ≡ other
some_is slot one other first second = let same : Some one ≡ Some other = sym first ∙ second in cc

-- ---- all of them

abbrev AreByDoors : (doors : List Speech) → Slab Guest → Type 0
AreByDoors doors guests = (key : ℕ) (guest : Guest) → get guests key ≡ Some guest → IsByDoor doors guest

nobody_by : (doors : List Speech) (guests : Slab Guest) → ((key : ℕ) → get guests key ≡ None) → AreByDoors doors guests
nobody_by doors guests empty key guest there = absurd (none_some (get guests key) guest (empty key) there)

same_by : (doors : List Speech) (a b : Slab Guest) → SameValues a b → AreByDoors doors a → AreByDoors doors b
same_by doors a b same are key guest there = are key guest (sym (same key) ∙ there)

may_go_by : (doors : List Speech) (was now : Option Guest) → MayGo was now → ((guest : Guest) → was ≡ Some guest → IsByDoor doors guest) → (guest : Guest) → now ≡ Some guest → IsByDoor doors guest
may_go_by doors was now (inl kept) are guest there = are guest (sym kept ∙ there)
may_go_by doors was now (inr gone) are guest there = absurd (none_some now guest gone there)

leaves_by : (doors : List Speech) (a b : Slab Guest) → OnlyLeave a b → AreByDoors doors a → AreByDoors doors b
leaves_by doors a b leave are key guest there = may_go_by doors (get a key) (get b key) (leave key) (are key) guest there

new_by : (doors : List Speech) (slot : Option Guest) (guest : Guest) → IsSomeAnd slot (IsNew doors) → slot ≡ Some guest → IsByDoor doors guest
new_by doors None guest is there = absurd is
new_by doors (Some came) guest is there =
    subst (λ (it : Guest). IsByDoor doors it) (some_is (Some came) came guest refl there) (is.0, is.4, came_speaks is.0 (peer_of came) is.1)

enters_by : (doors : List Speech) (a b : Slab Guest) → OnlyEnter doors a b → AreByDoors doors a → AreByDoors doors b
enters_by doors a b enter are key guest there =
    elim (enter key) [
      | inl same ↦ are key guest (sym same ∙ there)
      | inr came ↦ new_by doors (get b key) guest came.1 there
    ]

one_by : (doors : List Speech) (key : ℕ) (a b : Slab Guest) → ((guest : Guest) → get b key ≡ Some guest → IsByDoor doors guest) → AreOthersKept key a b → AreByDoors doors a → AreByDoors doors b
one_by doors key a b one others are other guest there =
    elim (cases_eq other key) [
      | inl same ↦ one guest (ap (get b) (sym same) ∙ there)
      | inr differs ↦ are other guest (sym (others other differs) ∙ there)
    ]

module _ {S : Type 0} (store : Ghosts S) where
  turn_speaks : (ends ends2 : Ends) (next : Next) (before after : Peer) (old new : Served S) → TakesTurn store ends ends2 next before after old new → (speech : Speech) → Speaks before speech → Speaks after speech
  turn_speaks ends ends2 next (Http before) (Http after) old new takes speech is = http_speaks before after speech is
  turn_speaks ends ends2 next (Pages before) (Pages after) old new takes speech is = pages_speak before after speech is
  turn_speaks ends ends2 next (Desk before) (Desk after) old new takes speech is = desk_speaks before after speech is
  turn_speaks ends ends2 next (Lines before) (Lines after) old new (inl drops) speech is = lines_speak before after speech (ap side_of drops.3) is
  turn_speaks ends ends2 next (Lines before) (Lines after) old new (inr takes) speech is = lines_speak before after speech takes.1.side is
  turn_speaks ends ends2 next (Last before) (Last after) old new takes speech is = tt
  turn_speaks ends ends2 next (Http before) (Pages after) old new takes speech is = absurd takes
  turn_speaks ends ends2 next (Http before) (Desk after) old new takes speech is = absurd takes
  turn_speaks ends ends2 next (Desk before) (Pages after) old new takes speech is = absurd takes
  turn_speaks ends ends2 next (Http before) (Lines after) old new takes speech is = absurd takes
  turn_speaks ends ends2 next (Http before) (Last after) old new takes speech is = absurd takes
  turn_speaks ends ends2 next (Pages before) (Http after) old new takes speech is = absurd takes
  turn_speaks ends ends2 next (Desk before) (Http after) old new takes speech is = absurd takes
  turn_speaks ends ends2 next (Pages before) (Desk after) old new takes speech is = absurd takes
  turn_speaks ends ends2 next (Pages before) (Lines after) old new takes speech is = absurd takes
  turn_speaks ends ends2 next (Desk before) (Lines after) old new takes speech is = absurd takes
  turn_speaks ends ends2 next (Pages before) (Last after) old new takes speech is = absurd takes
  turn_speaks ends ends2 next (Desk before) (Last after) old new takes speech is = absurd takes
  turn_speaks ends ends2 next (Lines before) (Http after) old new takes speech is = absurd takes
  turn_speaks ends ends2 next (Lines before) (Pages after) old new takes speech is = absurd takes
  turn_speaks ends ends2 next (Lines before) (Desk after) old new takes speech is = absurd takes
  turn_speaks ends ends2 next (Lines before) (Last after) old new takes speech is = absurd takes
  turn_speaks ends ends2 next (Last before) (Http after) old new takes speech is = absurd takes
  turn_speaks ends ends2 next (Last before) (Pages after) old new takes speech is = absurd takes
  turn_speaks ends ends2 next (Last before) (Desk after) old new takes speech is = absurd takes
  turn_speaks ends ends2 next (Last before) (Lines after) old new takes speech is = absurd takes

  again_speaks : (lost : Bool) (asked : List Entry) (before begun : Peer) (old mid : Served S) → AsksAgain store lost asked before begun old mid → (speech : Speech) → Speaks before speech → Speaks begun speech
  again_speaks true (entry ∷ more) before (Last begun) old mid again speech is = tt
  again_speaks true (entry ∷ more) before (Http begun) old mid again speech is = absurd again
  again_speaks true (entry ∷ more) before (Pages begun) old mid again speech is = absurd again
  again_speaks true (entry ∷ more) before (Desk begun) old mid again speech is = absurd again
  again_speaks true (entry ∷ more) before (Lines begun) old mid again speech is = absurd again
  again_speaks true [] before begun old mid again speech is = stays_speak _ before begun speech again.0 is
  again_speaks false asked before begun old mid again speech is = stays_speak _ before begun speech again.0 is

  turns_by : (doors : List Speech) (shares : Bool) (turn : Turn) (next : Next) (guest left : Guest) (old new : Served S) → Turns store shares turn next guest left old new → IsByDoor doors guest → IsByDoor doors left
  turns_by doors false turn next guest left old new turns is =
      keeps_one doors guest left turns.door (λ speech speaks. turn_speaks of_socket of_socket next turns.begun (peer_of left) turns.mid new turns.takes speech (again_speaks _ _ (peer_of guest) turns.begun old turns.mid turns.again speech speaks)) is
  turns_by doors true turn next guest left old new turns is =
      keeps_one doors guest left turns.door (λ speech speaks. turn_speaks in_round in_round next (peer_of guest) (peer_of left) (record old { asked = guest.asked }) turns.left turns.takes speech speaks) is

  serves_by : (doors : List Speech) (was now : Option Guest) (old new : Served S) → Serves store was now old new → ((guest : Guest) → was ≡ Some guest → IsByDoor doors guest) → (guest : Guest) → now ≡ Some guest → IsByDoor doors guest
  serves_by doors None now old new (told, vacant) are guest there = absurd (none_some now guest vacant.0 there)
  serves_by doors (Some was) now old new (Some told, (driven, at, by)) are guest there =
      elim driven.stays [
        | inl kept ↦ subst (λ (it : Guest). IsByDoor doors it) (some_is now driven.left guest kept.1 there) (turns_by doors _ driven.turn driven.next was driven.left driven.begun new driven.driven (are was refl))
        | inr gone ↦ absurd (none_some now guest gone.1 there)
      ]
  serves_by doors (Some was) now old new (None, gone) are guest there = absurd (none_some now guest gone.0 there)

  -- ---- one step after another

  step_by : (doors : List Speech) (step : Step) (a b : Slab Guest) (old new : Served S) → EntersBy doors step → Does store step a b old new → AreByDoors doors a → AreByDoors doors b
  step_by doors Keep a b old new by does are = same_by doors a b does.0 are
  step_by doors Begin a b old new by does are = same_by doors a b does.0 are
  step_by doors (Ask key) a b old new by does are = one_by doors key a b (serves_by doors (get a key) (get b key) old new does.1 (are key)) does.2 are
  step_by doors Settle a b old new by does are = same_by doors a b does.0 are
  step_by doors (Serve key) a b old new by does are = one_by doors key a b (serves_by doors (get a key) (get b key) old new does.1 (are key)) does.2 are
  step_by doors (Drop key) a b old new by does are = one_by doors key a b (may_go_by doors (get a key) (get b key) does.0 (are key)) does.1 are
  step_by doors (Enter these) a b old new by does are = enters_by doors a b (subst (λ (behind : List Speech). OnlyEnter behind a b) by does.0) are
  step_by doors Leave a b old new by does are = leaves_by doors a b does.0 are

  all_by : (doors : List Speech) (steps : List Step) (a b : Slab Guest) (old new : Served S) → AllEnterBy doors steps → DoesAll store steps a b old new → AreByDoors doors a → AreByDoors doors b
  all_by doors [] a b old new by does are = same_by doors a b does.0 are
  all_by doors (step ∷ steps) a b old new by does are = all_by doors steps does.0 b does.1 new by.1 does.3 (step_by doors step a does.0 old does.1 by.0 does.2 are)

  -- ---- who was let go, or went on as another

  left_by_door : (doors : List Speech) (was now : Option Guest) (old new : Served S) (serves : Serves store was now old new) → ((guest : Guest) → was ≡ Some guest → IsByDoor doors guest) → (guest : Guest) → left_by store was now old new serves ≡ Some guest → IsByDoor doors guest
  left_by_door doors None now old new (told, vacant) are guest is = absurd (none_some None guest refl is)
  left_by_door doors (Some was) now old new (Some told, (driven, at, by)) are guest is =
      subst (λ (it : Guest). IsByDoor doors it) (some_is (Some driven.left) driven.left guest refl is) (turns_by doors _ driven.turn driven.next was driven.left driven.begun new driven.driven (are was refl))
  left_by_door doors (Some was) now old new (None, gone) are guest is = are guest is

  left_of_turn_by : (doors : List Speech) (turner key : ℕ) (a b : Slab Guest) (old new : Served S) (serves : Serves store (get a turner) (get b turner) old new) → AreByDoors doors a → (guest : Guest) → left_of_turn store turner key a b old new serves ≡ Some guest → IsByDoor doors guest
  left_of_turn_by doors turner key a b old new serves are guest is =
      elim (cases_eq key turner) [
        | inl same ↦ left_by_door doors (get a turner) (get b turner) old new serves (are turner) guest (sym (ap (λ (own : Bool). if own then left_by store (get a turner) (get b turner) old new serves else get a key) (eq-eqb key turner same)) ∙ is)
        | inr differs ↦ are key guest (sym (ap (λ (own : Bool). if own then left_by store (get a turner) (get b turner) old new serves else get a key) (ne_eqb key turner differs)) ∙ is)
      ]

  left_in_by : (doors : List Speech) (step : Step) (key : ℕ) (a b : Slab Guest) (old new : Served S) (does : Does store step a b old new) → AreByDoors doors a → (guest : Guest) → left_in store step key a b old new does ≡ Some guest → IsByDoor doors guest
  left_in_by doors (Ask turner) key a b old new does are guest is = left_of_turn_by doors turner key a b old new does.1 are guest is
  left_in_by doors (Serve turner) key a b old new does are guest is = left_of_turn_by doors turner key a b old new does.1 are guest is
  left_in_by doors Keep key a b old new does are guest is = are key guest is
  left_in_by doors Begin key a b old new does are guest is = are key guest is
  left_in_by doors Settle key a b old new does are guest is = are key guest is
  left_in_by doors (Drop dropped) key a b old new does are guest is = are key guest is
  left_in_by doors (Enter these) key a b old new does are guest is = are key guest is
  left_in_by doors Leave key a b old new does are guest is = are key guest is

  over_by : (doors : List Speech) (key : ℕ) (guest : Guest) (n : ℕ) (steps : List Step) (a b : Slab Guest) (old new : Served S) (does : DoesAll store steps a b old new) → AllEnterBy doors steps → AreByDoors doors a → OfStep store (LetsGo store key guest) n steps a b old new does → IsByDoor doors guest
  over_by doors key guest n [] a b old new does by are is = absurd is
  over_by doors key guest zero (step ∷ steps) a b old new does by are is = left_in_by doors step key a does.0 old does.1 does.2 are guest is.0
  over_by doors key guest (suc n) (step ∷ steps) a b old new does by are is = over_by doors key guest n steps does.0 b does.1 new does.3 by.1 (step_by doors step a does.0 old does.1 by.0 does.2 are) is

  before_by : (doors : List Speech) (last : Served S) (key : ℕ) (guest : Guest) (n : ℕ) (steps : List Step) (a b : Slab Guest) (old new : Served S) (does : DoesAll store steps a b old new) → AllEnterBy doors steps → AreByDoors doors a → OfStep store (TurnsAnother store last key guest) n steps a b old new does → IsByDoor doors guest
  before_by doors last key guest n [] a b old new does by are is = absurd is
  before_by doors last key guest zero (step ∷ steps) a b old new does by are is = are key guest is.0
  before_by doors last key guest (suc n) (step ∷ steps) a b old new does by are is = before_by doors last key guest n steps does.0 b does.1 new does.3 by.1 (step_by doors step a does.0 old does.1 by.0 does.2 are) is

  -- each visit, at its end or as it is now
  pub visits_by : {guests : Slab Guest} {before after : Served S} (doors : List Speech) (course : Course store guests before after) → AllEnterBy doors course.steps → (visit : Visit) (guest : Guest) → IsVisit store course visit guest → IsByDoor doors guest
  visits_by {guests} {before} {after} doors course by (There key) guest is = all_by doors course.steps course.first guests before after by course.does (nobody_by doors course.first course.empty) key guest is
  visits_by {guests} {before} {after} doors course by (Over n key) guest is = over_by doors key guest n course.steps course.first guests before after course.does by (nobody_by doors course.first course.empty) is
  visits_by {guests} {before} {after} doors course by (Before n key) guest is = before_by doors after key guest n course.steps course.first guests before after course.does by (nobody_by doors course.first course.empty) is
