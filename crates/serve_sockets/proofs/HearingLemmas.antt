-- Whoever waits to hear of a round asked in that one.
use Rattle.std.proofs.Common.{◌≡◌, ℕ, Bool, true, false, not, is_some, List, [], ◌∷◌, ◌++◌, Option, None, Some, refl, sym, ap, ◌∙◌, subst, inl, inr, append_assoc}
use Rattle.std.proofs.lemmas.Bool.{cases_eq, true≢false}
use Rattle.std.proofs.lemmas.List.{map-append}
use Rattle.std.proofs.lemmas.List.Elements.{All-append, All-contains, All-contains_itself, All-nil, All-weaker, Contains-append_left, Contains-append_right}
use Rattle.std.specs.Bool.{⊤}
use Rattle.std.specs.List.{All, Contains}
use Rattle.slab.specs.Slab.{Slab, get}
use Rattle.sqlite_trees.specs.declared.store.Store.{Ghosts}
use Rattle.serve_peers.specs.Journals.{Notes, Round, Told, applied, by_themselves, is_lost_of, list_of, open_of, round_alone, rounds_of, shares_of}
use Rattle.serve_peers.specs.Turns.{Continues}
use Rattle.serve_peers.specs.declared.entry.Entry.{Entry}
use Rattle.serve_peers.specs.Space.{spare_of}
use Rattle.serve_peers.specs.declared.served.Served.{Served}
use Rattle.serve_peers.specs.declared.step.Next.{Next}
use Rattle.serve_peers.specs.declared.step.Turn.{Turn}
use Rattle.serve_sockets.proofs.Drives.{again_continues, turn_continues}
use Rattle.serve_sockets.proofs.HallSteps.{new_waits_not, served_waits_not}
use Rattle.serve_sockets.specs.Guests.{Turns, asked_in, in_round, is_waiting, of_socket}
use Rattle.serve_sockets.specs.Halls.{Ask, Begin, Does, DoesAll, Drop, Enter, IsAtMoment, Keep, Leave, MayGo, Serve, Serves, Settle, SettlesRound, Step}
use Rattle.serve_sockets.specs.Hearing.{AlwaysHear, StandsInRound, entries_of}
use Rattle.serve_sockets.specs.declared.guest.Guest.{Guest}

pub none_asked : (asked : Option Entry) → is_some asked ≡ false → list_of asked ≡ []
none_asked None none = refl
none_asked (Some entry) none = absurd (true≢false none)

module _ {S : Type 0} where
  -- what it asked stands in that round
  abbrev Hears : Option Guest → Served S → Type 0
  Hears None served = ⊤
  Hears (Some guest) served = All (λ entry. StandsInRound (shares_of served) entry served) (asked_in guest)

  abbrev AllHear : Slab Guest → Served S → Type 0
  AllHear guests served = (key : ℕ) → Hears (get guests key) served

  -- who does not wait has nothing to hear of
  nothing_to_hear : (slot : Option Guest) (served : Served S) → is_waiting slot ≡ false → Hears slot served
  nothing_to_hear None served none = tt
  nothing_to_hear (Some guest) served none = subst (λ (asked : List Entry). All (λ entry. StandsInRound (shares_of served) entry served) asked) (sym (none_asked guest.asked none)) (All-nil (λ entry. StandsInRound (shares_of served) entry served))

  -- what stands in the round before does so afterwards
  abbrev Keeps : (old new : Served S) → Type 0
  Keeps old new = (entry : Entry) → StandsInRound (shares_of old) entry old → StandsInRound (shares_of new) entry new

  -- the rounds are the same
  alike : (shares : Bool) (entry : Entry) (old new : Served S) → open_of new ≡ open_of old → rounds_of new ≡ rounds_of old → is_lost_of new ≡ is_lost_of old → StandsInRound shares entry old → StandsInRound shares entry new
  alike true entry old new left over lost stands = subst (λ (asked : List Told). Contains (entries_of asked) entry) (sym left) stands
  alike false entry old new left over lost stands =
      let with_end : Bool → List Round = λ b. stands.0 ++ (stands.1, not b) ∷ by_themselves stands.2 in
      (stands.0, stands.1, stands.2, over ∙ stands.3 ∙ ap with_end (sym lost), stands.4)

  hears_still : (slot : Option Guest) (old new : Served S) → Keeps old new → Hears slot old → Hears slot new
  hears_still None old new keeps hears = tt
  hears_still (Some guest) old new keeps hears = All-weaker (λ entry. StandsInRound (shares_of old) entry old) (λ entry. StandsInRound (shares_of new) entry new) keeps (asked_in guest) hears

  hears_as : (was now : Option Guest) (served : Served S) → now ≡ was → Hears was served → Hears now served
  hears_as was now served same hears = subst (λ (slot : Option Guest). Hears slot served) (sym same) hears

  hears_left : (was now : Option Guest) (served : Served S) → MayGo was now → Hears was served → Hears now served
  hears_left was now served (inl kept) hears = hears_as was now served kept hears
  hears_left was now served (inr gone) hears = hears_as None now served gone tt

  -- ---- what is noted

  stands_noted : (shares : Bool) (more : List (Option Told)) (entry : Entry) (old new : Served S) → Notes shares more old new → is_lost_of new ≡ is_lost_of old → StandsInRound shares entry old → StandsInRound shares entry new
  stands_noted true more entry old new notes lost stands =
      subst (λ (asked : List Entry). Contains asked entry) (sym (ap entries_of notes.1 ∙ map-append (λ (told : Told). told.0) (open_of old) (applied more))) (Contains-append_left (entries_of (open_of old)) (entries_of (applied more)) entry stands)
  stands_noted false more entry old new notes lost stands =
      let round : Bool → Round = λ b. (stands.1, not b) in (
        stands.0,
        stands.1,
        stands.2 ++ more,
        notes.0 ∙ ap (λ x. x ++ by_themselves more) stands.3 ∙ append_assoc stands.0 (round (is_lost_of old) ∷ by_themselves stands.2) (by_themselves more)
            ∙ ap (λ x. stands.0 ++ round (is_lost_of old) ∷ x) (sym (map-append round_alone stands.2 more))
            ∙ ap (λ b. stands.0 ++ round b ∷ by_themselves (stands.2 ++ more)) (sym lost),
        stands.4,
      )

module _ {S : Type 0} (store : Ghosts S) where
  continues_keeps : (old new : Served S) → Continues store old new → Keeps old new
  continues_keeps old new is entry stands =
      subst (λ b. StandsInRound b entry new) (sym is.shares) (stands_noted (shares_of old) is.more entry old new is.notes is.is_lost stands)

  same_keeps : (old new : Served S) → new ≡ old → Keeps old new
  same_keeps old new same entry stands = subst (λ (served : Served S). StandsInRound (shares_of served) entry served) (sym same) stands

  -- the moment is no matter of rounds
  moment_keeps : (old new : Served S) → IsAtMoment old new → Keeps old new
  moment_keeps old new at entry stands = same_keeps (record old { moment = at.0; spare = spare_of new }) new at.1 entry (alike (shares_of old) entry old (record old { moment = at.0; spare = spare_of new }) refl refl refl stands)

  -- what is kept with a peer is no matter of rounds
  without_asked : (old new : Served S) → new ≡ record old { asked = None } → Keeps old new
  without_asked old new same entry stands = same_keeps (record old { asked = None }) new same entry (alike (shares_of old) entry old (record old { asked = None }) refl refl refl stands)

  -- ---- turns

  turn_keeps : (shares : Bool) (turn : Turn) (next : Next) (guest left : Guest) (old new : Served S) → Turns store shares turn next guest left old new → Keeps old new
  turn_keeps false turn next guest left old new turns = λ entry stands.
      continues_keeps turns.mid new (turn_continues store of_socket of_socket next _ _ turns.mid new turns.takes) entry (continues_keeps old turns.mid (again_continues store _ _ _ _ old turns.mid turns.again) entry stands)
  turn_keeps true turn next guest left old new turns = λ entry stands.
      let begun : Served S = record old { asked = guest.asked } in
      let first : StandsInRound (shares_of begun) entry begun = alike (shares_of old) entry old begun refl refl refl stands in
      let then_stands = continues_keeps begun turns.left (turn_continues store in_round in_round next _ _ begun turns.left turns.takes) entry first in
      without_asked turns.left new turns.same entry then_stands

  serves_keeps : (was now : Option Guest) (old new : Served S) → Serves store was now old new → Keeps old new
  serves_keeps None now old new (told, vacant) = moment_keeps old new vacant.1
  serves_keeps (Some guest) now old new (Some told, (driven, at, by)) = λ entry stands. turn_keeps (shares_of driven.begun) driven.turn driven.next guest driven.left driven.begun new driven.driven entry (moment_keeps old driven.begun driven.moment entry stands)
  serves_keeps (Some guest) now old new (None, gone) = same_keeps old new gone.1

  -- what it asked before, and what it asks now, stands in the round that is under way
  asks_in_round : (guest left : Guest) (old mid : Served S) (more : List (Option Told)) → Notes true more (record old { asked = guest.asked }) mid → left.asked ≡ mid.asked → All (λ entry. Contains (entries_of (open_of old)) entry) (asked_in guest) → All (λ entry. Contains (entries_of (open_of mid)) entry) (asked_in left)
  asks_in_round guest left old mid more notes asked hears =
      let all : List Entry = entries_of (open_of old) ++ entries_of (applied more) in
      let grown : entries_of (open_of mid) ≡ all = ap entries_of notes.1 ∙ map-append (λ (told : Told). told.0) (open_of old) (applied more) in
      let before : All (λ entry. Contains all entry) (asked_in guest) = All-weaker (λ entry. Contains (entries_of (open_of old)) entry) (λ entry. Contains all entry) (λ entry is. Contains-append_left (entries_of (open_of old)) (entries_of (applied more)) entry is) (asked_in guest) hears in
      let after : All (λ entry. Contains all entry) (entries_of (applied more)) = All-weaker (λ entry. Contains (entries_of (applied more)) entry) (λ entry. Contains all entry) (λ entry is. Contains-append_right (entries_of (open_of old)) (entries_of (applied more)) entry is) (entries_of (applied more)) (All-contains_itself (entries_of (applied more))) in
      let both : All (λ entry. Contains all entry) (asked_in guest ++ entries_of (applied more)) = All-append (λ entry. Contains all entry) (asked_in guest) (entries_of (applied more)) before after in
      subst (λ (xs : List Entry). All (λ entry. Contains (entries_of (open_of mid)) entry) xs) (sym (ap (λ (asked : Option Entry). list_of asked) asked ∙ notes.2)) (subst (λ (xs : List Entry). All (λ entry. Contains xs entry) (asked_in guest ++ entries_of (applied more))) (sym grown) both)

  turn_hears : (shares : Bool) (turn : Turn) (next : Next) (guest left : Guest) (old new : Served S) → shares ≡ true → shares_of old ≡ true → Turns store shares turn next guest left old new → Hears (Some guest) old → Hears (Some left) new
  turn_hears false turn next guest left old new is shared turns hears = absurd (true≢false (sym is))
  turn_hears true turn next guest left old new is shared turns hears =
      let begun : Served S = record old { asked = guest.asked } in
      let on = turn_continues store in_round in_round next _ _ begun turns.left turns.takes in
      let notes : Notes true on.more begun turns.left = subst (λ b. Notes b on.more begun turns.left) shared on.notes in
      let there = asks_in_round guest left old turns.left on.more notes turns.asked (subst (λ b. All (λ entry. StandsInRound b entry old) (asked_in guest)) shared hears) in
      let still : All (λ entry. StandsInRound (shares_of turns.left) entry turns.left) (asked_in left) = subst (λ b. All (λ entry. StandsInRound b entry turns.left) (asked_in left)) (sym (on.shares ∙ shared)) there in
      All-weaker (λ entry. StandsInRound (shares_of turns.left) entry turns.left) (λ entry. StandsInRound (shares_of new) entry new) (without_asked turns.left new turns.same) (asked_in left) still

  ask_hears : (was now : Option Guest) (old new : Served S) → shares_of old ≡ true → Serves store was now old new → Hears was old → Hears now new
  ask_hears None now old new shared (told, vacant) hears = hears_as None now new vacant.0 tt
  ask_hears (Some guest) now old new shared (None, gone) hears = hears_as None now new gone.0 tt
  ask_hears (Some guest) now old new shared (Some told, (driven, at, by)) hears =
      let begun = ap (λ (served : Served S). shares_of served) driven.moment.1 ∙ shared in
      let there = turn_hears (shares_of driven.begun) driven.turn driven.next guest driven.left driven.begun new begun begun driven.driven (hears_still (Some guest) old driven.begun (moment_keeps old driven.begun driven.moment) hears) in
      elim driven.stays [
        | inl kept ↦ hears_as (Some driven.left) now new kept.1 there
        | inr gone ↦ hears_as None now new gone.1 tt
      ]

  -- ---- steps

  settle_keeps : (old new : Served S) → SettlesRound store old new → Keeps old new
  settle_keeps old new (inl none) = same_keeps old new none.1
  settle_keeps old new (inr settled) = λ entry stands.
      subst (λ b. StandsInRound b entry new) (sym (ap (λ (served : Served S). shares_of served) settled.same)) (rounds_of old, open_of old, [], settled.over, subst (λ b. StandsInRound b entry old) settled.shared stands)

  step_hears : (step : Step) (a b : Slab Guest) (old new : Served S) → Does store step a b old new → AllHear a old → AllHear b new
  step_hears Keep a b old new does hears = λ key. hears_as (get a key) (get b key) new (does.0 key) (hears_still (get a key) old new (continues_keeps old new does.1.0) (hears key))
  step_hears Begin a b old new does hears = λ key. nothing_to_hear (get b key) new (ap is_waiting (does.0 key) ∙ does.1 key)
  step_hears (Ask asks) a b old new does hears = λ key.
      elim (cases_eq key asks) [
        | inl same ↦ subst (λ (it : ℕ). Hears (get b it) new) (sym same) (ask_hears (get a asks) (get b asks) old new does.0 does.1 (hears asks))
        | inr differs ↦ hears_as (get a key) (get b key) new (does.2 key differs) (hears_still (get a key) old new (serves_keeps (get a asks) (get b asks) old new does.1) (hears key))
      ]
  step_hears Settle a b old new does hears = λ key. hears_as (get a key) (get b key) new (does.0 key) (hears_still (get a key) old new (settle_keeps old new does.1) (hears key))
  step_hears (Serve serves) a b old new does hears = λ key.
      elim (cases_eq key serves) [
        | inl same ↦ subst (λ (it : ℕ). Hears (get b it) new) (sym same) (nothing_to_hear (get b serves) new (served_waits_not store (get a serves) (get b serves) old new does.0 does.1))
        | inr differs ↦ hears_as (get a key) (get b key) new (does.2 key differs) (hears_still (get a key) old new (serves_keeps (get a serves) (get b serves) old new does.1) (hears key))
      ]
  step_hears (Drop drops) a b old new does hears = λ key.
      let now = hears_still (get a key) old new (same_keeps old new does.2) (hears key) in
      elim (cases_eq key drops) [
        | inl same ↦ hears_left (get a key) (get b key) new (subst (λ (it : ℕ). MayGo (get a it) (get b it)) (sym same) does.0) now
        | inr differs ↦ hears_as (get a key) (get b key) new (does.1 key differs) now
      ]
  step_hears (Enter doors) a b old new does hears = λ key.
      elim (does.0 key) [
        | inl same ↦ hears_as (get a key) (get b key) new same (hears_still (get a key) old new (same_keeps old new does.1) (hears key))
        | inr came ↦ nothing_to_hear (get b key) new (new_waits_not doors (get b key) came.1)
      ]
  step_hears Leave a b old new does hears = λ key. hears_left (get a key) (get b key) new (does.0 key) (hears_still (get a key) old new (same_keeps old new does.1) (hears key))

  all_hear : (steps : List Step) (a b : Slab Guest) (old new : Served S) → DoesAll store steps a b old new → AllHear a old → AllHear b new
  all_hear [] a b old new does hears = λ key. hears_as (get a key) (get b key) new (does.0 key) (hears_still (get a key) old new (same_keeps old new does.1) (hears key))
  all_hear (step ∷ steps) a b old new does hears = all_hear steps does.0 b does.1 new does.3 (step_hears step a does.0 old does.1 does.2 hears)

  pub always_hear : AlwaysHear store
  always_hear steps old new before after nobody does key guest entry there asked =
      let hears = all_hear steps old new before after does (λ it. nothing_to_hear (get old it) before (nobody it)) key in
      All-contains (λ it. StandsInRound (shares_of after) it after) (asked_in guest) entry (subst (λ (slot : Option Guest). Hears slot after) there hears) asked
