-- Who leaves and who comes in, and what goes on in a hall, one thing after another.
use Rattle.std.proofs.Common.{◌≡◌, ◌≢◌, ◌⊎◌, ◌+◌, ◌-◌, ◌≤◌, ℕ, suc, Bool, true, false, IsTrue, List, [], ◌∷◌, ◌++◌, map, slice_get, Option, None, Some, is_some, IsSomeAnd, Result, Ok, Err, IfOk, OnErr, refl, sym, ap, ◌∙◌, subst, inl, inr, arith}
use Rattle.std.proofs.lemmas.Bool.{cases_Bool, cases_eq, true≢false}
use Rattle.std.proofs.lemmas.Bool.Decides.{nat_tests}
use Rattle.std.proofs.lemmas.List.{map-append}
use Rattle.std.proofs.lemmas.List.Elements.{All-append, All-contains, All-nil, All-push, All-weaker, Contains-append_left, Contains-append_right, Contains-push, filter_map-append}
use Rattle.std.specs.List.{All, Contains}
use Rattle.std.specs.Option.{SomeIff}
use Rattle.mio.specs.Event.{event_token}
use Rattle.mio.specs.declared.event.event.Event.{Event}
use Rattle.slab.specs.Slab.{Slab, SameValues, Updates, get}
use Rattle.sqlite_trees.specs.declared.store.Store.{Ghosts}
use Rattle.serve_peers.specs.Journals.{list_of, moment_of, shares_of}
use Rattle.serve_peers.specs.Keeping.{OnlyKeeps}
use Rattle.serve_peers.specs.Rounds.{IsBegun, IsNotBegun, IsSettled}
use Rattle.serve_peers.specs.declared.entry.Entry.{Entry}
use Rattle.serve_peers.specs.declared.served.Served.{Served}
use Rattle.serve_peers.specs.declared.step.Next.{Next}
use Rattle.serve_peers.specs.declared.step.Next.TheVariants.{Close}
use Rattle.serve_peers.specs.declared.step.Turn.{Turn}
use Rattle.serve_sockets.proofs.Drives.{serves_shares}
use Rattle.serve_sockets.specs.Guests.{CameBy, IsNew, NobodyWaits, Turns, asked_in, is_waiting, peer_of, turns_of}
use Rattle.serve_sockets.specs.Halls.{AllEnterBy, AreOthersKept, Ask, Begin, BeginsRound, Does, DoesAll, Drop, Enter, GoesOn, IsAtMoment, IsDriven, IsServedFirst, IsSpared, Keep, Leave, MayGo, MayLeave, OnlyAsk, OnlyEnter, OnlyLeave, OnlyServe, Serve, Serves, ServesAt, ServesEach, ServesThose, Settle, SettlesRound, SharesRound, StaysAfter, Step, key_told, keys_told}
use Rattle.serve_sockets.specs.declared.doors.Speech.{Speech}
use Rattle.serve_sockets.specs.declared.clock.Reading.{Reading}
use Rattle.serve_sockets.specs.declared.guest.Guest.{Guest}
use Rattle.serve_sockets.specs.declared.guest.Peer.{Peer}
use Rattle.serve_sockets.specs.declared.hall.TheConstants.{MOST_DOORS}

-- ---- who leaves

-- the same guests
pub same_guests : (old new : Slab Guest) → new ≡ old → SameValues old new
same_guests old new is key = ap (λ (guests : Slab Guest). get guests key) is

pub nobody_leaves : (old new : Slab Guest) → SameValues old new → OnlyLeave old new
nobody_leaves old new same key = inl (same key)

pub one_leaves : (key : ℕ) (old new : Slab Guest) → get new key ≡ None → AreOthersKept key old new → OnlyLeave old new
one_leaves key old new gone others other =
    elim (cases_eq other key) [
      | inl same ↦ inr (ap (get new) same ∙ gone)
      | inr differs ↦ inl (others other differs)
    ]

pub leave_then : (a b c : Slab Guest) → OnlyLeave a b → OnlyLeave b c → OnlyLeave a c
leave_then a b c first later key =
    elim (later key) [
      | inl kept ↦ elim (first key) [
        | inl was ↦ inl (kept ∙ was)
        | inr gone ↦ inr (kept ∙ gone)
      ]
      | inr gone ↦ inr gone
    ]

-- who was the same before
pub may_go_after : (was mid now : Option Guest) → mid ≡ was → MayGo mid now → MayGo was now
may_go_after was mid now same may =
    elim may [
      | inl kept ↦ inl (kept ∙ same)
      | inr gone ↦ inr gone
    ]

-- ---- who comes in

pub nobody_enters : (doors : List Speech) (old new : Slab Guest) → SameValues old new → OnlyEnter doors old new
nobody_enters doors old new same key = inl (same key)

no_guest : (doors : List Speech) (slot : Option Guest) → slot ≡ None → IsSomeAnd slot (IsNew doors) → ⊥
no_guest doors None is some = some
no_guest doors (Some guest) is some = absurd (cc)

pub enter_then : (doors : List Speech) (a b c : Slab Guest) → OnlyEnter doors a b → OnlyEnter doors b c → OnlyEnter doors a c
enter_then doors a b c first later key =
    elim (later key) [
      | inl kept ↦ elim (first key) [
        | inl was ↦ inl (kept ∙ was)
        | inr came ↦ inr (came.0, subst (λ (slot : Option Guest). IsSomeAnd slot (IsNew doors)) (sym kept) came.1)
      ]
      | inr came ↦ elim (first key) [
        | inl was ↦ inr (sym was ∙ came.0, came.1)
        | inr before ↦ absurd (no_guest doors (get b key) came.0 before.1)
      ]
    ]

pub one_enters : (doors : List Speech) (key : ℕ) (old new : Slab Guest) (guest : Guest) → get old key ≡ None → get new key ≡ Some guest → IsNew doors guest → AreOthersKept key old new → OnlyEnter doors old new
one_enters doors key old new guest vacant there is others other =
    elim (cases_eq other key) [
      | inl same ↦ inr (ap (get old) same ∙ vacant, subst (λ (slot : Option Guest). IsSomeAnd slot (IsNew doors)) (sym (ap (get new) same ∙ there)) is)
      | inr differs ↦ inl (others other differs)
    ]

-- it came in by the door in this place
pub is_new : (doors : List Speech) (place : ℕ) (speech : Speech) (peer : Peer) (guest begun : Guest) → slice_get doors place ≡ Some speech → CameBy speech peer → peer_of begun ≡ peer → turns_of begun ≡ [] → asked_in begun ≡ [] → begun.door ≡ place → guest ≡ begun → IsNew doors guest
is_new doors place speech peer guest begun at came is none asked door same =
    subst (λ (it : Guest). IsNew doors it) (sym same) (speech, subst (λ (it : Peer). CameBy speech it) (sym is) came, none, asked, ap (λ (n : ℕ). slice_get doors n) door ∙ at)

-- an insert lets one in, or fails and changes nobody
pub inserted : {E : Type 0} → (doors : List Speech) (old new : Slab Guest) (guest : Guest) (r : Result ℕ E) → IsNew doors guest → IfOk r (λ key. get old key ≡ None) → IfOk r (λ key. Updates old new key (Some guest)) → OnErr r (new ≡ record old { capacity = new.capacity }) → OnlyEnter doors old new
inserted doors old new guest (Ok key) is vacant updates err = one_enters doors key old new guest vacant updates.changed is updates.others
inserted doors old new guest (Err e) is vacant updates err = λ key. inl (ap (λ (guests : Slab Guest). get guests key) err)

-- ---- who waits to hear of a round

none_there : (asked : Option Entry) → list_of asked ≡ [] → is_some asked ≡ false
none_there None none = refl
none_there (Some entry) none = absurd (cc)

waits_not : (guest : Guest) → asked_in guest ≡ [] → is_waiting (Some guest) ≡ false
waits_not guest none = none_there guest.asked none

pub new_waits_not : (doors : List Speech) (slot : Option Guest) → IsSomeAnd slot (IsNew doors) → is_waiting slot ≡ false
new_waits_not doors None is = refl
new_waits_not doors (Some guest) is = waits_not guest is.3

-- who does not wait now but for who did before
waits_before : (was now : Option Guest) → now ≡ was → IsTrue (is_waiting now) → IsTrue (is_waiting was)
waits_before was now same waits = sym (ap is_waiting same) ∙ waits

left_waits_before : (was now : Option Guest) → MayGo was now → IsTrue (is_waiting now) → IsTrue (is_waiting was)
left_waits_before was now may waits =
    elim may [
      | inl kept ↦ waits_before was now kept waits
      | inr gone ↦ absurd (true≢false (sym waits ∙ ap is_waiting gone))
    ]

nobody_before : (a b : Slab Guest) → SameValues a b → NobodyWaits b → NobodyWaits a
nobody_before a b same nobody key = ap is_waiting (sym (same key)) ∙ nobody key

pub nobody_as : (a b : Slab Guest) → SameValues a b → NobodyWaits a → NobodyWaits b
nobody_as a b same nobody key = ap is_waiting (same key) ∙ nobody key

pub nobody_entered : (doors : List Speech) (a b : Slab Guest) → OnlyEnter doors a b → NobodyWaits a → NobodyWaits b
nobody_entered doors a b enters nobody key =
    elim (enters key) [
      | inl same ↦ ap is_waiting same ∙ nobody key
      | inr came ↦ new_waits_not doors (get b key) came.1
    ]

pub nobody_left : (a b : Slab Guest) → OnlyLeave a b → NobodyWaits a → NobodyWaits b
nobody_left a b leave nobody key =
    elim (leave key) [
      | inl same ↦ ap is_waiting same ∙ nobody key
      | inr gone ↦ ap is_waiting gone
    ]

not_true : (b : Bool) → (IsTrue b → ⊥) → b ≡ false
not_true b never =
    elim (cases_Bool b) [
      | inl is ↦ absurd (never is)
      | inr is ↦ is
    ]

-- ---- who is served before anything else becomes of it

first_then : (key : ℕ) (steps more : List Step) → IsServedFirst key steps → IsServedFirst key (steps ++ more)
first_then key [] more is = absurd is
first_then key (Keep ∷ steps) more is = first_then key steps more is
first_then key (Begin ∷ steps) more is = first_then key steps more is
first_then key (Ask other ∷ steps) more is = first_then key steps more is
first_then key (Settle ∷ steps) more is = first_then key steps more is
first_then key (Serve other ∷ steps) more is =
    elim is [
      | inl here ↦ inl here
      | inr later ↦ inr (first_then key steps more later)
    ]
first_then key (Drop other ∷ steps) more is = (is.0, first_then key steps more is.1)
first_then key (Enter doors ∷ steps) more is = absurd is
first_then key (Leave ∷ steps) more is = absurd is

spared_then_first : (key : ℕ) (steps more : List Step) → IsSpared key steps → IsServedFirst key more → IsServedFirst key (steps ++ more)
spared_then_first key [] more is first = first
spared_then_first key (Keep ∷ steps) more is first = spared_then_first key steps more is first
spared_then_first key (Begin ∷ steps) more is first = spared_then_first key steps more is first
spared_then_first key (Ask other ∷ steps) more is first = spared_then_first key steps more is first
spared_then_first key (Settle ∷ steps) more is first = spared_then_first key steps more is first
spared_then_first key (Serve other ∷ steps) more is first =
    elim is [
      | inl here ↦ inl here
      | inr later ↦ inr (spared_then_first key steps more later first)
    ]
spared_then_first key (Drop other ∷ steps) more is first = (is.0, spared_then_first key steps more is.1 first)
spared_then_first key (Enter doors ∷ steps) more is first = absurd is
spared_then_first key (Leave ∷ steps) more is first = absurd is

spared_then : (key : ℕ) (steps more : List Step) → IsSpared key steps → IsSpared key more → IsSpared key (steps ++ more)
spared_then key [] more is later = later
spared_then key (Keep ∷ steps) more is later = spared_then key steps more is later
spared_then key (Begin ∷ steps) more is later = spared_then key steps more is later
spared_then key (Ask other ∷ steps) more is later = spared_then key steps more is later
spared_then key (Settle ∷ steps) more is later = spared_then key steps more is later
spared_then key (Serve other ∷ steps) more is later =
    elim is [
      | inl here ↦ inl here
      | inr rest ↦ inr (spared_then key steps more rest later)
    ]
spared_then key (Drop other ∷ steps) more is later = (is.0, spared_then key steps more is.1 later)
spared_then key (Enter doors ∷ steps) more is later = absurd is
spared_then key (Leave ∷ steps) more is later = absurd is

spared_by_turn : (key other : ℕ) → IsSpared other (Serve key ∷ Drop key ∷ [])
spared_by_turn key other =
    elim (cases_eq key other) [
      | inl same ↦ inl same
      | inr differs ↦ inr (differs, tt)
    ]

spared_by_asks : (key : ℕ) (asked : List ℕ) → IsSpared key (map Ask asked)
spared_by_asks key [] = tt
spared_by_asks key (other ∷ asked) = spared_by_asks key asked

only_serve_then : (steps more : List Step) → OnlyServe steps → OnlyServe more → OnlyServe (steps ++ more)
only_serve_then [] more is later = later
only_serve_then (Serve key ∷ steps) more is later = only_serve_then steps more is later
only_serve_then (Drop key ∷ steps) more is later = only_serve_then steps more is later
only_serve_then (Keep ∷ steps) more is later = absurd is
only_serve_then (Begin ∷ steps) more is later = absurd is
only_serve_then (Ask key ∷ steps) more is later = absurd is
only_serve_then (Settle ∷ steps) more is later = absurd is
only_serve_then (Enter doors ∷ steps) more is later = absurd is
only_serve_then (Leave ∷ steps) more is later = absurd is

-- ---- who comes in by which doors

enter_by_then : (doors : List Speech) (steps more : List Step) → AllEnterBy doors steps → AllEnterBy doors more → AllEnterBy doors (steps ++ more)
enter_by_then doors [] more by later = later
enter_by_then doors (step ∷ steps) more by later = (by.0, enter_by_then doors steps more by.1 later)

serve_by : (doors : List Speech) (steps : List Step) → OnlyServe steps → AllEnterBy doors steps
serve_by doors [] only = tt
serve_by doors (Serve key ∷ steps) only = (tt, serve_by doors steps only)
serve_by doors (Drop key ∷ steps) only = (tt, serve_by doors steps only)
serve_by doors (Keep ∷ steps) only = absurd only
serve_by doors (Begin ∷ steps) only = absurd only
serve_by doors (Ask key ∷ steps) only = absurd only
serve_by doors (Settle ∷ steps) only = absurd only
serve_by doors (Enter these ∷ steps) only = absurd only
serve_by doors (Leave ∷ steps) only = absurd only

-- a key above those of all that are served
above : List Step → ℕ
above [] = 0
above (Serve key ∷ steps) = suc (key + above steps)
above (Keep ∷ steps) = above steps
above (Begin ∷ steps) = above steps
above (Ask key ∷ steps) = above steps
above (Settle ∷ steps) = above steps
above (Drop key ∷ steps) = above steps
above (Enter doors ∷ steps) = above steps
above (Leave ∷ steps) = above steps

-- where nobody is let go who was not served, nobody comes in
spared_by : (doors : List Speech) (steps : List Step) (key : ℕ) → above steps ≤ key → IsSpared key steps → AllEnterBy doors steps
unfolding above
spared_by doors [] key high is = tt
spared_by doors (Serve other ∷ steps) key high (inl same) = absurd (omega (arith, high, same))
spared_by doors (Serve other ∷ steps) key high (inr is) = (tt, spared_by doors steps key (omega (arith, high)) is)
spared_by doors (Drop other ∷ steps) key high is = (tt, spared_by doors steps key high is.1)
spared_by doors (Keep ∷ steps) key high is = (tt, spared_by doors steps key high is)
spared_by doors (Begin ∷ steps) key high is = (tt, spared_by doors steps key high is)
spared_by doors (Ask other ∷ steps) key high is = (tt, spared_by doors steps key high is)
spared_by doors (Settle ∷ steps) key high is = (tt, spared_by doors steps key high is)
spared_by doors (Enter these ∷ steps) key high is = absurd is
spared_by doors (Leave ∷ steps) key high is = absurd is

-- ---- one thing after another

module _ {S : Type 0} (store : Ghosts S) where
  from_same_step : (step : Step) (a b c : Slab Guest) (before after : Served S) → SameValues a b → Does store step b c before after → Does store step a c before after
  from_same_step Keep a b c before after same is = (λ key. is.0 key ∙ same key, is.1)
  from_same_step Begin a b c before after same is = (λ key. is.0 key ∙ same key, nobody_before a b same is.1, is.2)
  from_same_step (Ask key) a b c before after same is = (is.0, subst (λ (was : Option Guest). Serves store was (get c key) before after) (same key) is.1, λ other differs. is.2 other differs ∙ same other)
  from_same_step Settle a b c before after same is = (λ key. is.0 key ∙ same key, is.1)
  from_same_step (Serve key) a b c before after same is = (is.0, subst (λ (was : Option Guest). Serves store was (get c key) before after) (same key) is.1, λ other differs. is.2 other differs ∙ same other)
  from_same_step (Drop key) a b c before after same is = (may_go_after (get a key) (get b key) (get c key) (same key) is.0, λ other differs. is.1 other differs ∙ same other, is.2)
  from_same_step (Enter doors) a b c before after same is = (enter_then doors a b c (nobody_enters doors a b same) is.0, is.1)
  from_same_step Leave a b c before after same is = (leave_then a b c (nobody_leaves a b same) is.0, is.1)

  from_same : (steps : List Step) (a b c : Slab Guest) (before after : Served S) → SameValues a b → DoesAll store steps b c before after → DoesAll store steps a c before after
  from_same [] a b c before after same is = (λ key. is.0 key ∙ same key, is.1)
  from_same (step ∷ steps) a b c before after same is = (is.0, is.1, from_same_step step a b is.0 before is.1 same is.2, is.3)

  all_then : (first more : List Step) (a b c : Slab Guest) (old mid new : Served S) → DoesAll store first a b old mid → DoesAll store more b c mid new → DoesAll store (first ++ more) a c old new
  all_then [] more a b c old mid new is later = from_same more a b c old new is.0 (subst (λ (served : Served S). DoesAll store more b c served new) is.1 later)
  all_then (step ∷ first) more a b c old mid new is later = (is.0, is.1, is.2, all_then first more is.0 b c is.1 mid new is.3 later)

  -- ---- who has a key

  pub let_go : (was now : Option Guest) (served : Served S) → now ≡ None → ServesAt store was None now served served
  let_go None now served gone = (gone, (moment_of served, refl))
  let_go (Some guest) now served gone = (gone, refl)

  pub nobody : (was : Option Guest) (told : Option Reading) (now : Option Guest) (old new : Served S) → was ≡ None → now ≡ None → IsAtMoment old new → ServesAt store was told now old new
  nobody was told now old new vacant is moment = subst (λ (slot : Option Guest). ServesAt store slot told now old new) (sym vacant) (is, moment)

  pub had_turn : (was : Option Guest) (told : Reading) (now : Option Guest) (guest : Guest) (old new : Served S) → was ≡ Some guest → (driven : IsDriven store guest now old new) → moment_of driven.begun ≡ told.moment → driven.turn.ticks ≡ told.ticks
      → ServesAt store was (Some told) now old new
  had_turn was told now guest old new there driven moment ticks = subst (λ (slot : Option Guest). ServesAt store slot (Some told) now old new) (sym there) (driven, moment, ticks)

  -- ---- steps

  pub same : (doors : List Speech) (a b : Slab Guest) (served : Served S) → SameValues a b → GoesOn store doors a b served served
  same doors a b served is = ([], (is, refl), (λ alone. alone), tt)

  pub then : (doors : List Speech) (a b c : Slab Guest) (old mid new : Served S) → GoesOn store doors a b old mid → GoesOn store doors b c mid new → GoesOn store doors a c old new
  then doors a b c old mid new first later =
      (first.0 ++ later.0, all_then first.0 later.0 a b c old mid new first.1 later.1, (λ alone. later.2 (first.2 alone)), enter_by_then doors first.0 later.0 first.3 later.3)

  -- the same, where the doors behind it are the same
  pub then_by : (doors these : List Speech) (a b c : Slab Guest) (old mid new : Served S) → these ≡ doors → GoesOn store doors a b old mid → GoesOn store these b c mid new → GoesOn store doors a c old new
  then_by doors these a b c old mid new same first later = then doors a b c old mid new first (subst (λ (behind : List Speech). GoesOn store behind b c mid new) same later)

  pub leaves : (doors : List Speech) (a b : Slab Guest) (served : Served S) → OnlyLeave a b → GoesOn store doors a b served served
  leaves doors a b served is = (Leave ∷ [], (b, served, (is, refl), (λ other. refl, refl)), (λ alone. alone), (tt, tt))

  -- what a backup asked for is done before what follows
  pub kept_first : (doors : List Speech) (a b : Slab Guest) (old mid new : Served S) → OnlyKeeps store old mid → GoesOn store doors a b mid new → GoesOn store doors a b old new
  kept_first doors a b old mid new keeps goes = (Keep ∷ goes.0, (a, mid, ((λ key. refl), keeps), goes.1), (λ alone. goes.2 (keeps.0.shares ∙ alone)), (tt, goes.3))

  pub kept_then_served : (doors : List Speech) (keys : List ℕ) (a b : Slab Guest) (old mid new : Served S) → OnlyKeeps store old mid → ServesThose store doors keys a b mid new → ServesThose store doors keys a b old new
  kept_then_served doors keys a b old mid new keeps serves = (Keep ∷ serves.0, (a, mid, ((λ key. refl), keeps), serves.1), (λ alone. serves.2 (keeps.0.shares ∙ alone)), serves.3, (tt, serves.4))

  pub enters : (doors : List Speech) (a b : Slab Guest) (served : Served S) → OnlyEnter doors a b → GoesOn store doors a b served served
  enters doors a b served is = (Enter doors ∷ [], (b, served, (is, refl), (λ other. refl, refl)), (λ alone. alone), (refl, tt))

  -- ---- a round

  begins_now : (old new : Served S) → (IsTrue (shares_of old) → new ≡ old) → (shares_of old ≡ false → IsBegun store old new ⊎ IsNotBegun store old new) → BeginsRound store old new
  begins_now old new under_way begins = elim (cases_Bool (shares_of old)) [
    | inl shared ↦ inl (shared, under_way shared)
    | inr alone ↦ inr (begins alone)
  ]

  settles_now : (old new : Served S) → (shares_of old ≡ false → new ≡ old) → (IsTrue (shares_of old) → IsSettled store old new) → SettlesRound store old new
  settles_now old new none settles = elim (cases_Bool (shares_of old)) [
    | inl shared ↦ inr (settles shared)
    | inr alone ↦ inl (alone, none alone)
  ]

  settled_alone : (old new : Served S) → SettlesRound store old new → shares_of new ≡ false
  settled_alone old new (inl (alone, same)) = ap (λ (served : Served S). shares_of served) same ∙ alone
  settled_alone old new (inr settled) = ap (λ (served : Served S). shares_of served) settled.same

  -- ---- who asks

  pub nobody_asks : (keys : List ℕ) (a : Slab Guest) (served : Served S) → OnlyAsk store keys a a served served
  nobody_asks keys a served = ([], All-nil (λ key. Contains keys key), ((λ key. refl), refl))

  pub one_asks : (keys : List ℕ) (key : ℕ) (a b : Slab Guest) (old new : Served S) → keys ≡ key ∷ [] → IsTrue (shares_of old) → Serves store (get a key) (get b key) old new → AreOthersKept key a b → OnlyAsk store keys a b old new
  one_asks keys key a b old new one shared is others =
      let there : Contains keys key = subst (λ (told : List ℕ). Contains told key) (sym one) (Contains-push [] key) in
      (key ∷ [], All-push (λ (it : ℕ). Contains keys it) [] key (All-nil (λ it. Contains keys it)) there, (b, new, (shared, is, others), ((λ other. refl), refl)))

  pub asks_then : (keys more : List ℕ) (a b c : Slab Guest) (old mid new : Served S) → OnlyAsk store keys a b old mid → OnlyAsk store more b c mid new → OnlyAsk store (keys ++ more) a c old new
  asks_then keys more a b c old mid new first later =
      let all : List ℕ = keys ++ more in
      let before : All (λ key. Contains all key) first.0 = All-weaker (λ key. Contains keys key) (λ key. Contains all key) (λ key is. Contains-append_left keys more key is) first.0 first.1 in
      let after : All (λ key. Contains all key) later.0 = All-weaker (λ key. Contains more key) (λ key. Contains all key) (λ key is. Contains-append_right keys more key is) later.0 later.1 in
      (first.0 ++ later.0, All-append (λ key. Contains all key) first.0 later.0 before after, subst (λ (steps : List Step). DoesAll store steps a c old new) (sym (map-append Ask first.0 later.0)) (all_then (map Ask first.0) (map Ask later.0) a b c old mid new first.2 later.2))

  -- who waits afterwards did before, or asked
  asked_waits : (asked : List ℕ) (a b : Slab Guest) (old new : Served S) → DoesAll store (map Ask asked) a b old new → (key : ℕ) → IsTrue (is_waiting (get b key)) → IsTrue (is_waiting (get a key)) ⊎ Contains asked key
  asked_waits [] a b old new is key waits = inl (waits_before (get a key) (get b key) (is.0 key) waits)
  asked_waits (other ∷ asked) a b old new is key waits =
      elim (cases_eq key other) [
        | inl same ↦ inr (subst (λ (it : ℕ). Contains (it ∷ asked) key) same (Contains-append_left (key ∷ []) asked key (Contains-push [] key)))
        | inr differs ↦ elim (asked_waits asked is.0 b is.1 new is.3 key waits) [
          | inl before ↦ inl (waits_before (get a key) (get is.0 key) (is.2.2 key differs) before)
          | inr there ↦ inr (Contains-append_right (other ∷ []) asked key there)
        ]
      ]

  -- it begins, some ask, and it is settled
  pub shared : (keys : List ℕ) (a b : Slab Guest) (old begun asked new : Served S) → (IsTrue (shares_of old) → begun ≡ old) → (shares_of old ≡ false → IsBegun store old begun ⊎ IsNotBegun store old begun)
      → OnlyAsk store keys a b begun asked → (shares_of asked ≡ false → new ≡ asked) → (IsTrue (shares_of asked) → IsSettled store asked new) → SharesRound store keys a b old new
  shared keys a b old begun asked new under_way begins asks none settles = λ nobody.
      let ends = settles_now asked new none settles in
      let steps : List Step = Begin ∷ map Ask asks.0 ++ Settle ∷ [] in
      let last : DoesAll store (Settle ∷ []) b b asked new = (b, new, ((λ key. refl), ends), ((λ key. refl), refl)) in (
        steps,
        (a, begun, ((λ key. refl), nobody, begins_now old begun under_way begins), all_then (map Ask asks.0) (Settle ∷ []) a b b begun asked new asks.2 last),
        settled_alone asked new ends,
        (λ key. spared_then key (map Ask asks.0) (Settle ∷ []) (spared_by_asks key asks.0) tt),
        (λ key waits. elim (asked_waits asks.0 a b begun asked asks.2 key waits) [
          | inl before ↦ absurd (true≢false (sym before ∙ nobody key))
          | inr there ↦ All-contains (λ it. Contains keys it) asks.0 key asks.1 there
        ]),
      )

  -- nobody shares one, and none is under way
  pub none_shared : (keys : List ℕ) (a : Slab Guest) (old new : Served S) → (shares_of old ≡ false → new ≡ old) → (IsTrue (shares_of old) → IsSettled store old new) → SharesRound store keys a a old new
  none_shared keys a old new none settles = λ nobody.
      let ends = settles_now old new none settles in (
        Settle ∷ [],
        (a, new, ((λ key. refl), ends), ((λ key. refl), refl)),
        settled_alone old new ends,
        (λ key. tt),
        (λ key waits. absurd (true≢false (sym waits ∙ nobody key))),
      )

  -- ---- who is served

  serve_shares : (steps : List Step) (a b : Slab Guest) (old new : Served S) → OnlyServe steps → DoesAll store steps a b old new → shares_of new ≡ shares_of old
  serve_shares [] a b old new only is = ap (λ (served : Served S). shares_of served) is.1
  serve_shares (Serve key ∷ steps) a b old new only is = serve_shares steps is.0 b is.1 new only is.3 ∙ serves_shares store _ _ old is.1 is.2.1
  serve_shares (Drop key ∷ steps) a b old new only is = serve_shares steps is.0 b is.1 new only is.3 ∙ ap (λ (served : Served S). shares_of served) is.2.2
  serve_shares (Keep ∷ steps) a b old new only is = absurd only
  serve_shares (Begin ∷ steps) a b old new only is = absurd only
  serve_shares (Ask key ∷ steps) a b old new only is = absurd only
  serve_shares (Settle ∷ steps) a b old new only is = absurd only
  serve_shares (Enter doors ∷ steps) a b old new only is = absurd only
  serve_shares (Leave ∷ steps) a b old new only is = absurd only

  turn_heard : (shares : Bool) (turn : Turn) (next : Next) (guest left : Guest) (old new : Served S) → shares ≡ false → Turns store shares turn next guest left old new → asked_in left ≡ []
  turn_heard false turn next guest left old new alone turns = turns.asked
  turn_heard true turn next guest left old new alone turns = absurd (true≢false alone)

  -- who is served where no round is under way does not wait
  pub served_waits_not : (was now : Option Guest) (old new : Served S) → shares_of old ≡ false → Serves store was now old new → is_waiting now ≡ false
  served_waits_not None now old new alone (told, vacant) = ap is_waiting vacant.0
  served_waits_not (Some guest) now old new alone (None, gone) = ap is_waiting gone.0
  served_waits_not (Some guest) now old new alone (Some told, (driven, at, by)) =
      let begun = ap (λ (served : Served S). shares_of served) driven.moment.1 ∙ alone in
      let heard = turn_heard (shares_of driven.begun) driven.turn driven.next guest driven.left driven.begun new begun driven.driven in
      elim driven.stays [
        | inl kept ↦ ap is_waiting kept.1 ∙ waits_not driven.left heard
        | inr gone ↦ ap is_waiting gone.1
      ]

  -- nobody begins to wait
  waited_before : (steps : List Step) (a b : Slab Guest) (old new : Served S) (key : ℕ) → OnlyServe steps → DoesAll store steps a b old new → IsTrue (is_waiting (get b key)) → IsTrue (is_waiting (get a key))
  waited_before [] a b old new key only is waits = waits_before (get a key) (get b key) (is.0 key) waits
  waited_before (Serve other ∷ steps) a b old new key only is waits =
      let then_waits = waited_before steps is.0 b is.1 new key only is.3 waits in
      elim (cases_eq key other) [
        | inl same ↦ absurd (true≢false (sym then_waits ∙ ap (λ (it : ℕ). is_waiting (get is.0 it)) same ∙ served_waits_not (get a other) (get is.0 other) old is.1 is.2.0 is.2.1))
        | inr differs ↦ waits_before (get a key) (get is.0 key) (is.2.2 key differs) then_waits
      ]
  waited_before (Drop other ∷ steps) a b old new key only is waits =
      let then_waits = waited_before steps is.0 b is.1 new key only is.3 waits in
      elim (cases_eq key other) [
        | inl same ↦ ap (λ (it : ℕ). is_waiting (get a it)) same ∙ left_waits_before (get a other) (get is.0 other) is.2.0 (sym (ap (λ (it : ℕ). is_waiting (get is.0 it)) same) ∙ then_waits)
        | inr differs ↦ waits_before (get a key) (get is.0 key) (is.2.1 key differs) then_waits
      ]
  waited_before (Keep ∷ steps) a b old new key only is waits = absurd only
  waited_before (Begin ∷ steps) a b old new key only is waits = absurd only
  waited_before (Ask other ∷ steps) a b old new key only is waits = absurd only
  waited_before (Settle ∷ steps) a b old new key only is waits = absurd only
  waited_before (Enter doors ∷ steps) a b old new key only is waits = absurd only
  waited_before (Leave ∷ steps) a b old new key only is waits = absurd only

  -- who is served has heard
  has_heard : (steps : List Step) (a b : Slab Guest) (old new : Served S) (key : ℕ) → OnlyServe steps → IsServedFirst key steps → DoesAll store steps a b old new → IsTrue (is_waiting (get b key)) → ⊥
  has_heard [] a b old new key only first is waits = absurd first
  has_heard (Serve other ∷ steps) a b old new key only first is waits =
      elim first [
        | inl here ↦ true≢false (sym (waited_before steps is.0 b is.1 new key only is.3 waits) ∙ ap (λ (it : ℕ). is_waiting (get is.0 it)) (sym here) ∙ served_waits_not (get a other) (get is.0 other) old is.1 is.2.0 is.2.1)
        | inr later ↦ has_heard steps is.0 b is.1 new key only later is.3 waits
      ]
  has_heard (Drop other ∷ steps) a b old new key only first is waits = has_heard steps is.0 b is.1 new key only first.1 is.3 waits
  has_heard (Keep ∷ steps) a b old new key only first is waits = absurd only
  has_heard (Begin ∷ steps) a b old new key only first is waits = absurd only
  has_heard (Ask other ∷ steps) a b old new key only first is waits = absurd only
  has_heard (Settle ∷ steps) a b old new key only first is waits = absurd only
  has_heard (Enter doors ∷ steps) a b old new key only first is waits = absurd only
  has_heard (Leave ∷ steps) a b old new key only first is waits = absurd only

  -- ---- of whom the system told

  pub nothing : (a b : Slab Guest) (served : Served S) → SameValues a b → ServesEach store [] a b served served
  nothing a b served is = λ alone. ([], (is, refl), tt, (λ key. tt), All-nil (λ key. IsServedFirst key []))

  -- who is served may be let go afterwards
  pub serves_and_drops : (key : ℕ) (a b c : Slab Guest) (old new : Served S) → Serves store (get a key) (get b key) old new → AreOthersKept key a b → MayGo (get b key) (get c key) → AreOthersKept key b c → ServesEach store [] a c old new
  serves_and_drops key a b c old new is others may rest = λ alone.
      let steps : List Step = Serve key ∷ Drop key ∷ [] in
      (steps, (b, new, (alone, is, others), (c, new, (may, rest, refl), ((λ other. refl), refl))), tt, (λ other. spared_by_turn key other), All-nil (λ it. IsServedFirst it steps))

  pub none_told : (keys : List ℕ) (a b : Slab Guest) (old new : Served S) → keys ≡ [] → ServesEach store [] a b old new → ServesEach store keys a b old new
  none_told keys a b old new none is = subst (λ (told : List ℕ). ServesEach store told a b old new) (sym none) is

  pub one_told : (keys : List ℕ) (key : ℕ) (a b c : Slab Guest) (old mid new : Served S) → keys ≡ key ∷ [] → Serves store (get a key) (get b key) old mid → AreOthersKept key a b → ServesEach store [] b c mid new → ServesEach store keys a c old new
  one_told keys key a b c old mid new one is others rest = λ alone.
      let later = rest (serves_shares store _ _ old mid is ∙ alone) in
      let steps : List Step = Serve key ∷ later.0 in
      (steps, (b, mid, (alone, is, others), later.1), later.2, (λ other. inr (later.3 other)), subst (λ (told : List ℕ). All (λ it. IsServedFirst it steps) told) (sym one) (All-push (λ (it : ℕ). IsServedFirst it steps) [] key (All-nil (λ it. IsServedFirst it steps)) (inl refl)))

  pub told_then : (keys more : List ℕ) (a b c : Slab Guest) (old mid new : Served S) → ServesEach store keys a b old mid → ServesEach store more b c mid new → ServesEach store (keys ++ more) a c old new
  told_then keys more a b c old mid new serves rest = λ alone.
      let first = serves alone in
      let later = rest (serve_shares first.0 a b old mid first.2 first.1 ∙ alone) in
      let steps : List Step = first.0 ++ later.0 in
      let before : All (λ key. IsServedFirst key steps) keys = All-weaker (λ key. IsServedFirst key first.0) (λ key. IsServedFirst key steps) (λ key is. first_then key first.0 later.0 is) keys first.4 in
      let after : All (λ key. IsServedFirst key steps) more = All-weaker (λ key. IsServedFirst key later.0) (λ key. IsServedFirst key steps) (λ key is. spared_then_first key first.0 later.0 (first.3 key) is) more later.4 in
      (steps, all_then first.0 later.0 a b c old mid new first.1 later.1, only_serve_then first.0 later.0 first.2 later.2, (λ key. spared_then key first.0 later.0 (first.3 key) (later.3 key)), All-append (λ key. IsServedFirst key steps) keys more before after)

  -- ---- a pass, behind its wait

  -- some share a round, and then each is served
  pub told_serves : (doors : List Speech) (keys : List ℕ) (a b c d : Slab Guest) (old mid new : Served S) → NobodyWaits a → SharesRound store keys a b old mid → ServesEach store keys b c mid new → GoesOn store doors c d new new → ServesThose store doors keys a d old new
  told_serves doors keys a b c d old mid new nobody shares serves rest =
      let first = shares nobody in
      let then_serves = serves first.2 in
      let steps : List Step = first.0 ++ then_serves.0 in
      let all : List Step = steps ++ rest.0 in
      let is : DoesAll store steps a c old new = all_then first.0 then_serves.0 a b c old mid new first.1 then_serves.1 in
      let shared_by : AllEnterBy doors first.0 = spared_by doors first.0 (above first.0) (omega arith) (first.3 (above first.0)) in
      let served_by : AllEnterBy doors steps = enter_by_then doors first.0 then_serves.0 shared_by (serve_by doors then_serves.0 then_serves.2) in (
        all,
        all_then steps rest.0 a c d old new new is rest.1,
        (λ alone. serve_shares then_serves.0 b c mid new then_serves.2 then_serves.1 ∙ first.2),
        All-weaker (λ key. IsServedFirst key then_serves.0) (λ key. IsServedFirst key all) (λ key it. first_then key steps rest.0 (spared_then_first key first.0 then_serves.0 (first.3 key) it)) keys then_serves.4,
        enter_by_then doors steps rest.0 served_by rest.3,
      )

  -- and whoever asked in it has heard
  pub told_hears : (keys : List ℕ) (a b c : Slab Guest) (old mid new : Served S) → NobodyWaits a → SharesRound store keys a b old mid → ServesEach store keys b c mid new → NobodyWaits c
  told_hears keys a b c old mid new nobody shares serves key =
      let first = shares nobody in
      let is = serves first.2 in
      not_true (is_waiting (get c key)) (λ waits.
      let asked = first.4 key (waited_before is.0 b c mid new key is.2 is.1 waits) in
      has_heard is.0 b c mid new key is.2 (All-contains (λ it. IsServedFirst it is.0) keys key is.4 asked) is.1 waits)

  pub serves_none : (doors : List Speech) (keys : List ℕ) (a b : Slab Guest) (old new : Served S) → keys ≡ [] → GoesOn store doors a b old new → ServesThose store doors keys a b old new
  serves_none doors keys a b old new none is = subst (λ (told : List ℕ). ServesThose store doors told a b old new) (sym none) (is.0, is.1, is.2, All-nil (λ key. IsServedFirst key is.0), is.3)

  pub goes_on : (doors : List Speech) (keys : List ℕ) (a b : Slab Guest) (old new : Served S) → ServesThose store doors keys a b old new → GoesOn store doors a b old new
  goes_on doors keys a b old new is = (is.0, is.1, is.2, is.4)

-- an event tells of the peer of a key
pub key_named : (event : Event) (token key : ℕ) → token ≡ (event_token event).0 → SomeIff (Some key) (MOST_DOORS ≤ token) (token - MOST_DOORS) → keys_told (event ∷ []) ≡ key ∷ []
key_named event token key is some = grind (arith, nat_tests)

-- an event tells of a door
pub door_named : (event : Event) (token : ℕ) → token ≡ (event_token event).0 → ¬ (MOST_DOORS ≤ token) → keys_told (event ∷ []) ≡ []
door_named event token is none = grind (arith, nat_tests)

-- one event more
pub told_with_one : {X : Type 0} (event_of : X → Event) (xs : List X) (x : X) → keys_told (map event_of (xs ++ x ∷ [])) ≡ keys_told (map event_of xs) ++ keys_told (event_of x ∷ [])
told_with_one event_of xs x = ap keys_told (map-append event_of xs (x ∷ [])) ∙ filter_map-append key_told (map event_of xs) (event_of x ∷ [])

-- ---- what follows a turn

pub stays : (next : Next) (was now : Option Guest) → next ≢ Close → now ≡ was → StaysAfter next was now
stays next was now goes_on is = inl (goes_on, is)

pub goes : (next : Next) (was now : Option Guest) → MayLeave next → now ≡ None → StaysAfter next was now
goes next was now may is = inr (may, is)
