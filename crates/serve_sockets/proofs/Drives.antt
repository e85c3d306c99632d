-- What was applied in a hall is rounds, one after another.
use Rattle.std.proofs.Common.{◌≡◌, ◌⊎◌, Bool, true, false, not, List, [], ◌∷◌, ◌++◌, Option, None, Some, IsTrue, refl, sym, ap, subst, ◌∙◌, append-nil, append_assoc, arith, inl, inr}
use Rattle.slab.specs.Slab.{Slab}
use Rattle.sqlite.specs.Held.{Held, state}
use Rattle.sqlite.specs.State.{HasCleanDisk}
use Rattle.sqlite_trees.specs.declared.store.Store.{Ghosts}
use Rattle.std.proofs.lemmas.Bool.{true≢false}
use Rattle.http_server.specs.Exchange.{Call, Chain}
use Rattle.serve_peers.specs.ProofServices.{one_more, stays}
use Rattle.serve_peers.proofs.Journaling.{chain, leads_applied, leads_then, line_chain}
use Rattle.serve_peers.specs.Journals.{Notes, Round, Told, applied, by_themselves, page_rules_of, open_of, rounds_of, shares_of, store_of}
use Rattle.serve_peers.specs.Applying.{DoesEach, DoesOne, Leads, OnlyLooks}
use Rattle.serve_peers.specs.Turns.{Continues}
use Rattle.serve_peers.specs.Rounds.{AllSettle, Begins, Follows, IsRefused}
use Rattle.serve_peers.proofs.Running.{entry_keeps, was_clean}
use Rattle.serve_peers.specs.LinePeers as lines
use Rattle.serve_peers.specs.Streams.{Ends}
use Rattle.serve_peers.specs.declared.entry.Entry.{Entry}
use Rattle.serve_peers.specs.declared.line_peer.LinePeer.{LinePeer}
use Rattle.serve_peers.specs.Space.{spare_of}
use Rattle.serve_peers.specs.declared.served.Served.{Served}
use Rattle.serve_peers.specs.declared.step.Next.{Next}
use Rattle.serve_peers.specs.declared.step.Turn.{Turn}
use Rattle.serve_peers.proofs.Services.{calls_continue}
use Rattle.serve_desk.specs.Answers.{Answers as AnswersAtDesk}
use Rattle.serve_desk.specs.ProofDesk.{answers_continue as continue_at_desk}
use Rattle.serve_web.specs.Answers.{Answers}
use Rattle.serve_web.specs.ProofPages.{answers_continue}
use Rattle.serve_sockets.specs.Guests.{AsksAgain, TakesTurn, Turns, in_round, of_socket}
use Rattle.serve_sockets.specs.Halls.{Ask, Begin, BeginsRound, Does, DoesAll, Drop, Enter, GoesOn, Keep, Leave, Serve, Serves, Settle, SettlesRound, Step}
use Rattle.serve_sockets.specs.declared.doors.Speech.{Speech}
use Rattle.serve_sockets.specs.declared.guest.Guest.{Guest}
use Rattle.serve_sockets.specs.declared.guest.Peer.{Peer}
use Rattle.serve_sockets.specs.declared.guest.Peer.TheVariants.{Desk, Http, Last, Lines, Pages}

module _ {S : Type 0} (store : Ghosts S) where
  -- ---- a turn

  lines_continue : (ends ends2 : Ends) (next : Next) (before after : LinePeer) (old new : Served S) → lines.TakesTurn store ends ends2 next before after old new → Continues store old new
  lines_continue ends ends2 next before after old new is =
      elim is [
        | inl drops ↦ subst (λ (served : Served S). Continues store old served) (sym drops.4) (stays store old)
        | inr takes ↦ line_chain store _ takes.1.calls old new takes.1.chain
      ]

  pub pages_chain : (calls : List Call) (old new : Served S) → Chain (Answers store) old calls new → Continues store old new
  pages_chain calls old new is = calls_continue store (Answers store) (λ (served : Served S). served) (answers_continue store) calls old new is

  pub desk_chain : (calls : List Call) (old new : Served S) → Chain (AnswersAtDesk store) old calls new → Continues store old new
  desk_chain calls old new is = calls_continue store (AnswersAtDesk store) (λ (served : Served S). served) (continue_at_desk store) calls old new is

  pub turn_continues : (ends ends2 : Ends) (next : Next) (before after : Peer) (old new : Served S) → TakesTurn store ends ends2 next before after old new → Continues store old new
  turn_continues ends ends2 next (Http before) (Http after) old new is = chain store is.0.0 old new is.0.2
  turn_continues ends ends2 next (Pages before) (Pages after) old new is = pages_chain is.0.0 old new is.0.2
  turn_continues ends ends2 next (Desk before) (Desk after) old new is = desk_chain is.0.0 old new is.0.2
  turn_continues ends ends2 next (Lines before) (Lines after) old new is = lines_continue ends ends2 next before after old new is
  turn_continues ends ends2 next (Last before) (Last after) old new is = subst (λ (served : Served S). Continues store old served) (sym is.1) (stays store old)
  turn_continues ends ends2 next (Http before) (Pages after) old new is = absurd is
  turn_continues ends ends2 next (Http before) (Desk after) old new is = absurd is
  turn_continues ends ends2 next (Desk before) (Pages after) old new is = absurd is
  turn_continues ends ends2 next (Pages before) (Http after) old new is = absurd is
  turn_continues ends ends2 next (Desk before) (Http after) old new is = absurd is
  turn_continues ends ends2 next (Pages before) (Desk after) old new is = absurd is
  turn_continues ends ends2 next (Pages before) (Lines after) old new is = absurd is
  turn_continues ends ends2 next (Desk before) (Lines after) old new is = absurd is
  turn_continues ends ends2 next (Pages before) (Last after) old new is = absurd is
  turn_continues ends ends2 next (Desk before) (Last after) old new is = absurd is
  turn_continues ends ends2 next (Lines before) (Pages after) old new is = absurd is
  turn_continues ends ends2 next (Lines before) (Desk after) old new is = absurd is
  turn_continues ends ends2 next (Last before) (Pages after) old new is = absurd is
  turn_continues ends ends2 next (Last before) (Desk after) old new is = absurd is
  turn_continues ends ends2 next (Http before) (Lines after) old new is = absurd is
  turn_continues ends ends2 next (Http before) (Last after) old new is = absurd is
  turn_continues ends ends2 next (Lines before) (Http after) old new is = absurd is
  turn_continues ends ends2 next (Lines before) (Last after) old new is = absurd is
  turn_continues ends ends2 next (Last before) (Http after) old new is = absurd is
  turn_continues ends ends2 next (Last before) (Lines after) old new is = absurd is

  pub again_continues : (lost : Bool) (asked : List Entry) (before begun : Peer) (old mid : Served S) → AsksAgain store lost asked before begun old mid → Continues store old mid
  again_continues true (entry ∷ more) before (Last begun) old mid is = one_more store entry is.told old mid is.next
  again_continues true (entry ∷ more) before (Http begun) old mid is = absurd is
  again_continues true (entry ∷ more) before (Pages begun) old mid is = absurd is
  again_continues true (entry ∷ more) before (Desk begun) old mid is = absurd is
  again_continues true (entry ∷ more) before (Lines begun) old mid is = absurd is
  again_continues true [] before begun old mid is = subst (λ (served : Served S). Continues store old served) (sym is.1) (stays store old)
  again_continues false asked before begun old mid is = subst (λ (served : Served S). Continues store old served) (sym is.1) (stays store old)

  turn_shares : (shares : Bool) (turn : Turn) (next : Next) (guest left : Guest) (old new : Served S) → Turns store shares turn next guest left old new → shares_of new ≡ shares_of old
  turn_shares false turn next guest left old new turns = (turn_continues of_socket of_socket next _ _ turns.mid new turns.takes).shares ∙ (again_continues _ _ _ _ old turns.mid turns.again).shares
  turn_shares true turn next guest left old new turns = ap (λ (served : Served S). shares_of served) turns.same ∙ (turn_continues in_round in_round next _ _ (record old { asked = guest.asked }) turns.left turns.takes).shares

  pub serves_shares : (was now : Option Guest) (old new : Served S) → Serves store was now old new → shares_of new ≡ shares_of old
  serves_shares None now old new (told, vacant) = ap (λ (served : Served S). shares_of served) vacant.1.1
  serves_shares (Some guest) now old new (Some told, (driven, at, by)) = turn_shares _ driven.turn driven.next guest driven.left driven.begun new driven.driven ∙ ap (λ (served : Served S). shares_of served) driven.moment.1
  serves_shares (Some guest) now old new (None, gone) = ap (λ (served : Served S). shares_of served) gone.1

  -- ---- whether pages take a file without a password stays

  turn_rules : (shares : Bool) (turn : Turn) (next : Next) (guest left : Guest) (old new : Served S) → Turns store shares turn next guest left old new → page_rules_of new ≡ page_rules_of old
  turn_rules false turn next guest left old new turns = (turn_continues of_socket of_socket next _ _ turns.mid new turns.takes).page_rules ∙ (again_continues _ _ _ _ old turns.mid turns.again).page_rules
  turn_rules true turn next guest left old new turns = ap (λ (served : Served S). page_rules_of served) turns.same ∙ (turn_continues in_round in_round next _ _ (record old { asked = guest.asked }) turns.left turns.takes).page_rules

  serves_rules : (was now : Option Guest) (old new : Served S) → Serves store was now old new → page_rules_of new ≡ page_rules_of old
  serves_rules None now old new (told, vacant) = ap (λ (served : Served S). page_rules_of served) vacant.1.1
  serves_rules (Some guest) now old new (Some told, (driven, at, by)) = turn_rules _ driven.turn driven.next guest driven.left driven.begun new driven.driven ∙ ap (λ (served : Served S). page_rules_of served) driven.moment.1
  serves_rules (Some guest) now old new (None, gone) = ap (λ (served : Served S). page_rules_of served) gone.1

  step_rules : (step : Step) (a b : Slab Guest) (old new : Served S) → Does store step a b old new → page_rules_of new ≡ page_rules_of old
  step_rules Keep a b old new does = does.1.0.page_rules
  step_rules Begin a b old new does = elim does.2 [
    | inl under_way ↦ ap (λ (served : Served S). page_rules_of served) under_way.1
    | inr (inl begun) ↦ ap (λ (served : Served S). page_rules_of served) begun.same
    | inr (inr not_begun) ↦ ap (λ (served : Served S). page_rules_of served) not_begun.same
  ]
  step_rules (Ask key) a b old new does = serves_rules _ _ old new does.1
  step_rules Settle a b old new does = elim does.1 [
    | inl none ↦ ap (λ (served : Served S). page_rules_of served) none.1
    | inr settled ↦ ap (λ (served : Served S). page_rules_of served) settled.same
  ]
  step_rules (Serve key) a b old new does = serves_rules _ _ old new does.1
  step_rules (Drop key) a b old new does = ap (λ (served : Served S). page_rules_of served) does.2
  step_rules (Enter doors) a b old new does = ap (λ (served : Served S). page_rules_of served) does.1
  step_rules Leave a b old new does = ap (λ (served : Served S). page_rules_of served) does.1

  pub same_rules : (steps : List Step) (a b : Slab Guest) (old new : Served S) → DoesAll store steps a b old new → page_rules_of new ≡ page_rules_of old
  same_rules [] a b old new does = ap (λ (served : Served S). page_rules_of served) does.1
  same_rules (step ∷ steps) a b old new does = same_rules steps does.0 b does.1 new does.3 ∙ step_rules step a does.0 old does.1 does.2

  -- ---- the disk was honest before

  one_clean : (shares : Bool) (one : Option Told) (old new : Held S) → DoesOne store shares one old new → HasCleanDisk (state store new) → HasCleanDisk (state store old)
  one_clean false (Some told) old new applies clean = was_clean store old new applies.applies.connection clean
  one_clean true (Some told) old new applies clean = was_clean store old new (entry_keeps store told old new applies) clean
  one_clean false None old new looks clean = was_clean store old new looks.connection clean
  one_clean true None old new never clean = absurd never

  each_clean : (shares : Bool) (more : List (Option Told)) (old new : Held S) → DoesEach store shares old more new → HasCleanDisk (state store new) → HasCleanDisk (state store old)
  each_clean shares [] old new is clean = subst (λ (held : Held S). HasCleanDisk (state store held)) is clean
  each_clean shares (one ∷ more) old new does clean = one_clean shares one old does.0 does.1 (each_clean shares more does.0 new does.2 clean)

  abbrev pub IsClean : Served S → Type 0
  IsClean served = HasCleanDisk (state store (store_of served))

  pub continues_clean : (old new : Served S) → Continues store old new → IsClean new → IsClean old
  continues_clean old new on clean = each_clean (shares_of old) on.more (store_of old) (store_of new) on.does clean

  same_clean : (old new : Served S) → store_of new ≡ store_of old → IsClean new → IsClean old
  same_clean old new same clean = subst (λ (held : Held S). HasCleanDisk (state store held)) same clean

  turn_clean : (shares : Bool) (turn : Turn) (next : Next) (guest left : Guest) (old new : Served S) → Turns store shares turn next guest left old new → IsClean new → IsClean old
  turn_clean false turn next guest left old new turns clean =
      continues_clean old turns.mid (again_continues _ _ _ _ old turns.mid turns.again) (continues_clean turns.mid new (turn_continues of_socket of_socket next _ _ turns.mid new turns.takes) clean)
  turn_clean true turn next guest left old new turns clean =
      let begun : Served S = record old { asked = guest.asked } in
      continues_clean begun turns.left (turn_continues in_round in_round next _ _ begun turns.left turns.takes) (same_clean turns.left new (ap (λ (served : Served S). store_of served) turns.same) clean)

  serves_clean : (was now : Option Guest) (old new : Served S) → Serves store was now old new → IsClean new → IsClean old
  serves_clean None now old new (told, vacant) clean = same_clean old new (ap (λ (served : Served S). store_of served) vacant.1.1) clean
  serves_clean (Some guest) now old new (Some told, (driven, at, by)) clean = same_clean old driven.begun (ap (λ (served : Served S). store_of served) driven.moment.1) (turn_clean _ driven.turn driven.next guest driven.left driven.begun new driven.driven clean)
  serves_clean (Some guest) now old new (None, gone) clean = same_clean old new (ap (λ (served : Served S). store_of served) gone.1) clean

  pub step_clean : (step : Step) (a b : Slab Guest) (old new : Served S) → Does store step a b old new → IsClean new → IsClean old
  step_clean Keep a b old new does clean = continues_clean old new does.1.0 clean
  step_clean Begin a b old new does clean = elim does.2 [
    | inl under_way ↦ same_clean old new (ap (λ (served : Served S). store_of served) under_way.1) clean
    | inr (inl begun) ↦ let first = begun.begins.survives.clean in omega (arith, first, clean)
    | inr (inr not_begun) ↦ was_clean store (store_of old) (store_of new) not_begun.refused.connection clean
  ]
  step_clean (Ask key) a b old new does clean = serves_clean _ _ old new does.1 clean
  step_clean Settle a b old new does clean = elim does.1 [
    | inl none ↦ same_clean old new (ap (λ (served : Served S). store_of served) none.1) clean
    | inr settled ↦ was_clean store (store_of old) (store_of new) settled.ends.connection clean
  ]
  step_clean (Serve key) a b old new does clean = serves_clean _ _ old new does.1 clean
  step_clean (Drop key) a b old new does clean = same_clean old new (ap (λ (served : Served S). store_of served) does.2) clean
  step_clean (Enter doors) a b old new does clean = same_clean old new (ap (λ (served : Served S). store_of served) does.1) clean
  step_clean Leave a b old new does clean = same_clean old new (ap (λ (served : Served S). store_of served) does.1) clean

  pub all_clean : (steps : List Step) (a b : Slab Guest) (old new : Served S) → DoesAll store steps a b old new → IsClean new → IsClean old
  all_clean [] a b old new does clean = same_clean old new (ap (λ (served : Served S). store_of served) does.1) clean
  all_clean (step ∷ steps) a b old new does clean = step_clean step a does.0 old does.1 does.2 (all_clean steps does.0 b does.1 new does.3 clean)

  -- ---- what was served so far, and the round that is under way, if one is

  pub record IsAlone (old new : Served S) : Type 0 where
    pub alone : shares_of new ≡ false
    pub none_left : open_of new ≡ []
    pub follows : Follows store old new

  pub record IsInRound (old new : Served S) : Type 0 where
    pub shared : IsTrue (shares_of new)
    pub more : List Round
    pub over : rounds_of new ≡ rounds_of old ++ more
    pub was : Held S
    pub begun : Held S
    pub settles : AllSettle store (store_of old) more was
    pub begins : Begins store was begun
    pub leads : Leads store true begun (open_of new) (store_of new)

  abbrev pub IsServed : (old new : Served S) → Type 0
  IsServed old new = IsAlone old new ⊎ IsInRound old new

  settle_then : (first more : List Round) (old mid new : Held S) → AllSettle store old first mid → AllSettle store mid more new → AllSettle store old (first ++ more) new
  settle_then [] more old mid new is later = subst (λ (held : Held S). AllSettle store held more new) is later
  settle_then (round ∷ first) more old mid new is later = (is.0, is.1, settle_then first more is.0 mid new is.2 later)

  -- what is done by itself is a round of its own
  settle_each : (more : List (Option Told)) (old new : Held S) → DoesEach store false old more new → AllSettle store old (by_themselves more) new
  settle_each [] old new is = is
  settle_each (Some told ∷ more) old new (next, applies, does) = (next, inr (inl (refl, (next, applies, refl))), settle_each more next new does)
  settle_each (None ∷ more) old new (next, looks, does) = (next, inr (inr (refl, looks)), settle_each more next new does)

  follow_then : (old mid new : Served S) (more : List Round) → Follows store old mid → rounds_of new ≡ rounds_of mid ++ more → AllSettle store (store_of mid) more (store_of new) → Follows store old new
  follow_then old mid new more first over settles = record {
    more = first.more ++ more;
    over = over ∙ ap (λ x. x ++ more) first.over ∙ append_assoc (rounds_of old) first.more more;
    settles = settle_then first.more more (store_of old) (store_of mid) (store_of new) first.settles settles;
  }

  -- what is applied by itself
  alone_continues : (old mid new : Served S) (more : List (Option Told)) → IsAlone old mid → Notes false more mid new → DoesEach store false (store_of mid) more (store_of new) → shares_of new ≡ shares_of mid → IsAlone old new
  alone_continues old mid new more is notes does shares = record {
    alone = shares ∙ is.alone;
    none_left = notes.1 ∙ is.none_left;
    follows = follow_then old mid new (by_themselves more) is.follows notes.0 (settle_each more (store_of mid) (store_of new) does);
  }

  -- and in a round
  round_continues : (old mid new : Served S) (more : List (Option Told)) → IsInRound old mid → Notes true more mid new → DoesEach store true (store_of mid) more (store_of new) → shares_of new ≡ shares_of mid → IsInRound old new
  round_continues old mid new more is notes does shares = record {
    shared = shares ∙ is.shared;
    more = is.more;
    over = notes.0 ∙ is.over;
    was = is.was;
    begun = is.begun;
    settles = is.settles;
    begins = is.begins;
    leads = subst (λ (asked : List Told). Leads store true is.begun asked (store_of new)) (sym notes.1) (leads_then store true (open_of mid) (applied more) is.begun (store_of mid) (store_of new) is.leads (leads_applied store more (store_of mid) (store_of new) does));
  }

  pub served_continues : (old mid new : Served S) → IsServed old mid → Continues store mid new → IsServed old new
  served_continues old mid new (inl is) on = inl (alone_continues old mid new on.more is (subst (λ b. Notes b on.more mid new) is.alone on.notes) (subst (λ b. DoesEach store b (store_of mid) on.more (store_of new)) is.alone on.does) on.shares)
  served_continues old mid new (inr is) on = inr (round_continues old mid new on.more is (subst (λ b. Notes b on.more mid new) is.shared on.notes) (subst (λ b. DoesEach store b (store_of mid) on.more (store_of new)) is.shared on.does) on.shares)

  -- ---- what proofs alone read, and the moment, may be another

  -- the same journal, over the same tables
  pub record IsAsServed (old new : Served S) : Type 0 where
    pub rounds : rounds_of new ≡ rounds_of old
    pub left : open_of new ≡ open_of old
    pub tables : store_of new ≡ store_of old
    pub shares : shares_of new ≡ shares_of old

  pub as_served : (old mid new : Served S) → IsServed old mid → IsAsServed mid new → IsServed old new
  as_served old mid new (inl is) same = inl (record {
    alone = same.shares ∙ is.alone;
    none_left = same.left ∙ is.none_left;
    follows = record {
      more = is.follows.more;
      over = same.rounds ∙ is.follows.over;
      settles = subst (λ (held : Held S). AllSettle store (store_of old) is.follows.more held) (sym same.tables) is.follows.settles;
    };
  })
  as_served old mid new (inr is) same = inr (record {
    shared = same.shares ∙ is.shared;
    more = is.more;
    over = same.rounds ∙ is.over;
    was = is.was;
    begun = is.begun;
    settles = is.settles;
    begins = is.begins;
    leads = subst (λ (held : Held S). Leads store true is.begun (open_of new) held) (sym same.tables) (subst (λ (asked : List Told). Leads store true is.begun asked (store_of mid)) (sym same.left) is.leads);
  })

  pub like : (old new other : Served S) → new ≡ other → IsAsServed old other → IsAsServed old new
  like old new other is same = subst (IsAsServed old) (sym is) same

  -- ---- steps

  turn_served : (shares : Bool) (turn : Turn) (next : Next) (guest left : Guest) (old mid new : Served S) → IsServed old mid → Turns store shares turn next guest left mid new → IsServed old new
  turn_served false turn next guest left old mid new is turns =
      served_continues old turns.mid new (served_continues old mid turns.mid is (again_continues _ _ _ _ mid turns.mid turns.again)) (turn_continues of_socket of_socket next _ _ turns.mid new turns.takes)
  turn_served true turn next guest left old mid new is turns =
      let begun : Served S = record mid { asked = guest.asked } in
      let there = as_served old mid begun is (record { rounds = refl; left = refl; tables = refl; shares = refl }) in
      let on = served_continues old begun turns.left there (turn_continues in_round in_round next _ _ begun turns.left turns.takes) in
      as_served old turns.left new on (like turns.left new (record turns.left { asked = None }) turns.same (record { rounds = refl; left = refl; tables = refl; shares = refl }))

  serves_served : (was now : Option Guest) (old mid new : Served S) → IsServed old mid → Serves store was now mid new → IsServed old new
  serves_served None now old mid new is (told, vacant) = as_served old mid new is (like mid new (record mid { moment = vacant.1.0; spare = spare_of new }) vacant.1.1 (record { rounds = refl; left = refl; tables = refl; shares = refl }))
  serves_served (Some guest) now old mid new is (Some told, (driven, at, by)) =
      let begun = as_served old mid driven.begun is (like mid driven.begun (record mid { moment = driven.moment.0; spare = spare_of driven.begun }) driven.moment.1 (record { rounds = refl; left = refl; tables = refl; shares = refl })) in
      turn_served _ driven.turn driven.next guest driven.left old driven.begun new begun driven.driven
  serves_served (Some guest) now old mid new is (None, gone) = subst (λ (served : Served S). IsServed old served) (sym gone.1) is

  refused_looks : (old new : Held S) → IsRefused store old new → OnlyLooks store old new
  refused_looks old new refused = record { unchanged = λ clean has shown. refused.unchanged clean shown; connection = refused.connection }

  begins_served : (old mid new : Served S) → IsServed old mid → BeginsRound store mid new → IsServed old new
  begins_served old mid new is (inl under_way) = subst (λ (served : Served S). IsServed old served) (sym under_way.1) is
  begins_served old mid new (inr is) (inr (inl begun)) = absurd (true≢false (sym is.shared ∙ begun.alone))
  begins_served old mid new (inr is) (inr (inr not_begun)) = absurd (true≢false (sym is.shared ∙ not_begun.alone))
  begins_served old mid new (inl is) (inr (inl begun)) = inr (record {
    shared = ap (λ (served : Served S). shares_of served) begun.same;
    more = is.follows.more;
    over = ap (λ (served : Served S). rounds_of served) begun.same ∙ is.follows.over;
    was = store_of mid;
    begun = store_of new;
    settles = is.follows.settles;
    begins = begun.begins;
    leads = subst (λ (asked : List Told). Leads store true (store_of new) asked (store_of new)) (sym (ap (λ (served : Served S). open_of served) begun.same ∙ is.none_left)) refl;
  })
  begins_served old mid new (inl is) (inr (inr not_begun)) = inl (record {
    alone = ap (λ (served : Served S). shares_of served) not_begun.same ∙ is.alone;
    none_left = not_begun.none_more ∙ is.none_left;
    follows = follow_then old mid new (([], false) ∷ []) is.follows not_begun.over (store_of new, inr (inr (refl, refused_looks (store_of mid) (store_of new) not_begun.refused)), refl);
  })

  settles_served : (old mid new : Served S) → IsServed old mid → SettlesRound store mid new → IsServed old new
  settles_served old mid new is (inl none) = subst (λ (served : Served S). IsServed old served) (sym none.1) is
  settles_served old mid new (inl is) (inr settled) = absurd (true≢false (sym settled.shared ∙ is.alone))
  settles_served old mid new (inr is) (inr settled) =
      let round : Round = (open_of mid, not (new.is_lost)) in
      inl (record {
        alone = ap (λ (served : Served S). shares_of served) settled.same;
        none_left = settled.none_left;
        follows = record {
          more = is.more ++ round ∷ [];
          over = settled.over ∙ ap (λ x. x ++ round ∷ []) is.over ∙ append_assoc (rounds_of old) is.more (round ∷ []);
          settles = settle_then is.more (round ∷ []) (store_of old) is.was (store_of new) is.settles (store_of new, inl (record { begun = is.begun; ended = store_of mid; begins = is.begins; leads = is.leads; ends = settled.ends }), refl);
        };
      })

  pub step_served : (step : Step) (a b : Slab Guest) (old mid new : Served S) → IsServed old mid → Does store step a b mid new → IsServed old new
  step_served Keep a b old mid new is does = served_continues old mid new is does.1.0
  step_served Begin a b old mid new is does = begins_served old mid new is does.2
  step_served (Ask key) a b old mid new is does = serves_served _ _ old mid new is does.1
  step_served Settle a b old mid new is does = settles_served old mid new is does.1
  step_served (Serve key) a b old mid new is does = serves_served _ _ old mid new is does.1
  step_served (Drop key) a b old mid new is does = subst (λ (served : Served S). IsServed old served) (sym does.2) is
  step_served (Enter doors) a b old mid new is does = subst (λ (served : Served S). IsServed old served) (sym does.1) is
  step_served Leave a b old mid new is does = subst (λ (served : Served S). IsServed old served) (sym does.1) is

  all_served : (steps : List Step) (a b : Slab Guest) (old mid new : Served S) → IsServed old mid → DoesAll store steps a b mid new → IsServed old new
  all_served [] a b old mid new is does = subst (λ (served : Served S). IsServed old served) (sym does.1) is
  all_served (step ∷ steps) a b old mid new is does = all_served steps does.0 b old does.1 new (step_served step a does.0 old mid does.1 is does.2) does.3

  follows_if_alone : (old new : Served S) → IsServed old new → shares_of new ≡ false → Follows store old new
  follows_if_alone old new (inl is) alone = is.follows
  follows_if_alone old new (inr is) alone = absurd (true≢false (sym is.shared ∙ alone))

  pub served_by : (steps : List Step) (a b : Slab Guest) (old new : Served S) → DoesAll store steps a b old new → shares_of old ≡ false → open_of old ≡ [] → IsServed old new
  served_by steps a b old new does alone none =
      all_served steps a b old old new (inl (record { alone = alone; none_left = none; follows = record { more = []; over = sym (append-nil (rounds_of old)); settles = refl } })) does

  pub follows : (doors : List Speech) (a b : Slab Guest) (old new : Served S) → GoesOn store doors a b old new → shares_of old ≡ false → open_of old ≡ [] → Follows store old new
  follows doors a b old new goes alone none = follows_if_alone old new (served_by goes.0 a b old new goes.1 alone none) (goes.2 alone)
