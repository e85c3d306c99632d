-- The watch goes with the journal.
use Rattle.std.proofs.Common.{◌≡◌, ◌||◌, ℕ, Bool, true, false, List, [], ◌∷◌, ◌++◌, map, Option, Result, refl, sym, ap, ◌∙◌, append_assoc, append-nil}
use Rattle.std.proofs.lemmas.Bool.{true≢false}
use Rattle.std.proofs.lemmas.Grind.{flat_map-append}
use Rattle.std.proofs.lemmas.List.{map-append}
use Rattle.std.proofs.lemmas.List.Folds.{list_any-append}
use Rattle.http_server.specs.declared.log.Log.{Log}
use Rattle.account_machine.specs.declared.verdict.Answered.{Answered}
use Rattle.store_rounds.specs.declared.fault.StoreFault.{StoreFault}
use Rattle.serve_peers.specs.Tolds.{Round, Told, round_in}
use Rattle.serve_peers.specs.Watching.{Watches, seen_by, since_by, told_in, touched_in, touches}
use Rattle.serve_peers.specs.declared.entry.Entry.{Entry}
use Rattle.serve_peers.specs.declared.account_watch.Watch.{Watch}

pub neither : (a b : Bool) → (a || b) ≡ false → (a ≡ false) × (b ≡ false)
neither true b e = absurd (true≢false e)
neither false b e = (refl, e)

pub untouched_parts : (account : Option (List ℕ)) (first more : List Told) → touched_in account (first ++ more) ≡ false → (touched_in account first ≡ false) × (touched_in account more ≡ false)
untouched_parts account first more none = neither (touched_in account first) (touched_in account more) (sym (list_any-append (λ (told : Told). touches account told.0) first more) ∙ none)

pub untouched_both : (account : Option (List ℕ)) (first more : List Told) → touched_in account first ≡ false → touched_in account more ≡ false → touched_in account (first ++ more) ≡ false
untouched_both account first more none none_more = list_any-append (λ (told : Told). touches account told.0) first more ∙ ap (λ b. b || touched_in account more) none ∙ none_more

-- one entry was noted, or nothing was
abbrev pub Notes : (was now : Watch) (more : List Told) → Type 0
Notes was now more = now.touched ≡ false → (was.touched ≡ false) × (touched_in was.account more ≡ false)

pub noted : (was now : Watch) (told : Told) → now ≡ record was { touched = was.touched || touches was.account told.0 } → Notes was now (told ∷ [])
noted was now told is untouched =
    let parts = neither was.touched (touches was.account told.0) (sym (ap (λ (watch : Watch). watch.touched) is) ∙ untouched) in
    (parts.0, ap (λ b. b || false) parts.1)

pub nothing_noted : (watch : Watch) → Notes watch watch []
nothing_noted watch untouched = (untouched, refl)

abbrev Items : Type 0
Items = List (Log Entry (Result Answered StoreFault) × Bool)

-- the rounds of a longer list
rounds_then : (items : Items) (more : Items) → map round_in (items ++ more) ≡ map round_in items ++ map round_in more
rounds_then items more = map-append round_in items more

told_then : (rounds more : List Round) → told_in (rounds ++ more) ≡ told_in rounds ++ told_in more
told_then rounds more = flat_map-append (λ (round : Round). round.0) rounds more

-- a watch that begins
pub begun : (watch : Watch) (over : Items) (under_way : List Told) → watch.seen.items ≡ over → watch.since.items ≡ [] → (watch.touched ≡ false → under_way ≡ []) → Watches watch (map round_in over) under_way
begun watch over under_way seen since if_none =
    let none : since_by watch ≡ [] = ap (λ (items : Items). map round_in items) since in
    record {
      rounds = ap (λ (items : Items). map round_in items) (sym seen) ∙ sym (append-nil (seen_by watch)) ∙ ap (λ (rounds : List Round). seen_by watch ++ rounds) (sym none);
      untouched = λ untouched. ap (λ (told : List Told). touched_in watch.account told) (ap (λ (rounds : List Round). told_in rounds ++ under_way) none ∙ if_none untouched);
    }

-- what is known of two lists of rounds, and of what is under way behind each
module _ (was now : Watch) (over over2 : Items) (under_way under_way2 : List Told) (kept : Watches was (map round_in over) under_way) (account : now.account ≡ was.account) (seen : now.seen ≡ was.seen) where
  -- a round is over, of which this was noted
  pub closed : (round : Log Entry (Result Answered StoreFault)) (is_kept : Bool) → now.since.items ≡ was.since.items ++ (round, is_kept) ∷ [] → over2 ≡ over ++ (round, is_kept) ∷ []
      → (now.touched ≡ false → (was.touched ≡ false) × (touched_in was.account (told_in (since_by was) ++ under_way) ≡ false → touched_in was.account ((told_in (since_by was) ++ round.items) ++ under_way2) ≡ false))
      → Watches now (map round_in over2) under_way2
  closed round is_kept since grows none =
      let one : List Round = (round.items, is_kept) ∷ [] in
      let since_is : since_by now ≡ since_by was ++ one = ap (λ (items : Items). map round_in items) since ∙ rounds_then was.since.items ((round, is_kept) ∷ []) in
      let told_is : told_in (since_by now) ≡ told_in (since_by was) ++ round.items = ap told_in since_is ∙ told_then (since_by was) one ∙ ap (λ (told : List Told). told_in (since_by was) ++ told) (append-nil round.items) in
      record {
        rounds =
            ap (λ (items : Items). map round_in items) grows ∙ rounds_then over ((round, is_kept) ∷ []) ∙ ap (λ (rounds : List Round). rounds ++ one) kept.rounds ∙ append_assoc (seen_by was) (since_by was) one
            ∙ ap (λ (rounds : List Round). seen_by was ++ rounds) (sym since_is) ∙ ap (λ (log : Log (Log Entry (Result Answered StoreFault)) Bool). map round_in log.items ++ since_by now) (sym seen);
        untouched = λ untouched.
            let is = none untouched in
            ap (λ (told : List Told). touched_in now.account (told ++ under_way2)) told_is ∙ ap (λ (account : Option (List ℕ)). touched_in account ((told_in (since_by was) ++ round.items) ++ under_way2)) account ∙ is.1 (kept.untouched is.0);
      }

  -- what is under way is more, of which this was noted
  pub grown : now.since ≡ was.since → over2 ≡ over
      → (now.touched ≡ false → (was.touched ≡ false) × (touched_in was.account (told_in (since_by was) ++ under_way) ≡ false → touched_in was.account (told_in (since_by was) ++ under_way2) ≡ false))
      → Watches now (map round_in over2) under_way2
  grown since grows none =
      let since_is : since_by now ≡ since_by was = ap (λ (log : Log (Log Entry (Result Answered StoreFault)) Bool). map round_in log.items) since in
      record {
        rounds = ap (λ (items : Items). map round_in items) grows ∙ kept.rounds ∙ ap (λ (rounds : List Round). seen_by was ++ rounds) (sym since_is) ∙ ap (λ (log : Log (Log Entry (Result Answered StoreFault)) Bool). map round_in log.items ++ since_by now) (sym seen);
        untouched = λ untouched.
            let is = none untouched in
            ap (λ (rounds : List Round). touched_in now.account (told_in rounds ++ under_way2)) since_is ∙ ap (λ (account : Option (List ℕ)). touched_in account (told_in (since_by was) ++ under_way2)) account ∙ is.1 (kept.untouched is.0);
      }

-- ---- what was asked, in another order

module _ (account : Option (List ℕ)) (since under_way more : List Told) where
  pub by_itself : touched_in account more ≡ false → touched_in account (since ++ under_way) ≡ false → touched_in account ((since ++ more) ++ under_way) ≡ false
  by_itself none all =
      let parts = untouched_parts account since under_way all in
      untouched_both account (since ++ more) under_way (untouched_both account since more parts.0 none) parts.1

  pub in_round : touched_in account more ≡ false → touched_in account (since ++ under_way) ≡ false → touched_in account (since ++ (under_way ++ more)) ≡ false
  in_round none all =
      let parts = untouched_parts account since under_way all in
      untouched_both account since (under_way ++ more) parts.0 (untouched_both account under_way more parts.1 none)

  pub settled : touched_in account (since ++ under_way) ≡ false → touched_in account ((since ++ under_way) ++ []) ≡ false
  settled all = untouched_both account (since ++ under_way) [] all refl
