-- What a crash finds of what is applied in rounds, and of an account's life.
use Rattle.std.proofs.Common.{◌≡◌, ◌⊎◌, Bool, true, false, List, [], ◌∷◌, ◌++◌, IsTrue, refl, sym, ap, subst, ◌∙◌, inl, inr, append-nil, arith}
use Rattle.std.proofs.lemmas.Bool.{cases_Bool, true≢false}
use Rattle.sqlite.specs.Effect.{Database}
use Rattle.sqlite.specs.Held.{Held, state}
use Rattle.sqlite.specs.State.{HasCleanDisk}
use Rattle.sqlite_trees.specs.Tree.{Trees}
use Rattle.sqlite_trees.specs.declared.store.Store.{Ghosts}
use Rattle.account_lives.specs.Lives.{Life}
use Rattle.account_machine.specs.Verdicts.{reply_of}
use Rattle.room_serve.proofs.FoundLives.{found_of, under_way_is_found}
use Rattle.room_serve.proofs.LivesOn.{lives_go_on_in_runs}
use Rattle.room_serve.proofs.RunLemmas.{begins, still_shown}
use Rattle.room_serve.specs.Crashes.{IsFound, IsFoundAfter}
use Rattle.room_serve.specs.LivesInFiles.{IsLifeIn}
use Rattle.rows_statements.specs.Rounds.{BeginsRound, EndsRound}
use Rattle.rows_tables.specs.Calls.{LeavesNoMore, UnchangedOrUndone}
use Rattle.rows_tables.specs.Crashes.{CrashesFindLastCommit, IsOnDisk}
use Rattle.rows_tables.specs.Keyed.{HasSchema}
use Rattle.serve_peers.proofs.Running.{IsGone, StillGoes, entry_keeps, entry_leaves_no_more, leads_keep, leads_leave, leads_leave_no_more, leads_on, round_shown, runs, was_clean}
use Rattle.serve_peers.specs.Entries.{timed}
use Rattle.serve_peers.specs.Journals.{Round, Told, events_of, kept_in, outcomes_of}
use Rattle.serve_peers.specs.Applying.{AppliesEntry, Leads}
use Rattle.serve_peers.specs.Rounds.{AllSettle, Begins, IsOver, IsRound, Settles}
use Rattle.serve_peers.specs.ServedLives.{AloneIsFound, AlwaysFound, AlwaysLives, FindsLife, FindsRound, KeptIsFound, RoundIsFound, RoundIsNotFound, told_to}

module _ {S : Type 0} (store : Ghosts S) where
  -- ---- lives

  pub always_lives : AlwaysLives store
  always_lives rounds old new settles clean has name life lived =
      let run = runs store rounds old new settles in
      lives_go_on_in_runs _ _ _ _ _ (run.alone clean has) (run.devices clean has) name life lived

  module _ (lasts : CrashesFindLastCommit store) where
    -- ---- a round that has begun

    module _ (mid begun : Held S) (starts : Begins store mid begun) (more : List Told) (ended : Held S) (leads : Leads store true begun more ended) (clean : HasCleanDisk (state store ended)) (has : HasSchema (state store mid).now) where
      begun_clean : HasCleanDisk (state store begun)
      begun_clean = was_clean store begun ended (leads_keep store more begun ended leads) clean

      pub has_begun : BeginsRound (state store mid) (state store begun)
      has_begun = starts.begun begun_clean

      goes_at_first : StillGoes store (state store mid).now (state store begun)
      goes_at_first = record { inside = has_begun.mode; schema = λ _. subst HasSchema (sym has_begun.now) has; committed = λ _. has_begun.committed }

      -- before its commit nothing of it is found
      pub none_found : (found : Trees) → (state store ended).may_leave found → found ≡ (state store mid).now.trees
      none_found found may =
          (lasts begun has_begun.opened.1 found).0 (leads_leave_no_more store (state store mid).now more begun ended clean (inl goes_at_first) leads found may) ∙ ap (λ (db : Database). db.trees) has_begun.committed

      -- what is seen at its end is the whole, or, where it is no more under way, what was there before
      pub still_or_gone : StillGoes store (state store mid).now (state store ended) ⊎ IsGone store (state store mid).now (state store ended)
      still_or_gone = leads_leave store (state store mid).now more begun ended clean (inl goes_at_first) leads

      pub whole_life : IsTrue (state store ended).in_transaction → (name : List _) (before : Life) → IsLifeIn (state store mid).now true name before → IsLifeIn (state store ended).now (state store ended).is_open name (before ++ told_to name more)
      whole_life inside name before lived =
          let first = still_shown [] [] (state store mid) (state store mid) (state store begun) (begins (state store mid)).shows starts.survives.clean (λ _ _. has_begun.opened.0) (λ _ _ _. has_begun.now) in
          let shows = round_shown store more [] [] mid begun ended first leads clean inside in
          lives_go_on_in_runs (events_of more) (outcomes_of more) (state store mid).now (state store ended).is_open (state store ended).now (shows.alone clean has) (shows.devices clean has) name before lived

    -- ---- a round that is over

    module _ (round : Round) (old new : Held S) (is : IsRound store round old new) (clean : HasCleanDisk (state store new)) (has : HasSchema (state store old).now) (found : Trees) (may : (state store new).may_leave found) where
      ended_clean : HasCleanDisk (state store is.ended)
      ended_clean = was_clean store is.ended new is.ends.connection clean

      pub kept_whole : IsTrue round.1 → EndsRound (state store is.ended) (state store new)
      kept_whole kept = subst (λ (b : Bool). IsOver store b is.ended new) kept is.ends.over clean

      finds_kept : IsTrue round.1 → found ≡ (state store is.ended).now.trees
      finds_kept kept =
          let ends = kept_whole kept in
          (lasts new ends.opened.1 found).0 may ∙ ap (λ (db : Database). db.trees) ends.committed

      committed_before : (UnchangedOrUndone (state store is.ended) (state store new)) → IsTrue (state store new).is_open → (state store new).committed ≡ (state store is.ended).committed
      committed_before (inl same) open_yet = same.committed
      committed_before (inr undone) open_yet = undone.committed open_yet

      -- where a fault has shut the connection in it, nothing of it
      pub none_shut : (state store is.ended).is_open ≡ false → found ≡ (state store old).now.trees
      none_shut shut = none_found old is.begun is.begins round.0 is.ended is.leads ended_clean has found (is.ends.shut clean (λ shown. true≢false (sym shown ∙ shut)) found may)

      pub finds_round : FindsRound store round (state store old).now.trees (state store is.ended).now.trees (state store new).is_open found
      finds_round = record {
        either = elim (is.ends.survives.crash clean found may) [
          | inl before ↦ inl (none_found old is.begun is.begins round.0 is.ended is.leads ended_clean has found before)
          | inr whole ↦ inr whole
        ];
        kept = finds_kept;
        lost = λ gone open_yet.
            let shown = is.ends.connection.back clean open_yet in
            let over : UnchangedOrUndone (state store is.ended) (state store new) = (subst (λ (b : Bool). IsOver store b is.ended new) gone is.ends.over clean).0 in
            let committed : (state store is.ended).committed ≡ (state store old).now = elim (still_or_gone old is.begun is.begins round.0 is.ended is.leads ended_clean has) [
              | inl goes ↦ goes.committed shown
              | inr undone ↦ undone.committed shown
            ] in
            (lasts new open_yet found).0 may ∙ ap (λ (db : Database). db.trees) (committed_before over open_yet ∙ committed);
      }

    pub always_found : AlwaysFound store
    always_found round old new is clean has found may = finds_round round old new is clean has found may

    -- ---- behind the rounds that were kept

    -- what is seen there
    module _ (rounds : List Round) (old mid : Held S) (settles : AllSettle store old rounds mid) (clean : HasCleanDisk (state store mid)) (has : HasSchema (state store old).now) (shown : IsTrue (state store mid).is_open) (name : List _) (life : Life) (lived : IsLifeIn (state store old).now true name life) where
      pub schema_there : HasSchema (state store mid).now
      schema_there = (runs store rounds old mid settles).schema clean has shown

      pub life_there : IsLifeIn (state store mid).now true name (life ++ told_to name (kept_in rounds))
      life_there = subst (λ (b : Bool). IsLifeIn (state store mid).now b name (life ++ told_to name (kept_in rounds))) shown (always_lives rounds old mid settles clean has name life lived)

    pub round_is_not_found : RoundIsNotFound store
    round_is_not_found rounds old mid begun last new settles starts more leads next clean has name life lived found may =
        let last_is : HasCleanDisk (state store last) = cleaner next clean in
        let begun_is = was_clean store begun last (leads_keep store more begun last leads) last_is in
        let mid_is : HasCleanDisk (state store mid) = omega (arith, starts.survives.clean, begun_is) in
        let mid_shown = (starts.begun begun_is).opened.0 in
        let schema = schema_there rounds old mid settles mid_is has mid_shown name life lived in
        let there = still_or_gone mid begun starts more last leads last_is schema in
        found_of name (life ++ told_to name (kept_in rounds)) (state store mid).now true refl schema (life_there rounds old mid settles mid_is has mid_shown name life lived) found
        (none_found mid begun starts more last leads last_is schema found (no_more next clean there found may))
      where
        cleaner : (new ≡ last) ⊎ ((next : Told) × AppliesEntry store true next.0 last new next.1) → HasCleanDisk (state store new) → HasCleanDisk (state store last)
        cleaner (inl same) is = subst (λ (held : Held S). HasCleanDisk (state store held)) same is
        cleaner (inr (next, applies)) is = was_clean store last new (entry_keeps store next last new applies) is

        no_more : (new ≡ last) ⊎ ((next : Told) × AppliesEntry store true next.0 last new next.1) → HasCleanDisk (state store new) → StillGoes store (state store mid).now (state store last) ⊎ IsGone store (state store mid).now (state store last) → LeavesNoMore (state store last) (state store new)
        no_more (inl same) is there = subst (λ (held : Held S). LeavesNoMore (state store last) (state store held)) (sym same) (λ found may. may)
        no_more (inr (next, applies)) is there = entry_leaves_no_more store (state store mid).now next last new is there applies

    module _ (round : Round) (mid new : Held S) (is : IsRound store round mid new) (clean : HasCleanDisk (state store new)) (has : HasSchema (state store mid).now) (name : List _) (before : Life) (lived : IsLifeIn (state store mid).now true name before) (found : Trees) (may : (state store new).may_leave found) where
      ended_is : HasCleanDisk (state store is.ended)
      ended_is = was_clean store is.ended new is.ends.connection clean

      finds : FindsRound store round (state store mid).now.trees (state store is.ended).now.trees (state store new).is_open found
      finds = finds_round round mid new is clean has found may

      of_before : found ≡ (state store mid).now.trees → IsFound name before found
      of_before same = found_of name before (state store mid).now true refl has lived found same

      of_whole : IsTrue (state store is.ended).is_open → IsTrue (state store is.ended).in_transaction → HasSchema (state store is.ended).now → found ≡ (state store is.ended).now.trees → IsFound name (before ++ told_to name round.0) found
      of_whole shown inside schema same =
          found_of name (before ++ told_to name round.0) (state store is.ended).now (state store is.ended).is_open shown schema (whole_life mid is.begun is.begins round.0 is.ended is.leads ended_is has inside name before lived) found same

      pub finds_life : FindsLife store round name before (state store new).is_open found
      finds_life = record {
        either = elim (cases_Bool (state store is.ended).is_open) [
          | inl shown ↦ elim finds.either [
            | inl same ↦ inl (of_before same)
            | inr whole ↦ elim (still_or_gone mid is.begun is.begins round.0 is.ended is.leads ended_is has) [
              | inl goes ↦ inr (of_whole shown goes.inside (goes.schema shown) whole)
              | inr gone ↦ inl (of_before (whole ∙ ap (λ (db : Database). db.trees) (gone.now shown)))
            ]
          ]
          | inr shut ↦ inl (of_before (none_shut round mid new is clean has found may shut))
        ];
        kept = λ kept.
            let ends = kept_whole round mid new is clean has found may kept in
            elim (still_or_gone mid is.begun is.begins round.0 is.ended is.leads ended_is has) [
              | inl goes ↦ of_whole ends.opened.0 goes.inside (goes.schema ends.opened.0) (finds.kept kept)
              | inr gone ↦ absurd (true≢false (sym ends.was_under_way ∙ gone.mode))
            ];
        lost = λ gone open_yet. of_before (finds.lost gone open_yet);
      }

    pub round_is_found : RoundIsFound store
    round_is_found rounds old mid new settles round is clean has name life lived found may =
        let ended_clean = was_clean store is.ended new is.ends.connection clean in
        let begun_clean = was_clean store is.begun is.ended (leads_keep store round.0 is.begun is.ended is.leads) ended_clean in
        let mid_clean : HasCleanDisk (state store mid) = omega (arith, is.begins.survives.clean, begun_clean) in
        let mid_shown = (is.begins.begun begun_clean).opened.0 in
        finds_life round mid new is clean (schema_there rounds old mid settles mid_clean has mid_shown name life lived) name (life ++ told_to name (kept_in rounds)) (life_there rounds old mid settles mid_clean has mid_shown name life lived) found may

    -- ---- between rounds

    -- the end of a round that was lost
    lost_settles : (more : List Told) (old new : Held S) → IsRound store (more, false) old new → HasCleanDisk (state store new) → HasSchema (state store old).now → IsTrue (state store new).is_open → (state store new).now ≡ (state store new).committed
    lost_settles more old new is clean has shown =
        let ended_is = was_clean store is.ended new is.ends.connection clean in
        let over = is.ends.over clean in
        elim (still_or_gone old is.begun is.begins more is.ended is.leads ended_is has) [
          | inl goes ↦ let undone = over.1 goes.inside in undone.now shown ∙ sym (undone.committed shown)
          | inr gone ↦ elim over.0 [
            | inl same ↦ let back = is.ends.connection.back clean shown in same.now ∙ gone.now back ∙ sym (gone.committed back) ∙ sym same.committed
            | inr undone ↦ undone.now shown ∙ sym (undone.committed shown)
          ]
        ]

    leads_found : (more : List Told) (old new : Held S) → IsOnDisk (state store old) → Leads store false old more new → HasCleanDisk (state store new) → IsOnDisk (state store new)
    leads_found [] old new settled is clean = subst (λ (held : Held S). IsOnDisk (state store held)) (sym is) settled
    leads_found (told ∷ more) old new settled (next, applied, rest) clean =
        let later = (leads_on store more [] [] next next new (begins (state store next)) rest).connection in
        let next_clean : HasCleanDisk (state store next) = omega (arith, later.clean, clean) in
        leads_found more next new (applied.applies.on_disk next_clean (applied.applies.connection.mode next_clean settled.mode)) rest clean

    settle_found : (round : Round) (old new : Held S) → IsOnDisk (state store old) → Settles store round old new → HasCleanDisk (state store new) → HasSchema (state store old).now → IsTrue (state store new).is_open
        → (found : Trees) → (state store new).may_leave found → found ≡ (state store new).now.trees
    settle_found (more, true) old new settled (inl is) clean has shown found may =
        let ends = is.ends.over clean in
        (lasts new shown found).0 may ∙ ap (λ (db : Database). db.trees) (ends.committed ∙ sym ends.now)
    settle_found (more, false) old new settled (inl is) clean has shown found may =
        (lasts new shown found).0 may ∙ ap (λ (db : Database). db.trees) (sym (lost_settles more old new is clean has shown))
    settle_found round old new settled (inr (inl (alone, leads))) clean has shown found may = (leads_found round.0 old new settled leads clean).found shown found may
    settle_found round old new settled (inr (inr (is, looks))) clean has shown found may =
        let was_open = looks.connection.back clean shown in
        let same = looks.unchanged clean has shown in
        let was = settled.found was_open (state store old).committed.trees ((lasts old was_open (state store old).committed.trees).1 refl) in
        (lasts new shown found).0 may ∙ ap (λ (db : Database). db.trees) same.committed ∙ was ∙ ap (λ (db : Database). db.trees) (sym same.now)

    pub all_settled : (rounds : List Round) (old new : Held S) → IsOnDisk (state store old) → AllSettle store old rounds new → HasCleanDisk (state store new) → HasSchema (state store old).now → IsTrue (state store new).is_open → IsOnDisk (state store new)
    all_settled [] old new settled is clean has shown = subst (λ (held : Held S). IsOnDisk (state store held)) (sym is) settled
    all_settled (round ∷ more) old new settled (next, settles, rest) clean has shown =
        let one = runs store (round ∷ []) old next (next, settles, refl) in
        let later = runs store more next new rest in
        let next_clean : HasCleanDisk (state store next) = omega (arith, later.connection.clean, clean) in
        let next_shown = later.connection.back clean shown in
        let there : IsOnDisk (state store next) = record { mode = one.connection.mode next_clean settled.mode; found = λ open_yet. settle_found round old next settled settles next_clean has open_yet } in
        all_settled more next new there rest clean (one.schema next_clean has next_shown) shown

    pub kept_is_found : KeptIsFound store
    kept_is_found rounds old new settled settles clean has shown name life lived found may =
        found_of name (life ++ told_to name (kept_in rounds)) (state store new).now true refl (schema_there rounds old new settles clean has shown name life lived) (life_there rounds old new settles clean has shown name life lived) found
        ((all_settled rounds old new settled settles clean has shown).found shown found may)

    pub alone_is_found : AloneIsFound store
    alone_is_found rounds old mid new settled settles shown entry told applied clean has name life lived found may =
        let mid_clean : HasCleanDisk (state store mid) = omega (arith, applied.applies.connection.clean, clean) in
        let before = life ++ told_to name (kept_in rounds) in
        subst (λ (l : Life). IsFoundAfter name l (timed entry) (reply_of told) (state store new).is_open found) (append-nil before)
        (under_way_is_found store [] [] mid mid new (all_settled rounds old mid settled settles mid_clean has shown) refl shown (timed entry) (reply_of told) applied.applies clean (schema_there rounds old mid settles mid_clean has shown name life lived) name before (life_there rounds old mid settles mid_clean has shown name life lived) found may)

-- the library's laws of a store
pub lasts_by : {S : Type 0} (store : Ghosts S) → ((s : S) (db : Trees) → IsTrue (store.view s).is_open → store.recovers s db → db ≡ (store.view s).committed) → ((s : S) → IsTrue (store.view s).is_open → store.recovers s (store.view s).committed) → CrashesFindLastCommit store
lasts_by store settled stays held is_open found = (settled held.store found is_open, λ same. subst (store.recovers held.store) (sym same) (stays held.store is_open))
