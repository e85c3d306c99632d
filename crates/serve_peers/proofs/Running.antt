-- What is applied one round after another is run as a list of events.
use Rattle.std.proofs.Common.{◌≡◌, suc, true, false, List, [], ◌∷◌, ◌++◌, length, if◌then◌else◌, IsTrue, refl, sym, ap, subst, ◌∙◌, append_assoc, append-nil, inl, inr, ◌⊎◌, arith}
use Rattle.std.proofs.lemmas.Bool.{cases_Bool, true≢false}
use Rattle.std.proofs.lemmas.List.{length-append, map-append}
use Rattle.sqlite.specs.Effect.{Database}
use Rattle.sqlite.specs.Held.{Held, state}
use Rattle.sqlite.specs.State.{State, HasCleanDisk}
use Rattle.sqlite_trees.specs.declared.store.Store.{Ghosts}
use Rattle.account_machine.specs.Events.{Timed}
use Rattle.account_machine.specs.Verdicts.{reply_of}
use Rattle.room_serve.proofs.RunLemmas.{Shows, SoFar, begins, next_schema, one_more, one_shown, still_shown}
use Rattle.room_serve.specs.Outcomes.{outcome_of}
use Rattle.room_serve.specs.declared.outcome.Outcome.{Outcome}
use Rattle.rows_statements.specs.Rounds.{BeginsRound}
use Rattle.rows_tables.proofs.Going.{goes_on}
use Rattle.rows_tables.specs.Calls.{KeepsConnection, LeavesNoMore}
use Rattle.rows_tables.specs.Keyed.{HasSchema}
use Rattle.serve_peers.proofs.LineEnds.{on_err}
use Rattle.serve_peers.specs.Entries.{event_of_entry, moment_at, timed}
use Rattle.serve_peers.specs.Journals.{Round, Told, events_of, kept_in, outcomes_of}
use Rattle.serve_peers.specs.Applying.{AppliesEntry, Leads}
use Rattle.serve_peers.specs.Rounds.{AllSettle, IsRound, Settles}
use Rattle.serve_peers.specs.ServedRuns.{AlwaysRuns}

-- the same, whether a transaction is under way or not
abbrev outside : State → State
outside s = record s { in_transaction = false }

keeps_outside : (old new : State) → KeepsConnection old new → KeepsConnection (outside old) (outside new)
keeps_outside old new keeps = record { clean = keeps.clean; back = keeps.back; mode = λ _ _. refl; shield = keeps.shield; counts = keeps.counts; limit = keeps.limit; closes = keeps.closes }

module _ {S : Type 0} (store : Ghosts S) where
  pub lengths : (more : List Told) → length (outcomes_of more) ≡ length (events_of more)
  lengths [] = refl
  lengths (told ∷ more) = ap suc (lengths more)

  -- ---- each by itself

  pub leads_on : (more : List Told) (events : List Timed) (outcomes : List Outcome) (old mid new : Held S) → SoFar events outcomes (state store old) (state store mid) → Leads store false mid more new
      → SoFar (events ++ events_of more) (outcomes ++ outcomes_of more) (state store old) (state store new)
  leads_on [] events outcomes old mid new so_far is = rw (append-nil events, append-nil outcomes) (subst (λ (held : Held S). SoFar events outcomes (state store old) (state store held)) (sym is) so_far)
  leads_on (told ∷ more) events outcomes old mid new so_far leads =
      let e = timed told.0 in
      let o = outcome_of (reply_of told.1) in
      let next = one_more events outcomes e (state store old) (state store mid) (state store leads.0) (reply_of told.1) so_far leads.1.applies in
      let on = leads_on more (events ++ e ∷ []) (outcomes ++ o ∷ []) old leads.0 new next leads.2 in
      rw (append_assoc events (e ∷ []) (events_of more), append_assoc outcomes (o ∷ []) (outcomes_of more)) at on

  -- ---- in a round

  pub entry_keeps : (told : Told) (old new : Held S) → AppliesEntry store true told.0 old new told.1 → KeepsConnection (state store old) (state store new)
  entry_keeps told old new (inl shared) = shared.connection
  entry_keeps told old new (inr late) = subst (λ (held : Held S). KeepsConnection (state store old) (state store held)) (sym late.same) (begins (state store old)).connection

  pub leads_keep : (more : List Told) (old new : Held S) → Leads store true old more new → KeepsConnection (state store old) (state store new)
  leads_keep [] old new is = subst (λ (held : Held S). KeepsConnection (state store old) (state store held)) (sym is) (begins (state store old)).connection
  leads_keep (told ∷ more) old new leads = goes_on (state store old) (state store leads.0) (state store new) (entry_keeps told old leads.0 leads.1) (leads_keep more leads.0 new leads.2)

  -- what is under way at the end was so before
  was_inside : (old new : Held S) → KeepsConnection (state store old) (state store new) → HasCleanDisk (state store new) → IsTrue (state store new).in_transaction → IsTrue (state store old).in_transaction
  was_inside old new keeps clean inside = elim (cases_Bool (state store old).in_transaction) [
    | inl is ↦ is
    | inr isnt ↦ absurd (true≢false (sym inside ∙ keeps.mode clean isnt))
  ]

  pub was_clean : (old new : Held S) → KeepsConnection (state store old) (state store new) → HasCleanDisk (state store new) → HasCleanDisk (state store old)
  was_clean old new keeps clean = omega (arith, keeps.clean, clean)

  pub round_shown : (more : List Told) (events : List Timed) (outcomes : List Outcome) (old mid new : Held S) → Shows events outcomes (state store old) (state store mid) → Leads store true mid more new
      → HasCleanDisk (state store new) → IsTrue (state store new).in_transaction
      → Shows (events ++ events_of more) (outcomes ++ outcomes_of more) (state store old) (state store new)
  round_shown [] events outcomes old mid new shown is clean inside = rw (append-nil events, append-nil outcomes) (subst (λ (held : Held S). Shows events outcomes (state store old) (state store held)) (sym is) shown)
  round_shown (told ∷ more) events outcomes old mid new shown (next, applies, leads) clean inside =
      let e = timed told.0 in
      let o = outcome_of (reply_of told.1) in
      let later = leads_keep more next new leads in
      let next_clean = was_clean next new later clean in
      let next_inside = was_inside next new later clean inside in
      let mid_inside = was_inside mid next (entry_keeps told mid next applies) next_clean next_inside in
      let there : Shows (events ++ e ∷ []) (outcomes ++ o ∷ []) (state store old) (state store next) = elim applies [
        | inl shared ↦ one_shown events outcomes e (state store old) (state store mid) (state store next) (reply_of told.1) shown (shared.applies (λ _. on_err told.1 _ (next_inside ∙ sym mid_inside))).applies
        | inr late ↦ absurd (true≢false (sym mid_inside ∙ late.lost))
      ] in
      let on = round_shown more (events ++ e ∷ []) (outcomes ++ o ∷ []) old next new there leads clean inside in
      rw (append_assoc events (e ∷ []) (events_of more), append_assoc outcomes (o ∷ []) (outcomes_of more)) at on

  -- ---- a round that was kept

  round_keeps : (round : Round) (old new : Held S) → IsRound store round old new → ((is : IsRound store round old new) → HasCleanDisk (state store new) → (state store new).in_transaction ≡ false) → KeepsConnection (state store old) (state store new)
  round_keeps round old new is ended =
      let b = state store is.begun in
      let e = state store is.ended in
      let first : KeepsConnection (state store old) (outside b) = record {
        clean = is.begins.survives.clean;
        back = λ clean _. (is.begins.begun clean).opened.0;
        mode = λ _ _. refl;
        shield = is.begins.survives.shield;
        counts = is.begins.survives.counts;
        limit = is.begins.survives.limit;
        closes = is.begins.survives.closes;
      } in
      let last : KeepsConnection (outside e) (state store new) = record {
        clean = is.ends.connection.clean;
        back = is.ends.connection.back;
        mode = λ clean _. ended is clean;
        shield = is.ends.connection.shield;
        counts = is.ends.connection.counts;
        limit = is.ends.connection.limit;
        closes = is.ends.connection.closes;
      } in
      goes_on (state store old) (outside b) (state store new) first (goes_on (outside b) (outside e) (state store new) (keeps_outside b e (leads_keep round.0 is.begun is.ended is.leads)) last)

  module _ (events : List Timed) (outcomes : List Outcome) (a old new : Held S) where
    kept_shown : (more : List Told) → SoFar events outcomes (state store a) (state store old) → IsRound store (more, true) old new → HasCleanDisk (state store new)
        → Shows (events ++ events_of more) (outcomes ++ outcomes_of more) (state store a) (state store new)
    kept_shown more so_far is clean =
        let ends = is.ends.over clean in
        let ended_clean = was_clean is.ended new is.ends.connection clean in
        let begun_clean = was_clean is.begun is.ended (leads_keep more is.begun is.ended is.leads) ended_clean in
        let begun : BeginsRound (state store old) (state store is.begun) = is.begins.begun begun_clean in
        let first = still_shown events outcomes (state store a) (state store old) (state store is.begun) so_far.shows is.begins.survives.clean (λ _ _. begun.opened.0) (λ _ _ _. begun.now) in
        let in_round = round_shown more events outcomes a is.begun is.ended first is.leads ended_clean ends.was_under_way in
        still_shown (events ++ events_of more) (outcomes ++ outcomes_of more) (state store a) (state store is.ended) (state store new) in_round is.ends.connection.clean (λ _ _. ends.opened.0) (λ _ _ _. ends.now)

    kept : (more : List Told) → SoFar events outcomes (state store a) (state store old) → IsRound store (more, true) old new → SoFar (events ++ events_of more) (outcomes ++ outcomes_of more) (state store a) (state store new)
    kept more so_far is =
        let shown = kept_shown more so_far is in
        record {
          shows = record {
            each = length-append outcomes (outcomes_of more) ∙ rw (so_far.shows.each, lengths more) (sym (length-append events (events_of more)));
            schema = λ clean. (shown clean).schema clean;
            alone = λ clean. (shown clean).alone clean;
            devices = λ clean. (shown clean).devices clean;
            rest = λ clean. (shown clean).rest clean;
          };
          connection = goes_on (state store a) (state store old) (state store new) so_far.connection (round_keeps (more, true) old new is (λ it clean. (it.ends.over clean).mode));
        }

  -- ---- a round that was lost

  -- within it nothing is committed, and once it is lost what is seen is what was committed before
  pub record StillGoes (db : Database) (s : State) : Type 0 where
    pub inside : IsTrue s.in_transaction
    pub schema : IsTrue s.is_open → HasSchema s.now
    pub committed : IsTrue s.is_open → s.committed ≡ db

  pub record IsGone (db : Database) (s : State) : Type 0 where
    pub mode : s.in_transaction ≡ false
    pub now : IsTrue s.is_open → s.now ≡ db
    pub committed : IsTrue s.is_open → s.committed ≡ db

  entry_leaves : (db : Database) (told : Told) (old new : Held S) → HasCleanDisk (state store new) → StillGoes db (state store old) ⊎ IsGone db (state store old) → AppliesEntry store true told.0 old new told.1
      → StillGoes db (state store new) ⊎ IsGone db (state store new)
  entry_leaves db told old new clean (inr gone) (inl shared) = absurd (true≢false (sym shared.inside ∙ gone.mode))
  entry_leaves db told old new clean was (inr late) = subst (λ (held : Held S). StillGoes db (state store held) ⊎ IsGone db (state store held)) (sym late.same) was
  entry_leaves db told old new clean (inl goes) (inl shared) =
      let back : IsTrue (state store new).is_open → IsTrue (state store old).is_open = shared.connection.back clean in
      elim (cases_Bool (state store new).in_transaction) [
        | inl inside ↦ inl (record {
          inside = inside;
          schema = λ shown. next_schema (moment_at told.0) (event_of_entry told.0) (state store old) (state store new) (reply_of told.1) (shared.applies (λ _. on_err told.1 _ (inside ∙ sym goes.inside))).applies clean goes.schema shown;
          committed = λ shown. (shared.within clean (goes.schema (back shown))).committed goes.inside shown ∙ goes.committed (back shown);
        })
        | inr outside ↦
            let undone = λ (shown : IsTrue (state store new).is_open). (shared.lost clean (goes.schema (back shown)) goes.inside outside).1 in
            inr (record {
              mode = outside;
              now = λ shown. (undone shown).now shown ∙ goes.committed (back shown);
              committed = λ shown. (undone shown).committed shown ∙ goes.committed (back shown);
            })
      ]

  pub leads_leave : (db : Database) (more : List Told) (old new : Held S) → HasCleanDisk (state store new) → StillGoes db (state store old) ⊎ IsGone db (state store old) → Leads store true old more new → StillGoes db (state store new) ⊎ IsGone db (state store new)
  leads_leave db [] old new clean was is = subst (λ (held : Held S). StillGoes db (state store held) ⊎ IsGone db (state store held)) (sym is) was
  leads_leave db (told ∷ more) old new clean was (next, applies, leads) =
      leads_leave db more next new clean (entry_leaves db told old next (was_clean next new (leads_keep more next new leads) clean) was applies) leads

  -- ---- what a crash finds

  pub entry_leaves_no_more : (db : Database) (told : Told) (old new : Held S) → HasCleanDisk (state store new) → StillGoes db (state store old) ⊎ IsGone db (state store old) → AppliesEntry store true told.0 old new told.1
      → LeavesNoMore (state store old) (state store new)
  entry_leaves_no_more db told old new clean (inr gone) (inl shared) = absurd (true≢false (sym shared.inside ∙ gone.mode))
  entry_leaves_no_more db told old new clean (inl goes) (inl shared) =
      elim (cases_Bool (state store old).is_open) [
        | inl shown ↦ (shared.within clean (goes.schema shown)).crash goes.inside
        | inr shut ↦ shared.shut clean (λ shown. true≢false (sym shown ∙ shut))
      ]
  entry_leaves_no_more db told old new clean was (inr late) = subst (λ (held : Held S). LeavesNoMore (state store old) (state store held)) (sym late.same) (λ found may. may)

  pub leads_leave_no_more : (db : Database) (more : List Told) (old new : Held S) → HasCleanDisk (state store new) → StillGoes db (state store old) ⊎ IsGone db (state store old) → Leads store true old more new
      → LeavesNoMore (state store old) (state store new)
  leads_leave_no_more db [] old new clean was is = subst (λ (held : Held S). LeavesNoMore (state store old) (state store held)) (sym is) (λ found may. may)
  leads_leave_no_more db (told ∷ more) old new clean was (next, applies, leads) = λ found may.
      let later = leads_keep more next new leads in
      let next_clean = was_clean next new later clean in
      entry_leaves_no_more db told old next next_clean was applies found (leads_leave_no_more db more next new clean (entry_leaves db told old next next_clean was applies) leads found may)

  module _ (more : List Told) (old new : Held S) (is : IsRound store (more, false) old new) (clean : HasCleanDisk (state store new)) where
    lost_mode : (state store new).in_transaction ≡ false
    lost_mode = elim (cases_Bool (state store is.ended).in_transaction) [
      | inl inside ↦ ((is.ends.over clean).1 inside).mode
      | inr outside ↦ is.ends.connection.mode clean outside
    ]

    lost_same : (IsTrue (state store old).is_open → HasSchema (state store old).now) → IsTrue (state store new).is_open → (state store new).now ≡ (state store old).now
    lost_same has shown =
        let db = (state store old).now in
        let ended_clean = was_clean is.ended new is.ends.connection clean in
        let begun_clean = was_clean is.begun is.ended (leads_keep more is.begun is.ended is.leads) ended_clean in
        let begun : BeginsRound (state store old) (state store is.begun) = is.begins.begun begun_clean in
        let first : StillGoes db (state store is.begun) = record { inside = begun.mode; schema = λ _. subst HasSchema (sym begun.now) (has begun.opened.0); committed = λ _. begun.committed } in
        let back = is.ends.connection.back clean shown in
        elim (leads_leave db more is.begun is.ended ended_clean (inl first) is.leads) [
          | inl goes ↦ ((is.ends.over clean).1 goes.inside).now shown ∙ goes.committed back
          | inr gone ↦ elim (is.ends.over clean).0 [
            | inl same ↦ same.now ∙ gone.now back
            | inr undone ↦ undone.now shown ∙ gone.committed back
          ]
        ]

  module _ (events : List Timed) (outcomes : List Outcome) (a old new : Held S) (so_far : SoFar events outcomes (state store a) (state store old)) where
    -- nothing becomes of what is seen
    nothing_more : KeepsConnection (state store old) (state store new) → (HasCleanDisk (state store new) → (IsTrue (state store old).is_open → HasSchema (state store old).now) → IsTrue (state store new).is_open → (state store new).now ≡ (state store old).now)
        → SoFar events outcomes (state store a) (state store new)
    nothing_more keeps same = record {
      shows = still_shown events outcomes (state store a) (state store old) (state store new) so_far.shows keeps.clean keeps.back (λ clean has. same clean (so_far.shows.schema (was_clean old new keeps clean) has));
      connection = goes_on (state store a) (state store old) (state store new) so_far.connection keeps;
    }

  -- ---- one round after another

  abbrev pub RunsOn : (events : List Timed) (outcomes : List Outcome) (old : Held S) (more : List Told) (new : Held S) → Type 0
  RunsOn events outcomes old more new = SoFar (events ++ events_of more) (outcomes ++ outcomes_of more) (state store old) (state store new)

  none_more : (events : List Timed) (outcomes : List Outcome) (old new : Held S) → SoFar events outcomes (state store old) (state store new) → RunsOn events outcomes old [] new
  none_more events outcomes old new so_far = rw (append-nil events, append-nil outcomes) so_far

  settle_one : (round : Round) (events : List Timed) (outcomes : List Outcome) (a old new : Held S) → SoFar events outcomes (state store a) (state store old) → Settles store round old new
      → RunsOn events outcomes a (if round.1 then round.0 else []) new
  settle_one (more, true) events outcomes a old new so_far (inl is) = kept events outcomes a old new more so_far is
  settle_one (more, false) events outcomes a old new so_far (inl is) =
      none_more events outcomes a new (nothing_more events outcomes a old new so_far (round_keeps (more, false) old new is (λ it clean. lost_mode more old new it clean)) (λ clean. lost_same more old new is clean))
  settle_one (more, true) events outcomes a old new so_far (inr (inl (alone, leads))) = leads_on more events outcomes a old new so_far leads
  settle_one (more, false) events outcomes a old new so_far (inr (inl (alone, leads))) = absurd (true≢false (sym alone))
  settle_one (more, true) events outcomes a old new so_far (inr (inr (is, looks))) = absurd (true≢false (ap (λ (round : Round). round.1) is))
  settle_one (more, false) events outcomes a old new so_far (inr (inr (is, looks))) =
      none_more events outcomes a new (nothing_more events outcomes a old new so_far looks.connection (λ clean has shown. (looks.unchanged clean (has (looks.connection.back clean shown)) shown).now))

  pub settle_on : (rounds : List Round) (events : List Timed) (outcomes : List Outcome) (a mid new : Held S) → SoFar events outcomes (state store a) (state store mid) → AllSettle store mid rounds new → RunsOn events outcomes a (kept_in rounds) new
  settle_on [] events outcomes a mid new so_far is = none_more events outcomes a new (subst (λ (held : Held S). SoFar events outcomes (state store a) (state store held)) (sym is) so_far)
  settle_on (round ∷ more) events outcomes a mid new so_far (next, settles, later) =
      let these = if round.1 then round.0 else [] in
      let first = settle_one round events outcomes a mid next so_far settles in
      let on = settle_on more (events ++ events_of these) (outcomes ++ outcomes_of these) a next new first later in
      let all_events : (events ++ events_of these) ++ events_of (kept_in more) ≡ events ++ events_of (these ++ kept_in more) =
      append_assoc events (events_of these) (events_of (kept_in more)) ∙ ap (λ x. events ++ x) (sym (map-append (λ (told : Told). timed told.0) these (kept_in more))) in
      let all_outcomes : (outcomes ++ outcomes_of these) ++ outcomes_of (kept_in more) ≡ outcomes ++ outcomes_of (these ++ kept_in more) =
      append_assoc outcomes (outcomes_of these) (outcomes_of (kept_in more)) ∙ ap (λ x. outcomes ++ x) (sym (map-append (λ (told : Told). outcome_of (reply_of told.1)) these (kept_in more))) in
      rw (all_events, all_outcomes) at on

  pub runs : AlwaysRuns store
  runs rounds old new settles = let so_far = settle_on rounds [] [] old old new (begins (state store old)) settles in record {
    alone = so_far.shows.alone;
    devices = so_far.shows.devices;
    rest = so_far.shows.rest;
    schema = so_far.shows.schema;
    connection = so_far.connection;
  }
