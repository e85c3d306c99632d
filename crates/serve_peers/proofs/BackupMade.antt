-- A backup that is made slice by slice while the rooms are served.
use Rattle.std.proofs.Common.{◌≡◌, ℕ, Bool, true, false, IsTrue, List, [], ◌∷◌, ◌++◌, map, filter, Option, None, Some, option_map, Ok, Err, refl, sym, ap, subst, ◌∙◌, inl, inr}
use Rattle.std.proofs.lemmas.List.{append_cancel_left}
use Rattle.std.specs.FinMap.{empty, get-empty}
use Rattle.sqlite.specs.Effect.{Database}
use Rattle.sqlite.specs.Held.{Held, state}
use Rattle.sqlite.specs.State.{HasCleanDisk}
use Rattle.sqlite_rules.specs.Lists.{Has}
use Rattle.sqlite_trees.specs.declared.store.Store.{Ghosts}
use Rattle.store_copy.proofs.SoFar.{slices_copied}
use Rattle.store_copy.specs.Copies.{HoldsNoDevice}
use Rattle.store_copy.specs.Slices.{CopiesSlices, GoesOn, IfNamed, StaysUnderWay}
use Rattle.store_copy.specs.declared.slices.Progress.{Progress}
use Rattle.store_copy.specs.declared.slices.Progress.TheVariants.{UpTo, Anew, Within}
use Rattle.account_machine.specs.Events.{Timed}
use Rattle.account_rules.specs.Devices.{name_cmp}
use Rattle.room_serve.specs.Outcomes.{answered_of}
use Rattle.room_serve.specs.Own.{is_of}
use Rattle.rows_tables.proofs.Going.{goes_on}
use Rattle.rows_tables.specs.Accounts.{AgreeOnRows}
use Rattle.rows_tables.specs.Calls.{KeepsConnection}
use Rattle.rows_tables.specs.Cells.{device_cells, rate_cells}
use Rattle.rows_tables.specs.Devices.{HoldsDevices}
use Rattle.rows_tables.specs.Keyed.{HasSchema}
use Rattle.serve_peers.proofs.Running.{runs, was_clean}
use Rattle.serve_peers.proofs.Watched.{neither, untouched_both, untouched_parts}
use Rattle.serve_peers.specs.BackupLaws.{BackupsHold, GoesOnTo, HasNames, IsMadeBy, tables_of}
use Rattle.serve_peers.specs.Copies.{Restarts, Slices, under_way}
use Rattle.serve_peers.specs.Entries.{event_of_entry}
use Rattle.serve_peers.specs.Journals.{Round, Told, events_of, kept_in, open_of, outcomes_of, rounds_of, store_of}
use Rattle.serve_peers.specs.Keeping.{watch_of}
use Rattle.serve_peers.specs.Rounds.{Follows}
use Rattle.serve_peers.specs.ServedRuns.{IsRunOf}
use Rattle.serve_peers.specs.Watching.{seen_by, since_by, told_in, touched_in}
use Rattle.serve_peers.specs.declared.served.Served.{Served}

-- ---- an account that nothing touched

-- what was kept of rounds is of what was asked in them
kept_untouched : (account : Option (List ℕ)) (rounds : List Round) → touched_in account (told_in rounds) ≡ false → touched_in account (kept_in rounds) ≡ false
kept_untouched account [] none = refl
kept_untouched account ((told, kept) ∷ rounds) none =
    let parts = untouched_parts account told (told_in rounds) none in
    by kept parts.0 (kept_untouched account rounds parts.1)
  where
    by : (kept : Bool) → touched_in account told ≡ false → touched_in account (kept_in rounds) ≡ false → touched_in account (kept_in ((told, kept) ∷ rounds)) ≡ false
    by true first more = untouched_both account told (kept_in rounds) first more
    by false first more = more

none_of_it : (name : List ℕ) (more : List Told) → touched_in (Some name) more ≡ false → filter (λ (e : Timed). is_of name e.1) (answered_of (events_of more) (outcomes_of more)) ≡ []
none_of_it name [] none = refl
none_of_it name ((entry, Ok reply) ∷ more) none =
    let parts = neither (is_of name (event_of_entry entry)) (touched_in (Some name) more) none in
    rw parts.0 (none_of_it name more parts.1)
none_of_it name ((entry, Err fault) ∷ more) none = none_of_it name more (neither (is_of name (event_of_entry entry)) (touched_in (Some name) more) none).1

module _ {S : Type 0} (store : Ghosts S) where
  follow : (old new : Served S) (f : Follows store old new) → IsRunOf store (kept_in f.more) (store_of old) (store_of new)
  follow old new f = runs store f.more (store_of old) (store_of new) f.settles

  -- where the watch was not touched, the rows are as they were
  still_agrees : (name : List ℕ) (old next : Served S) (f : Follows store old next) → seen_by (watch_of next) ≡ rounds_of old → (watch_of next).account ≡ Some name → (watch_of next).touched ≡ false → HasCleanDisk (state store (store_of next)) → HasSchema (tables_of store old)
      → IsTrue (state store (store_of next)).is_open → AgreeOnRows name (tables_of store old) (tables_of store next)
  still_agrees name old next f seen account untouched clean has shown =
      let watched = next.journal.watched in
      let since : since_by (watch_of next) ≡ f.more = append_cancel_left (rounds_of old) (since_by (watch_of next)) f.more (ap (λ x. x ++ since_by (watch_of next)) (sym seen) ∙ sym watched.rounds ∙ f.over) in
      let none = (untouched_parts (watch_of next).account (told_in (since_by (watch_of next))) (open_of next) (watched.untouched untouched)).0 in
      let none_more : touched_in (Some name) (told_in f.more) ≡ false = subst (λ (account : Option (List ℕ)). touched_in account (told_in f.more) ≡ false) account (subst (λ (rounds : List Round). touched_in (watch_of next).account (told_in rounds) ≡ false) since none) in
      ((follow old next f).rest clean has shown).accounts name (none_of_it name (kept_in f.more) (kept_untouched (Some name) f.more none_more))

no_device : (db : Database) → HoldsDevices db empty → HoldsNoDevice db
no_device db holds = record {
  no_device = λ name. holds.device_rows name ∙ ap (option_map device_cells) (get-empty name_cmp name);
  no_rate = λ name. holds.rate_rows name ∙ ap (option_map rate_cells) (get-empty name_cmp name);
}

module _ {S T : Type 0} (store : Ghosts S) (copy_store : Ghosts T) where
  -- ---- what was seen of the connections, from the end on

  source_keeps : (from : Progress) (old : Served S) (rows : Held T) (later : List (Served S)) (last : Served S) (whole : Held T) → IsMadeBy store copy_store from old rows later last whole → KeepsConnection (state store (store_of old)) (state store (store_of last))
  source_keeps from old rows [] last whole is = is.looks.connection
  source_keeps from old rows (next ∷ later) last whole (to, done, further, slice, goes, rest) =
      goes_on (state store (store_of old)) (state store (store_of done)) (state store (store_of last)) slice.looks.connection
      (goes_on (state store (store_of done)) (state store (store_of next)) (state store (store_of last)) (follow store done next goes.follows).connection (source_keeps to next further later last whole rest))

  slice_keeps : (touched : Bool) (from : Progress) (to : Option Progress) (source looked : Held S) (rows new : Held T) → Slices store copy_store touched from to source looked rows new → KeepsConnection (state copy_store rows) (state copy_store new)
  slice_keeps touched from to source looked rows new is = goes_on (state copy_store rows) (state copy_store is.begun) (state copy_store new) is.restarted is.copied

  copy_keeps : (from : Progress) (old : Served S) (rows : Held T) (later : List (Served S)) (last : Served S) (whole : Held T) → IsMadeBy store copy_store from old rows later last whole → KeepsConnection (state copy_store rows) (state copy_store whole)
  copy_keeps from old rows [] last whole is = slice_keeps _ from None _ _ rows whole is.slices
  copy_keeps from old rows (next ∷ later) last whole (to, done, further, slice, goes, rest) =
      goes_on (state copy_store rows) (state copy_store further) (state copy_store whole) (slice_keeps _ from (Some to) _ _ rows further slice.slices) (copy_keeps to next further later last whole rest)

  -- ---- one slice

  begun_has : (touched : Bool) (from again : Progress) (rows begun : Held T) → Restarts store copy_store touched from again rows begun → HasCleanDisk (state copy_store begun) → HasSchema (state copy_store rows).now → HasSchema (state copy_store begun).now
  begun_has false from again rows begun is clean has = subst (λ (held : Held T). HasSchema (state copy_store held).now) (sym is.1) has
  begun_has true from again rows begun is clean has = (is clean has).0

  -- between two slices
  goes_on_so : (to again : Progress) (done next : Served S) (further begun : Held T) (source : Database) → source ≡ tables_of store done → GoesOnTo store copy_store to done next → Restarts store copy_store (watch_of next).touched to again further begun
      → HasCleanDisk (state copy_store begun) → HasSchema (state copy_store further).now → HasCleanDisk (state store (store_of next)) → HasSchema (tables_of store done) → IsTrue (state store (store_of next)).is_open
      → GoesOn to again source (tables_of store next) (state copy_store further).now (state copy_store begun).now
  goes_on_so to again done next further begun source same goes restarts begun_clean has clean has_source shown = by (watch_of next).touched refl restarts
    where
      stays : (to : Progress) → (watch_of next).account ≡ under_way to → (watch_of next).touched ≡ false → StaysUnderWay to source (tables_of store next)
      stays (UpTo last) account untouched = tt
      stays (Anew name) account untouched = tt
      stays (Within name next_job job) account untouched = subst (λ (db : Database). AgreeOnRows name db (tables_of store next)) (sym same) (still_agrees store name done next goes.follows goes.seen account untouched clean has_source shown)

      by : (touched : Bool) → (watch_of next).touched ≡ touched → Restarts store copy_store touched to again further begun → GoesOn to again source (tables_of store next) (state copy_store further).now (state copy_store begun).now
      by false is restarts = inl (stays to goes.account is, restarts.0, ap (λ (held : Held T). (state copy_store held).now) restarts.1)
      by true is restarts = inr (restarts begun_clean has).1

  -- ---- all slices

  abbrev Made : (from : Progress) (old : Served S) (rows : Held T) (later : List (Served S)) (whole : Held T) → Type 0
  Made from old rows later whole = (again : Progress) × (begun : Held T) × HasCleanDisk (state copy_store begun) × Restarts store copy_store (watch_of old).touched from again rows begun
      × CopiesSlices again (tables_of store old) (map (tables_of store) later) (state copy_store begun).now (state copy_store whole).now

  named : (db : Database) (told : Type 0) → HasNames db → IfNamed db told → told
  named db told has if_named = if_named has.names has.are has.named

  made : (from : Progress) (old : Served S) (rows : Held T) (later : List (Served S)) (last : Served S) (whole : Held T) → IsMadeBy store copy_store from old rows later last whole → HasCleanDisk (state store (store_of last)) → IsTrue (state store (store_of last)).is_open
      → HasCleanDisk (state copy_store whole) → HasSchema (tables_of store old) → HasSchema (state copy_store rows).now → ((db : Database) → Has (tables_of store old ∷ map (tables_of store) later) db → HasNames db) → Made from old rows later whole
  made from old rows [] last whole is clean shown copied has has_rows names =
      let s = is.slices in
      let begun_clean = was_clean copy_store s.begun whole s.copied copied in
      let slice = s.slice copied (begun_has (watch_of old).touched from s.again rows s.begun s.restarts begun_clean has_rows) in (
        s.again,
        s.begun,
        begun_clean,
        s.restarts,
        named (tables_of store old) _ (names (tables_of store old) (inl refl)) (slice.1 clean has),
      )
  made from old rows (next ∷ later) last whole (to, done, further, is, goes, rest) clean shown copied has has_rows names =
      let s = is.slices in
      let later_keeps = source_keeps to next further later last whole rest in
      let next_clean = was_clean store (store_of next) (store_of last) later_keeps clean in
      let next_shown = later_keeps.back clean shown in
      let follows = follow store done next goes.follows in
      let done_clean = was_clean store (store_of done) (store_of next) follows.connection next_clean in
      let done_shown = follows.connection.back next_clean next_shown in
      let unchanged : tables_of store done ≡ tables_of store old = (is.looks.unchanged done_clean has done_shown).now in
      let has_done : HasSchema (tables_of store done) = subst (λ (db : Database). HasSchema db) (sym unchanged) has in
      let has_next : HasSchema (tables_of store next) = follows.schema next_clean has_done next_shown in
      let further_clean = was_clean copy_store further whole (copy_keeps to next further later last whole rest) copied in
      let begun_clean = was_clean copy_store s.begun further s.copied further_clean in
      let slice = s.slice further_clean (begun_has (watch_of old).touched from s.again rows s.begun s.restarts begun_clean has_rows) in
      let on = made to next further later last whole rest clean shown copied has_next slice.0 (λ db there. names db (inr there)) in (
        s.again,
        s.begun,
        begun_clean,
        s.restarts,
        (
          to,
          on.0,
          (state copy_store further).now,
          (state copy_store on.1).now,
          named (tables_of store old) _ (names (tables_of store old) (inl refl)) (slice.1 done_clean has),
          goes_on_so to on.0 done next further on.1 (tables_of store old) (sym unchanged) goes on.3 on.2 slice.0 next_clean has_done next_shown,
          on.4,
        ),
      )

  -- the first one begins with nothing
  begins_new : (touched : Bool) (again : Progress) (rows begun : Held T) → Restarts store copy_store touched (UpTo None) again rows begun → HasCleanDisk (state copy_store begun) → HasSchema (state copy_store rows).now
      → (again ≡ UpTo None) × ((state copy_store begun).now ≡ (state copy_store rows).now)
  begins_new false again rows begun is clean has = (is.0, ap (λ (held : Held T). (state copy_store held).now) is.1)
  begins_new true again rows begun is clean has = (is clean has).1

  pub backups_hold : BackupsHold store copy_store
  backups_hold old rows later last whole is_new made_by clean shown copied has names =
      let rows_clean = was_clean copy_store rows whole (copy_keeps (UpTo None) old rows later last whole made_by) copied in
      let new = is_new rows_clean in
      let is = made (UpTo None) old rows later last whole made_by clean shown copied has new.has_schema names in
      let begins = begins_new (watch_of old).touched is.0 rows is.1 is.3 is.2 new.has_schema in
      slices_copied (tables_of store old) (map (tables_of store) later) (state copy_store rows).now (state copy_store whole).now new.no_account (no_device (state copy_store rows).now new.no_device)
      (subst (λ (before : Database). CopiesSlices (UpTo None) (tables_of store old) (map (tables_of store) later) before (state copy_store whole).now) begins.1
      (subst (λ (from : Progress). CopiesSlices from (tables_of store old) (map (tables_of store) later) (state copy_store is.1).now (state copy_store whole).now) begins.0 is.4))
