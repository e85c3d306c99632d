-- How an event is put together of reads, a decision and a change.
use Rattle.std.proofs.Common.{◌≡◌, ◌⊎◌, Result, Ok, Err, IfOk, IfErr, sym, ap, subst, ◌∙◌, inl, inr, arith}
use Rattle.sqlite_trees.specs.Tree.{Trees}
use Rattle.sqlite_trees.specs.declared.store.Store.{Ghosts}
use Rattle.sqlite.specs.Effect.{Database}
use Rattle.sqlite.specs.State.{HasCleanDisk}
use Rattle.sqlite.specs.Held.{Held, state}
use Rattle.rows_tables.specs.Calls.{AllOrNothing, KeepsConnection, IsUnchanged, IfOurTables, IsFoundWhole, LeavesWhole, ReadsStore, UnchangedOrUndone}
use Rattle.rows_tables.specs.Keyed.{HasSchema}
use Rattle.rows_tables.specs.declared.fault.TableFault.{TableFault}
use Rattle.rows_tables.specs.declared.fault.TableFault.TheVariants as fault
use Rattle.rows_tables.proofs.Going.{keeps_after, keeps_unchanged, undone_after}
use Rattle.rows_tables.proofs.KeyedRows.{same_fault}
use Rattle.store_rounds.specs.Looks.{StaysOpen, LooksUp}
use Rattle.store_events.specs.Serving.{ChangesRows, DoesToTables}
use Rattle.store_rounds.proofs.LookLemmas.{Passed, on_ok_with, if_ok_with, on_err_with, looks_read, goes_after}

-- ---- events

module _ {R T : Type 0} (Before : R → Database → Type 0) (Readable : Database → Type 0) (Alone : Database → Database → Type 0) (told : R → T) (After : R → Database → Type 0) {S : Type 0} (store : Ghosts S) where
  module _ (old mid : Held S) (passed : Passed (state store old) (state store mid)) where
    -- reads alone, and an answer
    pub answers : (stay : (db : Database) → Alone db db) (it : T)
        → (HasCleanDisk (state store mid) → HasSchema (state store old).now → (of : R) → Before of (state store old).now → (it ≡ told of) × After of (state store old).now)
        → DoesToTables store old mid Before Readable Alone told After (Ok it)
    answers stay it is = record {
      connection = record { keeps = passed.keeps; opened = passed.opened };
      schema = λ clean has. subst HasSchema (sym (passed.same clean has).now) has;
      answer = λ clean has of held. (is clean has of held).0;
      left = λ clean has of held. subst (After of) (sym (passed.same clean has).now) (is clean has of held).1;
      alone = λ clean has. subst (Alone (state store old).now) (sym (passed.same clean has).now) (stay (state store old).now);
      within = λ clean has. keeps_unchanged (state store old) (state store mid) (passed.same clean has);
      undone = λ clean has. tt;
      damaged = λ clean has e. absurd (let no : ⊥ = cc in no);
      crash = λ clean has found may. inl (passed.crash clean has found may);
    }

    -- and lack of memory
    pub wants_memory : DoesToTables store old mid Before Readable Alone told After (Err fault.Memory)
    wants_memory = record {
      connection = record { keeps = passed.keeps; opened = λ clean. tt };
      schema = λ clean has. tt;
      answer = λ clean has. tt;
      left = λ clean has. tt;
      alone = λ clean has. tt;
      within = λ clean has. tt;
      undone = λ clean has. inl (passed.same clean has);
      damaged = λ clean has e. absurd (let no : ⊥ = cc in no);
      crash = λ clean has found may. inl (passed.crash clean has found may);
    }

    -- so a reply that says this, or wants memory
    pub says : (stay : (db : Database) → Alone db db) (said : T) (r : Result T TableFault) → IfOk r (λ it. it ≡ said) → IfErr r (λ e. e ≡ fault.Memory)
        → (HasCleanDisk (state store mid) → HasSchema (state store old).now → (of : R) → Before of (state store old).now → (said ≡ told of) × After of (state store old).now)
        → DoesToTables store old mid Before Readable Alone told After r
    says stay said (Ok it) line memory is = answers stay it (λ clean has of held. let one = is clean has of held in (line ∙ one.0, one.1))
    says stay said (Err e) line memory is = subst (λ e. DoesToTables store old mid Before Readable Alone told After (Err e)) (sym memory) wants_memory

    -- what a crash leaves of what comes after reads
    found_as : {new : Held S} {Changed : Database → Database → Type 0} {found : Trees} → IsUnchanged (state store old) (state store mid) → (whole : IsFoundWhole store mid new Changed found)
        → ChangesRows Before Alone After (state store old).now whole.after → IsFoundWhole store old new (ChangesRows Before Alone After) found
    found_as same whole change = record { after = whole.after; trees = whole.trees; schema = whole.schema; change = change; outside = sym same.mode ∙ whole.outside }

    -- reads first, and then the rest
    pub serves_after : {Rest : Database → Type 0} (new : Held S) (result : Result T TableFault)
        → (HasCleanDisk (state store new) → HasSchema (state store old).now → Readable (state store old).now → Rest (state store old).now)
        → DoesToTables store mid new Before Rest Alone told After result → DoesToTables store old new Before Readable Alone told After result
    serves_after {Rest} new result rest_of rest =
        let clean : HasCleanDisk (state store new) → HasCleanDisk (state store mid) = λ is. omega (arith, rest.connection.keeps.clean, is) in
        let same : (is : HasCleanDisk (state store new)) (has : HasSchema (state store old).now) → IsUnchanged (state store old) (state store mid) = λ is has. passed.same (clean is) has in
        let has_mid : (is : HasCleanDisk (state store new)) (has : HasSchema (state store old).now) → HasSchema (state store mid).now = λ is has. subst HasSchema (sym (same is has).now) has in
        let still : (is : HasCleanDisk (state store new)) (has : HasSchema (state store old).now) (of : R) → Before of (state store old).now → Before of (state store mid).now = λ is has of held. subst (Before of) (sym (same is has).now) held in
        record {
          connection = goes_after store old mid new result passed rest.connection;
          schema = λ is has. rest.schema is (has_mid is has);
          answer = λ is has. if_ok_with result (λ it told_so of held. told_so of (still is has of held)) (rest.answer is (has_mid is has));
          left = λ is has. on_ok_with result (λ kept of held. kept of (still is has of held)) (rest.left is (has_mid is has));
          alone = λ is has. on_ok_with result (λ alone. subst (λ db. Alone db (state store new).now) (same is has).now alone) (rest.alone is (has_mid is has));
          within = λ is has. on_ok_with result (keeps_after (state store old) (state store mid) (state store new) (same is has)) (rest.within is (has_mid is has));
          undone = λ is has. on_err_with result (undone_after (state store old) (state store mid) (state store new) (passed.keeps.back (clean is)) (same is has)) (rest.undone is (has_mid is has));
          damaged = λ is has e readable. rest.damaged is (has_mid is has) e (subst Rest (sym (same is has).now) (rest_of is has readable));
          crash = λ is has found may. elim (rest.crash is (has_mid is has) found may) [
            | inl before ↦ inl (passed.crash (clean is) has found before)
            | inr whole ↦ inr (found_as (same is has) whole (subst (λ db. Alone db whole.after) (same is has).now whole.change.0, λ of held. whole.change.1 of (still is has of held)))
          ];
        }

    -- and where the rest rests on what the reads have shown
    pub serves_after_so : {Rest : Database → Type 0} (new : Held S) (result : Result T TableFault) (Shown : Database → Type 0)
        → (HasCleanDisk (state store new) → HasSchema (state store old).now → Readable (state store old).now → Rest (state store old).now) → StaysOpen store mid new result → (HasCleanDisk (state store mid) → HasCleanDisk (state store new) → HasSchema (state store old).now → Shown (state store mid).now)
        → (IfOurTables store mid new Shown → DoesToTables store mid new Before Rest Alone told After result) → DoesToTables store old new Before Readable Alone told After result
    serves_after_so new result Shown rest_of going shown serves =
        let rest : (is : HasCleanDisk (state store new)) (has : HasSchema (state store old).now) → DoesToTables store old new Before Readable Alone told After result = λ is has.
        serves_after new result rest_of (serves (λ _ _. shown (omega (arith, going.keeps.clean, is)) is has)) in
        record {
          connection = goes_after store old mid new result passed going;
          schema = λ is has. (rest is has).schema is has;
          answer = λ is has. (rest is has).answer is has;
          left = λ is has. (rest is has).left is has;
          alone = λ is has. (rest is has).alone is has;
          within = λ is has. (rest is has).within is has;
          undone = λ is has. (rest is has).undone is has;
          damaged = λ is has. (rest is has).damaged is has;
          crash = λ is has. (rest is has).crash is has;
        }

    -- what a crash leaves of a change that comes after reads
    leaves_after : (new : Held S) → HasCleanDisk (state store mid) → HasCleanDisk (state store new) → HasSchema (state store old).now
        → LeavesWhole store mid new (ChangesRows Before Alone After) → (found : Trees) → (state store new).may_leave found
        → (state store old).may_leave found ⊎ IsFoundWhole store old new (ChangesRows Before Alone After) found
    leaves_after new was clean has leaves found may =
        let same = passed.same was has in
        elim (leaves clean (subst HasSchema (sym same.now) has) found may) [
          | inl before ↦ inl (passed.crash was has found before)
          | inr whole ↦ inr (found_as same whole (subst (λ db. Alone db whole.after) same.now whole.change.0, λ of held. whole.change.1 of (subst (Before of) (sym same.now) held)))
        ]

    -- reads first, and then a change that was made
    pub changed_after : {F : Type 0} (new : Held S) (it : T) → AllOrNothing store mid new {T = Unit {0}} {E = F} (Ok tt)
        → (HasCleanDisk (state store mid) → HasCleanDisk (state store new) → HasSchema (state store old).now → (state store mid).now ≡ (state store old).now
        → HasSchema (state store new).now × Alone (state store mid).now (state store new).now
        × ((of : R) → Before of (state store old).now → (it ≡ told of) × After of (state store new).now))
        → (HasSchema (state store old).now → LeavesWhole store mid new (ChangesRows Before Alone After))
        → DoesToTables store old new Before Readable Alone told After (Ok it)
    changed_after new it whole made leaves =
        let was : HasCleanDisk (state store new) → HasCleanDisk (state store mid) = λ clean. omega (arith, whole.keeps.clean, clean) in
        record {
          connection = goes_after store old mid new (Ok it) passed (record { keeps = whole.keeps; opened = λ clean _. (whole.opened clean).1 });
          schema = λ clean has. (made (was clean) clean has (passed.same (was clean) has).now).0;
          answer = λ clean has of held. ((made (was clean) clean has (passed.same (was clean) has).now).2 of held).0;
          left = λ clean has of held. ((made (was clean) clean has (passed.same (was clean) has).now).2 of held).1;
          alone = λ clean has. subst (λ db. Alone db (state store new).now) (passed.same (was clean) has).now (made (was clean) clean has (passed.same (was clean) has).now).1;
          within = λ clean has. keeps_after (state store old) (state store mid) (state store new) (passed.same (was clean) has) (whole.within clean);
          undone = λ clean has. tt;
          damaged = λ clean has e. absurd (let no : ⊥ = cc in no);
          crash = λ clean has. leaves_after new (was clean) clean has (leaves has);
        }

    -- or was not
    pub not_changed_after : (new : Held S) (e : TableFault) → KeepsConnection (state store mid) (state store new) → (HasCleanDisk (state store new) → UnchangedOrUndone (state store mid) (state store new))
        → (HasCleanDisk (state store mid) → HasCleanDisk (state store new) → HasSchema (state store old).now → (state store mid).now ≡ (state store old).now → e ≡ fault.Damaged → Readable (state store old).now → ⊥)
        → (HasSchema (state store old).now → LeavesWhole store mid new (ChangesRows Before Alone After))
        → DoesToTables store old new Before Readable Alone told After (Err e)
    not_changed_after new e goes undone damaged leaves =
        let was : HasCleanDisk (state store new) → HasCleanDisk (state store mid) = λ clean. omega (arith, goes.clean, clean) in
        record {
          connection = goes_after store old mid new (Err e) passed (record { keeps = goes; opened = λ clean. tt });
          schema = λ clean has. tt;
          answer = λ clean has. tt;
          left = λ clean has. tt;
          alone = λ clean has. tt;
          within = λ clean has. tt;
          undone = λ clean has. undone_after (state store old) (state store mid) (state store new) (passed.keeps.back (was clean)) (passed.same (was clean) has) (undone clean);
          damaged = λ clean has is. damaged (was clean) clean has (passed.same (was clean) has).now (same_fault is);
          crash = λ clean has. leaves_after new (was clean) clean has (leaves has);
        }

  module _ {U : Type 0} (old new : Held S) where
    -- a look-up that failed
    pub look_failed_as : (r : Result T TableFault) (e f : TableFault) → r ≡ Err e → e ≡ f → LooksUp store old new {T = U} (Err f)
        → (HasCleanDisk (state store new) → HasSchema (state store old).now → f ≡ fault.Damaged → Readable (state store old).now → ⊥)
        → DoesToTables store old new Before Readable Alone told After r
    look_failed_as r e f is same looks damaged = subst (DoesToTables store old new Before Readable Alone told After) (sym (is ∙ ap (λ e. Err e) same)) (record {
      connection = record { keeps = looks.connection.keeps; opened = λ clean. tt };
      schema = λ clean has. tt;
      answer = λ clean has. tt;
      left = λ clean has. tt;
      alone = λ clean has. tt;
      within = λ clean has. tt;
      undone = λ clean has. looks.undone clean has;
      damaged = λ clean has is. damaged clean has (same_fault is);
      crash = λ clean has found may. inl (looks.crash clean has found may);
    })

    -- or a read
    pub read_failed_as : (r : Result T TableFault) (e f : TableFault) → r ≡ Err e → e ≡ f → ReadsStore store old new {T = U} {E = TableFault} (Err f)
        → (HasCleanDisk (state store new) → HasSchema (state store old).now → f ≡ fault.Damaged → Readable (state store old).now → ⊥)
        → DoesToTables store old new Before Readable Alone told After r
    read_failed_as r e f is same reads = look_failed_as r e f is same (looks_read store old new (Err f) reads)

  -- a fault is handed on
  pub handed : (old new : Held S) (r : Result T TableFault) (e f : TableFault) → r ≡ Err e → e ≡ f → DoesToTables store old new Before Readable Alone told After (Err f) → DoesToTables store old new Before Readable Alone told After r
  handed old new r e f is same comes = subst (DoesToTables store old new Before Readable Alone told After) (sym (is ∙ ap (λ e. Err e) same)) comes

  -- a change that was made or not
  module _ (old new : Held S) where
    pub changed : {F : Type 0} (it : T) → AllOrNothing store old new {T = Unit {0}} {E = F} (Ok tt)
        → (HasCleanDisk (state store new) → HasSchema (state store old).now → HasSchema (state store new).now × Alone (state store old).now (state store new).now
        × ((of : R) → Before of (state store old).now → (it ≡ told of) × After of (state store new).now))
        → LeavesWhole store old new (ChangesRows Before Alone After)
        → DoesToTables store old new Before Readable Alone told After (Ok it)
    changed it whole made leaves = record {
      connection = record { keeps = whole.keeps; opened = λ clean _. (whole.opened clean).1 };
      schema = λ clean has. (made clean has).0;
      answer = λ clean has of held. ((made clean has).2 of held).0;
      left = λ clean has of held. ((made clean has).2 of held).1;
      alone = λ clean has. (made clean has).1;
      within = λ clean has. whole.within clean;
      undone = λ clean has. tt;
      damaged = λ clean has e. absurd (let no : ⊥ = cc in no);
      crash = leaves;
    }

    pub not_changed : (e : TableFault) → KeepsConnection (state store old) (state store new) → (HasCleanDisk (state store new) → UnchangedOrUndone (state store old) (state store new))
        → (HasCleanDisk (state store new) → HasSchema (state store old).now → e ≡ fault.Damaged → Readable (state store old).now → ⊥)
        → LeavesWhole store old new (ChangesRows Before Alone After)
        → DoesToTables store old new Before Readable Alone told After (Err e)
    not_changed e goes undone damaged leaves = record {
      connection = record { keeps = goes; opened = λ clean. tt };
      schema = λ clean has. tt;
      answer = λ clean has. tt;
      left = λ clean has. tt;
      alone = λ clean has. tt;
      within = λ clean has. tt;
      undone = λ clean has. undone clean;
      damaged = λ clean has is. damaged clean has (same_fault is);
      crash = leaves;
    }

-- the same told of other things, each of which is one of these
module _ {R R_so T : Type 0} {Before : R → Database → Type 0} {Before_so : R_so → Database → Type 0} {Readable : Database → Type 0} {Alone : Database → Database → Type 0} (told : R → T) (told_so : R_so → T) (After : R → Database → Type 0) (After_so : R_so → Database → Type 0) {S : Type 0} (store : Ghosts S) (old new : Held S) (result : Result T TableFault) where
  pub serves_as : (HasCleanDisk (state store new) → HasSchema (state store old).now → (of_so : R_so) → Before_so of_so (state store old).now
      → (of : R) × Before of (state store old).now × (told of ≡ told_so of_so) × ((after : Database) → After of after → After_so of_so after))
      → DoesToTables store old new Before Readable Alone told After result → DoesToTables store old new Before_so Readable Alone told_so After_so result
  serves_as alike serves = record {
    connection = record { keeps = serves.connection.keeps; opened = serves.connection.opened };
    schema = serves.schema;
    answer = λ clean has. if_ok_with result (λ it is of_so held. let one = alike clean has of_so held in is one.0 one.1 ∙ one.2) (serves.answer clean has);
    left = λ clean has. on_ok_with result (λ kept of_so held. let one = alike clean has of_so held in one.3 (state store new).now (kept one.0 one.1)) (serves.left clean has);
    alone = serves.alone;
    within = serves.within;
    undone = serves.undone;
    damaged = serves.damaged;
    crash = λ clean has found may. elim (serves.crash clean has found may) [
      | inl before ↦ inl before
      | inr whole ↦ inr (record { after = whole.after; trees = whole.trees; schema = whole.schema; change = (whole.change.0, λ of_so held. let one = alike clean has of_so held in one.3 whole.after (whole.change.1 one.0 one.1)); outside = whole.outside })
    ];
  }
