-- A change that is written inside a savepoint of its own.
use Rattle.std.proofs.Common.{◌≡◌, ◌⊎◌, ◌+◌, true, false, not, [], length, Result, Ok, Err, OnOk, IfErr, IsTrue, refl, sym, subst, ◌∙◌, inl, inr, arith}
use Rattle.sqlite_trees.specs.declared.store.Store.{Ghosts}
use Rattle.sqlite_trees.specs.Tree.{Trees}
use Rattle.sqlite.specs.declared.error.Error.{Error}
use Rattle.sqlite.specs.declared.savepoint.Savepoint.{Savepoint}
use Rattle.sqlite.specs.Effect.{Database}
use Rattle.sqlite.specs.Held.{Held, state}
use Rattle.sqlite.specs.State.{State, HasCleanDisk, Survives, Marks, ReleasesAt, begins_at}
use Rattle.sqlite.specs.Steps.{Discards, FailsAtMark}
use Rattle.sqlite.proofs.StateLemmas.{survives_then}
use Rattle.rows_tables.specs.Calls.{AllOrNothing, ChangesWhole, IsUndone, KeepsTransaction, LeavesWhole, StaysInSavepoint, UnchangedOrUndone, WritesInSavepoint}
use Rattle.rows_tables.specs.Keyed.{HasSchema}
use Rattle.rows_tables.proofs.Going.{goes_by}
use Rattle.rows_tables.proofs.Savepoints.{begins_is, dropped, not_released, released, was_outside}

-- what a transaction keeps where all is as it was, or is undone
undone_mode : (old new : State) → UnchangedOrUndone old new → old.in_transaction ≡ false → new.in_transaction ≡ false
undone_mode old new (inl same) outside = same.mode ∙ outside
undone_mode old new (inr undone) outside = undone.mode

module _ {S : Type 0} (store : Ghosts S) (old new : Held S) where
  abbrev Old : State
  Old = state store old

  abbrev New : State
  New = state store new

  -- of a call that fails
  module _ {U F : Type 0} (r : Result U F) (fault : F) (is : r ≡ Err fault) (commits : Trees → Type 0) (survives : Survives Old New commits) (back : HasCleanDisk New → IsTrue New.is_open → IsTrue Old.is_open) (undone : HasCleanDisk New → UnchangedOrUndone Old New) where
    pub fails_whole : AllOrNothing store old new r
    fails_whole = subst (AllOrNothing store old new) (sym is) (record {
      keeps = goes_by Old New commits survives back (λ clean. undone_mode Old New (undone clean));
      opened = λ clean. tt;
      within = λ clean. tt;
      undone = undone;
    })

    pub fails_changed : (changed : Database → Database → Type 0) → LeavesWhole store old new changed → ChangesWhole store old new r changed
    fails_changed changed crash = record { whole = fails_whole; made = λ clean. subst (λ it. OnOk it (HasSchema Old.now → HasSchema New.now × changed Old.now New.now)) (sym is) tt; crash = crash }

  module _ (savepoint written : Savepoint S store)
      (begun : HasCleanDisk (state store savepoint.conn.now) → (savepoint.at ≡ length Old.marks) × Marks Old (state store savepoint.conn.now) [])
      (begins : Survives Old (state store savepoint.conn.now) (λ _. ⊥)) where
    abbrev Marked : State
    Marked = state store savepoint.conn.now

    abbrev Written : State
    Written = state store written.conn.now

    module _ {T E : Type 0} (writing : Result T E) (writes : WritesInSavepoint savepoint written writing) where
      marked_clean : HasCleanDisk Written → HasCleanDisk Marked
      marked_clean clean = omega (arith, writes.survives.clean, clean)

      is_marked : HasCleanDisk Written → Marks Old Marked []
      is_marked clean = (begun (marked_clean clean)).1

      pub place_is : HasCleanDisk Written → written.at ≡ length Old.marks
      place_is clean = writes.place ∙ (begun (marked_clean clean)).0

      held_is : HasCleanDisk Written → savepoint.at ≡ length Old.marks
      held_is clean = (begun (marked_clean clean)).0

      nothing_committed : Survives Old Written (λ _. ⊥)
      nothing_committed = survives_then Old Marked Written (λ _. ⊥) (λ _. ⊥) (λ _. ⊥) (λ _ _ no. no) (λ _ _ no. no) begins writes.survives

      all_commits : (commits : Trees → Type 0) → Survives Written New commits → Survives Old New commits
      all_commits commits ends = survives_then Old Written New (λ _. ⊥) commits commits (λ _ _ none. absurd none) (λ _ _ it. it) nothing_committed ends

      module _ (ends : Survives Written New (λ _. ⊥)) where
        ends_clean : HasCleanDisk New → HasCleanDisk Written
        ends_clean clean = omega (arith, ends.clean, clean)

        leaves_none : (changed : Database → Database → Type 0) → LeavesWhole store old new changed
        leaves_none changed clean has found may = elim ((all_commits (λ _. ⊥) ends).crash clean found may) [ inl before ↦ inl before | inr none ↦ absurd none ]

    -- a write failed, and then the savepoint was dropped
    module _ {T E U F : Type 0} (error : E) (writes : WritesInSavepoint {T = T} {E = E} savepoint written (Err error)) (ends : Survives Written New (λ _. ⊥))
        (drops : HasCleanDisk New → Discards Written New written.at ⊎ ((e : Error) × FailsAtMark Written New written.at e)) (r : Result U F) (fault : F) (is : r ≡ Err fault) where
      clean_written : HasCleanDisk New → HasCleanDisk Written
      clean_written clean = ends_clean {T = T} {E = E} (Err error) writes ends clean

      not_written : HasCleanDisk New → UnchangedOrUndone Old New
      not_written clean =
          let was = clean_written clean in
          let there = subst (λ at. StaysInSavepoint (at + 1) Marked Written ⊎ IsUndone Marked Written) (held_is {T = T} {E = E} (Err error) writes was) (writes.undone was) in
          let dropping = subst (λ at. Discards Written New at ⊎ ((e : Error) × FailsAtMark Written New at e)) (place_is {T = T} {E = E} (Err error) writes was) (drops clean) in
          dropped Old Marked Written (is_marked {T = T} {E = E} (Err error) writes was) New there dropping

      was_there : HasCleanDisk New → IsTrue New.is_open → IsTrue Old.is_open
      was_there clean is_open = (is_marked {T = T} {E = E} (Err error) writes (clean_written clean)).0.was_open

      pub unwritten_whole : AllOrNothing store old new r
      unwritten_whole = fails_whole r fault is (λ _. ⊥) (all_commits {T = T} {E = E} (Err error) writes (λ _. ⊥) ends) was_there not_written

      pub unwritten_changed : (changed : Database → Database → Type 0) → ChangesWhole store old new r changed
      unwritten_changed changed = fails_changed r fault is (λ _. ⊥) (all_commits {T = T} {E = E} (Err error) writes (λ _. ⊥) ends) was_there not_written changed (leaves_none {T = T} {E = E} (Err error) writes ends changed)

    -- all was written, and then the savepoint's end was asked for
    module _ {T E : Type 0} (done : T) (writes : WritesInSavepoint {T = T} {E = E} savepoint written (Ok done))
        (ends : Survives Written New (λ db. IsTrue (begins_at Written written.at) × (db ≡ Written.now.trees))) where
      abbrev Committed : Trees → Type 0
      Committed db = IsTrue (begins_at Written written.at) × (db ≡ Written.now.trees)

      written_clean : HasCleanDisk New → HasCleanDisk Written
      written_clean clean = omega (arith, ends.clean, clean)

      stays_there : HasCleanDisk Written → StaysInSavepoint (length Old.marks + 1) Marked Written
      stays_there clean = subst (λ at. StaysInSavepoint (at + 1) Marked Written) (held_is {T = T} {E = E} (Ok done) writes clean) (writes.stays clean)

      before_marked : HasCleanDisk Written → Marked.now ≡ Old.now
      before_marked clean = (is_marked {T = T} {E = E} (Ok done) writes clean).0.now_is

      leaves_written : (changed : Database → Database → Type 0) → (HasCleanDisk Written → HasSchema Marked.now → HasSchema Written.now × changed Marked.now Written.now) → LeavesWhole store old new changed
      leaves_written changed makes clean has found may = elim ((all_commits {T = T} {E = E} (Ok done) writes Committed ends).crash clean found may) [
        | inl before ↦ inl before
        | inr it ↦
            let was = written_clean clean in
            let same = before_marked was in
            let made = makes was (subst HasSchema (sym same) has) in
            let begins = subst (λ at. IsTrue (begins_at Written at)) (place_is {T = T} {E = E} (Ok done) writes was) it.0 in
            let outside : not Old.in_transaction ≡ true = sym (begins_is Old Marked Written (is_marked {T = T} {E = E} (Ok done) writes was) (stays_there was)) ∙ begins in
            inr (record { after = Written.now; trees = sym it.1; schema = made.0; change = subst (λ db. changed db Written.now) same made.1; outside = was_outside Old.in_transaction outside })
      ]

      -- the savepoint's end was refused
      module _ {U F : Type 0} (error : Error) (fails : HasCleanDisk New → FailsAtMark Written New written.at error) (r : Result U F) (fault : F) (is : r ≡ Err fault) where
        not_ended : HasCleanDisk New → UnchangedOrUndone Old New
        not_ended clean =
            let was = written_clean clean in
            not_released Old Marked Written (is_marked {T = T} {E = E} (Ok done) writes was) (stays_there was) New error (subst (λ at. FailsAtMark Written New at error) (place_is {T = T} {E = E} (Ok done) writes was) (fails clean))

        was_before : HasCleanDisk New → IsTrue New.is_open → IsTrue Old.is_open
        was_before clean is_open = (is_marked {T = T} {E = E} (Ok done) writes (written_clean clean)).0.was_open

        pub unreleased_whole : AllOrNothing store old new r
        unreleased_whole = fails_whole r fault is Committed (all_commits {T = T} {E = E} (Ok done) writes Committed ends) was_before not_ended

        pub unreleased_changed : (changed : Database → Database → Type 0) → (HasCleanDisk Written → HasSchema Marked.now → HasSchema Written.now × changed Marked.now Written.now) → ChangesWhole store old new r changed
        unreleased_changed changed makes = fails_changed r fault is Committed (all_commits {T = T} {E = E} (Ok done) writes Committed ends) was_before not_ended changed (leaves_written changed makes)

      -- or it ended
      module _ {U : Type 0} (it : U) (releases : HasCleanDisk New → ReleasesAt Written New written.at) where
        ended : HasCleanDisk New → KeepsTransaction Old New × IsTrue New.is_open × (New.now ≡ Written.now)
        ended clean =
            let was = written_clean clean in
            released Old Marked Written (is_marked {T = T} {E = E} (Ok done) writes was) (stays_there was) New (subst (λ at. ReleasesAt Written New at) (place_is {T = T} {E = E} (Ok done) writes was) (releases clean))

        was_ended : HasCleanDisk New → IsTrue Old.is_open
        was_ended clean = (is_marked {T = T} {E = E} (Ok done) writes (written_clean clean)).0.was_open

        pub released_whole : {F : Type 0} → AllOrNothing store old new {T = U} {E = F} (Ok it)
        released_whole = record {
          keeps = goes_by Old New Committed (all_commits {T = T} {E = E} (Ok done) writes Committed ends) (λ clean _. was_ended clean) (λ clean outside. (ended clean).0.mode ∙ outside);
          opened = λ clean. (was_ended clean, (ended clean).1);
          within = λ clean. (ended clean).0;
          undone = λ clean. tt;
        }

        -- what was made of the tables is what was written
        pub as_written : (made : Database → Database → Type 0) → (HasCleanDisk Written → made Marked.now Written.now) → HasCleanDisk New → made Old.now New.now
        as_written made makes clean =
            let was = written_clean clean in
            subst (λ db. made db New.now) (before_marked was) (subst (made Marked.now) (sym (ended clean).2) (makes was))

        pub released_changed : {F : Type 0} (changed : Database → Database → Type 0) → (HasCleanDisk Written → HasSchema Marked.now → HasSchema Written.now × changed Marked.now Written.now) → ChangesWhole store old new {T = U} {E = F} (Ok it) changed
        released_changed {F} changed makes = record {
          whole = released_whole;
          made = as_written (λ before after. HasSchema before → HasSchema after × changed before after) makes;
          crash = leaves_written changed makes;
        }

      -- it ended or was refused
      module _ (r : Result (Unit {0}) Error) (releases : HasCleanDisk New → OnOk r (ReleasesAt Written New written.at)) (fails : HasCleanDisk New → IfErr r (FailsAtMark Written New written.at)) where
        abbrev Whole : Result (Unit {0}) Error → Type 0
        Whole told = (HasCleanDisk New → OnOk told (ReleasesAt Written New written.at)) → (HasCleanDisk New → IfErr told (FailsAtMark Written New written.at)) → AllOrNothing store old new told

        whole_of : (told : Result (Unit {0}) Error) → Whole told
        whole_of (Ok it) ends_so fails_so = released_whole {U = Unit {0}} it ends_so
        whole_of (Err error) ends_so fails_so = unreleased_whole {U = Unit {0}} {F = Error} error fails_so (Err error) error refl

        pub ended_whole : AllOrNothing store old new r
        ended_whole = whole_of r releases fails

        pub ended_changed : (changed : Database → Database → Type 0) → (HasCleanDisk Written → HasSchema Marked.now → HasSchema Written.now × changed Marked.now Written.now) → ChangesWhole store old new r changed
        ended_changed changed makes = record {
          whole = ended_whole;
          made = λ clean. made_of r clean (releases clean);
          crash = leaves_written changed makes;
        }
          where
            made_of : (told : Result (Unit {0}) Error) → HasCleanDisk New → OnOk told (ReleasesAt Written New written.at) → OnOk told (HasSchema Old.now → HasSchema New.now × changed Old.now New.now)
            made_of (Ok it) clean ends_so = as_written {U = Unit {0}} it (λ _. ends_so) (λ before after. HasSchema before → HasSchema after × changed before after) makes clean
            made_of (Err error) clean ends_so = tt
