-- What follows of writes inside a savepoint, and of its end.
use Rattle.std.proofs.Common.{◌≡◌, ◌⊎◌, ◌+◌, ◌≤◌, ℕ, Bool, true, false, not, List, [], ◌∷◌, ◌++◌, length, map, take, drop, get_or, slice_get, None, Some, Result, Ok, Err, OnErr, OnOk, IsTrue, refl, sym, ap, subst, ◌∙◌, inl, inr, arith, length-append}
use Rattle.std.proofs.lemmas.List.{length-take, take-append-drop}
use Rattle.std.proofs.Math.Seq.{take-length}
use Rattle.sqlite_trees.specs.declared.store.Store.{Ghosts}
use Rattle.sqlite_value.specs.Order.{Row}
use Rattle.sqlite.specs.declared.error.Error.{Error}
use Rattle.sqlite.specs.declared.savepoint.Savepoint.{Savepoint}
use Rattle.sqlite.specs.Held.{state}
use Rattle.sqlite.specs.State.{State, HasCleanDisk, Savepoint as Mark, Marks, ExecutesInside, IsRolledBack, ReleasesAt, begins_at}
use Rattle.sqlite.specs.Steps.{Discards, FailsAtMark}
use Rattle.sqlite.proofs.StateLemmas.{survives_then}
use Rattle.rows_tables.specs.Calls.{IsUndone, KeepsTransaction, StaysInSavepoint, UnchangedOrUndone, WritesInSavepoint}

pub then_changed : {E : Type 0} (result : Result (Unit {0}) E) (Ran Changed : Type 0) → (Ran → Changed) → OnOk result Ran → OnOk result Changed
then_changed (Ok done) Ran Changed follows ran = follows ran
then_changed (Err error) Ran Changed follows none = none

-- ---- one statement

pub stays_itself : (held : ℕ) (old : State) → StaysInSavepoint held old old
stays_itself held old = record { was_open = λ is_open. is_open; committed = refl; mode = refl; marks = λ _. refl }

pub undone_by : (old new : State) → IsRolledBack old new → IsUndone old new
undone_by old new undone = record {
  was_open = undone.was_open;
  now = λ is_open. (undone.undone is_open).0;
  committed = λ is_open. (undone.undone is_open).1;
  mode = undone.autocommit;
  unmarked = undone.unmarked;
}

pub ran_inside : (held : ℕ) (text : List ℕ) (params : Row) (old new : State) (count : ℕ) → IsTrue old.in_transaction → ExecutesInside held text params old new (Ok count) → StaysInSavepoint held old new
ran_inside held text params old new count inside ran = record { was_open = λ _. ran.1.was_open; committed = ran.1.committed_is; mode = ran.1.mode ∙ sym inside; marks = ran.2 }

-- a statement that fails leaves the savepoint, or the transaction is undone
pub refused_inside : (held : ℕ) (text : List ℕ) (params : Row) (old new : State) (error : Error) → ExecutesInside held text params old new (Err error) → StaysInSavepoint held old new ⊎ IsUndone old new
refused_inside held text params old new error (inl (ran, inl same)) = inl (record { was_open = λ _. same.0.was_open; committed = same.0.committed_is; mode = same.0.mode; marks = λ _. ap (take held) same.2 })
refused_inside held text params old new error (inl (ran, inr undone)) = inr (undone_by old new undone)
refused_inside held text params old new error (inr (ends, is, same)) = inl (record { was_open = λ _. same.0.was_open; committed = same.0.committed_is; mode = same.0.mode; marks = λ _. ap (take held) same.2 })

-- ---- one write after another

still_there : (held : ℕ) (old mid : List Mark) → held ≤ length old → take held mid ≡ take held old → held ≤ length mid
still_there held old mid enough same =
    let count = ap length same in
    omega (arith, enough, sym (length-take held mid) ∙ count ∙ length-take held old)

pub stays_then : (held : ℕ) (old mid new : State) → StaysInSavepoint held old mid → StaysInSavepoint held mid new → StaysInSavepoint held old new
stays_then held old mid new one two = record {
  was_open = λ is_open. one.was_open (two.was_open is_open);
  committed = two.committed ∙ one.committed;
  mode = two.mode ∙ one.mode;
  marks = λ enough. two.marks (still_there held old.marks mid.marks enough (one.marks enough)) ∙ one.marks enough;
}

undone_then : (held : ℕ) (old mid new : State) → StaysInSavepoint held old mid → IsUndone mid new → IsUndone old new
undone_then held old mid new one two = record {
  was_open = λ is_open. one.was_open (two.was_open is_open);
  now = λ is_open. two.now is_open ∙ one.committed;
  committed = λ is_open. two.committed is_open ∙ one.committed;
  mode = two.mode;
  unmarked = two.unmarked;
}

and_so : {U F : Type 0} (r : Result U F) (P Q : Type 0) → (P → Q) → OnOk r P → OnOk r Q
and_so (Ok it) P Q f p = f p
and_so (Err e) P Q f p = tt

or_so : {U F : Type 0} (r : Result U F) (P Q : Type 0) → (P → Q) → OnErr r P → OnErr r Q
or_so (Ok it) P Q f p = tt
or_so (Err e) P Q f p = f p

on_ok_of : {U F : Type 0} (r : Result U F) (P : Type 0) → P → OnOk r P
on_ok_of (Ok it) P p = p
on_ok_of (Err e) P p = tt

module _ {S T U E F : Type 0} {store : Ghosts S} (old mid new : Savepoint S store) (done : T) (second : Result U F) where
  pub inside_then : WritesInSavepoint {T = T} {E = E} old mid (Ok done) → WritesInSavepoint mid new second → WritesInSavepoint old new second
  inside_then before after =
      let clean : HasCleanDisk (state store new.conn.now) → HasCleanDisk (state store mid.conn.now) = λ is. omega (arith, after.survives.clean, is) in
      record {
        same_reference = after.same_reference ∙ before.same_reference;
        place = after.place ∙ before.place;
        opened = λ is. and_so second _ _ (λ open_both. ((before.opened (clean is)).0, open_both.1)) (after.opened is);
        inside = λ is. on_ok_of second _ (before.inside (clean is));
        stays = λ is. and_so second _ _ (λ stays. stays_then (old.at + 1) (state store old.conn.now) (state store mid.conn.now) (state store new.conn.now) (before.stays (clean is))
            (subst (λ at. StaysInSavepoint (at + 1) (state store mid.conn.now) (state store new.conn.now)) before.place stays)) (after.stays is);
        undone = λ is. or_so second _ _ (λ failed. elim failed [
          | inl stays ↦ inl (stays_then (old.at + 1) (state store old.conn.now) (state store mid.conn.now) (state store new.conn.now) (before.stays (clean is))
              (subst (λ at. StaysInSavepoint (at + 1) (state store mid.conn.now) (state store new.conn.now)) before.place stays))
          | inr undone ↦ inr (undone_then (old.at + 1) (state store old.conn.now) (state store mid.conn.now) (state store new.conn.now) (before.stays (clean is)) undone)
        ]) (after.undone is);
        survives = survives_then (state store old.conn.now) (state store mid.conn.now) (state store new.conn.now) (λ _. ⊥) (λ _. ⊥) (λ _. ⊥) (λ _ _ no. no) (λ _ _ no. no) before.survives after.survives;
      }

-- a fault is handed on
pub refused_as : {S T U E F : Type 0} {store : Ghosts S} (old new : Savepoint S store) (error : E) (r : Result U F) (fault : F) → r ≡ Err fault → WritesInSavepoint {T = T} {E = E} old new (Err error) → WritesInSavepoint old new r
refused_as old new error r fault is writes = subst (λ it. WritesInSavepoint old new it) (sym is) (record {
  same_reference = writes.same_reference;
  place = writes.place;
  opened = λ clean. tt;
  inside = λ clean. tt;
  stays = λ clean. tt;
  undone = writes.undone;
  survives = writes.survives;
})

-- and so is an answer
pub answered_as : {S T U E F : Type 0} {store : Ghosts S} (old new : Savepoint S store) (done : T) (told : U) → WritesInSavepoint {T = T} {E = E} old new (Ok done) → WritesInSavepoint {T = U} {E = F} old new (Ok told)
answered_as old new done told writes = record {
  same_reference = writes.same_reference;
  place = writes.place;
  opened = writes.opened;
  inside = writes.inside;
  stays = writes.stays;
  undone = λ clean. tt;
  survives = writes.survives;
}

-- ---- the end of a savepoint

was_within : (mode : Bool) → not mode ≡ false → mode ≡ true
was_within true is = refl
was_within false is = absurd (let no = is in cc)

pub was_outside : (mode : Bool) → not mode ≡ true → mode ≡ false
was_outside true is = absurd (let no = is in cc)
was_outside false is = refl

abbrev mark_of : State → Mark
mark_of old = record { name = []; begins = not old.in_transaction; db = old.now }

at_first : (marks rest : List Mark) (mark : Mark) → slice_get ((marks ++ mark ∷ []) ++ rest) (length marks) ≡ Some mark
at_first [] rest mark = refl
at_first (first ∷ marks) rest mark = at_first marks rest mark

begins_first : (marks rest : List Mark) (mark : Mark) → get_or (map (λ (p : Mark). p.begins) ((marks ++ mark ∷ []) ++ rest)) (length marks) false ≡ mark.begins
begins_first [] rest mark = refl
begins_first (first ∷ marks) rest mark = begins_first marks rest mark

-- where the oldest are these, all are these and more
all_is : (held : ℕ) (front all : List Mark) → take held all ≡ front → all ≡ front ++ drop held all
all_is held front all same = sym (take-append-drop held all) ∙ ap (λ (marks : List Mark). marks ++ drop held all) same

-- of states: a savepoint was begun, and what was written left it there
module _ (old marked written : State) (marks : Marks old marked []) where
  module _ (stays : StaysInSavepoint (length old.marks + 1) marked written) where
    front : take (length old.marks + 1) written.marks ≡ old.marks ++ mark_of old ∷ []
    front =
        let many : length marked.marks ≡ length old.marks + 1 = ap length marks.2 ∙ length-append old.marks (mark_of old ∷ []) in
        let all : take (length old.marks + 1) marked.marks ≡ marked.marks = ap (λ n. take n marked.marks) (sym many) ∙ take-length marked.marks in
        stays.marks (omega (arith, many)) ∙ all ∙ marks.2

    reaches : length written.marks ≤ length old.marks → ⊥
    reaches few =
        let count = ap length front in
        omega (arith, few, sym (length-take (length old.marks + 1) written.marks) ∙ count ∙ length-append old.marks (mark_of old ∷ []))

    here : (it : Mark) → slice_get written.marks (length old.marks) ≡ Some it → it ≡ mark_of old
    here it found =
        let there = ap (λ (all : List Mark). slice_get all (length old.marks)) (all_is (length old.marks + 1) (old.marks ++ mark_of old ∷ []) written.marks front) in
        let same : Some it ≡ Some (mark_of old) = sym found ∙ there ∙ at_first old.marks (drop (length old.marks + 1) written.marks) (mark_of old) in
        cc

    pub begins_is : begins_at written (length old.marks) ≡ not old.in_transaction
    begins_is =
        ap (λ (all : List Mark). get_or (map (λ (p : Mark). p.begins) all) (length old.marks) false) (all_is (length old.marks + 1) (old.marks ++ mark_of old ∷ []) written.marks front)
        ∙ begins_first old.marks (drop (length old.marks + 1) written.marks) (mark_of old)

    committed_is : written.committed ≡ old.committed
    committed_is = stays.committed ∙ marks.0.committed_is

    undone_since : (new : State) → IsRolledBack written new → IsUndone old new
    undone_since new undone = record {
      was_open = λ _. marks.0.was_open;
      now = λ is_open. (undone.undone is_open).0 ∙ committed_is;
      committed = λ is_open. (undone.undone is_open).1 ∙ committed_is;
      mode = undone.autocommit;
      unmarked = undone.unmarked;
    }

    dropped_there : (new : State) → Discards written new (length old.marks) ⊎ ((e : Error) × FailsAtMark written new (length old.marks) e) → UnchangedOrUndone old new
    dropped_there new (inl (inl (begins, undone))) = inr (undone_since new undone)
    dropped_there new (inl (inr (it, found, outer, shown, counts, left))) =
        let is = here it found in
        let within : not old.in_transaction ≡ false = sym (ap (λ (p : Mark). p.begins) is) ∙ outer in
        let was = was_within old.in_transaction within in
        inl (record { now = shown.now_is ∙ ap (λ (p : Mark). p.db) is; committed = shown.committed_is ∙ committed_is; mode = shown.mode ∙ sym was })
    dropped_there new (inr (e, inl fails)) = inr (undone_since new fails.3)
    dropped_there new (inr (e, inr late)) = absurd (reaches late.1)

    pub not_released : (new : State) (e : Error) → FailsAtMark written new (length old.marks) e → UnchangedOrUndone old new
    not_released new e (inl fails) = inr (undone_since new fails.3)
    not_released new e (inr late) = absurd (reaches late.1)

    pub released : (new : State) → ReleasesAt written new (length old.marks) → KeepsTransaction old new × IsTrue new.is_open × (new.now ≡ written.now)
    released new (inl (begins, commits)) =
        let outside : not old.in_transaction ≡ true = sym begins_is ∙ begins in
        let was = was_outside old.in_transaction outside in (
          record { mode = commits.0.mode ∙ sym was; committed = λ inside. absurd cc },
          commits.0.is_open,
          commits.0.now_is,
        )
    released new (inr (outer, drops)) =
        let within : not old.in_transaction ≡ false = sym begins_is ∙ outer in
        let was = was_within old.in_transaction within in (
          record { mode = drops.0.mode ∙ sym was; committed = λ inside. drops.0.committed_is ∙ committed_is },
          drops.0.is_open,
          drops.0.now_is,
        )

  dropped_after : (new : State) → IsUndone marked written → Discards written new (length old.marks) ⊎ ((e : Error) × FailsAtMark written new (length old.marks) e) → UnchangedOrUndone old new
  dropped_after new undone (inl (inl (begins, again))) = inr (record {
    was_open = λ _. marks.0.was_open;
    now = λ is_open. (again.undone is_open).0 ∙ undone.committed (again.was_open is_open) ∙ marks.0.committed_is;
    committed = λ is_open. (again.undone is_open).1 ∙ undone.committed (again.was_open is_open) ∙ marks.0.committed_is;
    mode = again.autocommit;
    unmarked = again.unmarked;
  })
  dropped_after new undone (inl (inr (it, found, outer, shown, counts, left))) =
      let none : None ≡ Some it = ap (λ (ms : List Mark). slice_get ms (length old.marks)) (sym undone.unmarked) ∙ found in absurd cc
  dropped_after new undone (inr (e, inl fails)) = inr (record {
    was_open = λ _. marks.0.was_open;
    now = λ is_open. (fails.3.undone is_open).0 ∙ undone.committed (fails.3.was_open is_open) ∙ marks.0.committed_is;
    committed = λ is_open. (fails.3.undone is_open).1 ∙ undone.committed (fails.3.was_open is_open) ∙ marks.0.committed_is;
    mode = fails.3.autocommit;
    unmarked = fails.3.unmarked;
  })
  dropped_after new undone (inr (e, inr late)) =
      let same = late.2 in inr (record {
        was_open = λ _. marks.0.was_open;
        now = λ _. same.0.now_is ∙ undone.now same.0.was_open ∙ marks.0.committed_is;
        committed = λ _. same.0.committed_is ∙ undone.committed same.0.was_open ∙ marks.0.committed_is;
        mode = same.0.mode ∙ undone.mode;
        unmarked = same.2 ∙ undone.unmarked;
      })

  pub dropped : (new : State) → StaysInSavepoint (length old.marks + 1) marked written ⊎ IsUndone marked written
      → Discards written new (length old.marks) ⊎ ((e : Error) × FailsAtMark written new (length old.marks) e) → UnchangedOrUndone old new
  dropped new (inl stays) ends = dropped_there stays new ends
  dropped new (inr undone) ends = dropped_after new undone ends
