-- One call after another inside a savepoint, where each may write nothing.
use Rattle.std.proofs.Common.{◌≡◌, ℕ, ◌+◌, length, [], Result, Ok, Err, OnErr, OnOk, IsTrue, refl, sym, subst, ◌∙◌, inl, inr, arith}
use Rattle.sqlite_trees.specs.declared.store.Store.{Ghosts}
use Rattle.sqlite.specs.declared.savepoint.Savepoint.{Savepoint}
use Rattle.sqlite.specs.Held.{state}
use Rattle.sqlite.specs.State.{State, HasCleanDisk, Marks, Survives}
use Rattle.sqlite.proofs.StateLemmas.{survives_then}
use Rattle.rows_tables.specs.Calls.{IsUndone, StaysInSavepoint, WritesInSavepoint}
use Rattle.rows_tables.proofs.Savepoints.{stays_itself, stays_then}
use Rattle.store_copy.specs.ProofSavepoints.{KeepsSavepoint}

and_so : {U F : Type 0} (r : Result U F) (P Q : Type 0) → (P → Q) → OnOk r P → OnOk r Q
and_so (Ok it) P Q f p = f p
and_so (Err e) P Q f p = tt

or_so : {U F : Type 0} (r : Result U F) (P Q : Type 0) → (P → Q) → OnErr r P → OnErr r Q
or_so (Ok it) P Q f p = tt
or_so (Err e) P Q f p = f p

undone_then : (held : ℕ) (old mid new : State) → StaysInSavepoint held old mid → IsUndone mid new → IsUndone old new
undone_then held old mid new one two = record {
  was_open = λ is_open. one.was_open (two.was_open is_open);
  now = λ is_open. two.now is_open ∙ one.committed;
  committed = λ is_open. two.committed is_open ∙ one.committed;
  mode = two.mode;
  unmarked = two.unmarked;
}

survives_itself : (s : State) → Survives s s (λ _. ⊥)
survives_itself s = record { clean = omega arith; shield = λ is. is; counts = omega arith; limit = refl; closes = λ _ is. inl is; crash = λ _ db may. inl may }

module _ {S T E : Type 0} {store : Ghosts S} (old new : Savepoint S store) (r : Result T E) where
  pub kept_by_write : WritesInSavepoint old new r → KeepsSavepoint old new r
  kept_by_write writes = record {
    same_reference = writes.same_reference;
    place = writes.place;
    opened = λ clean. and_so r _ _ (λ both _. both.1) (writes.opened clean);
    stays = writes.stays;
    undone = writes.undone;
    survives = writes.survives;
  }

pub kept_itself : {S T E : Type 0} {store : Ghosts S} (it : T) (old : Savepoint S store) → KeepsSavepoint {T = T} {E = E} old old (Ok it)
kept_itself {store = store} it old = record {
  same_reference = refl;
  place = refl;
  opened = λ _ is. is;
  stays = λ _. stays_itself (old.at + 1) (state store old.conn.now);
  undone = λ _. tt;
  survives = survives_itself (state store old.conn.now);
}

module _ {S T U E F : Type 0} {store : Ghosts S} (old mid new : Savepoint S store) (done : T) (second : Result U F) where
  pub kept_then : KeepsSavepoint {T = T} {E = E} old mid (Ok done) → KeepsSavepoint mid new second → KeepsSavepoint old new second
  kept_then before after =
      let clean : HasCleanDisk (state store new.conn.now) → HasCleanDisk (state store mid.conn.now) = λ is. omega (arith, after.survives.clean, is) in
      let placed : StaysInSavepoint (mid.at + 1) (state store mid.conn.now) (state store new.conn.now) → StaysInSavepoint (old.at + 1) (state store mid.conn.now) (state store new.conn.now) =
      subst (λ at. StaysInSavepoint (at + 1) (state store mid.conn.now) (state store new.conn.now)) before.place in
      record {
        same_reference = after.same_reference ∙ before.same_reference;
        place = after.place ∙ before.place;
        opened = λ is. and_so second _ _ (λ still was. still (before.opened (clean is) was)) (after.opened is);
        stays = λ is. and_so second _ _ (λ stays. stays_then (old.at + 1) (state store old.conn.now) (state store mid.conn.now) (state store new.conn.now) (before.stays (clean is)) (placed stays)) (after.stays is);
        undone = λ is. or_so second _ _ (λ failed. elim failed [
          | inl stays ↦ inl (stays_then (old.at + 1) (state store old.conn.now) (state store mid.conn.now) (state store new.conn.now) (before.stays (clean is)) (placed stays))
          | inr undone ↦ inr (undone_then (old.at + 1) (state store old.conn.now) (state store mid.conn.now) (state store new.conn.now) (before.stays (clean is)) undone)
        ]) (after.undone is);
        survives = survives_then (state store old.conn.now) (state store mid.conn.now) (state store new.conn.now) (λ _. ⊥) (λ _. ⊥) (λ _. ⊥) (λ _ _ no. no) (λ _ _ no. no) before.survives after.survives;
      }

-- a fault is handed on
pub kept_refused_as : {S T U E F : Type 0} {store : Ghosts S} (old new : Savepoint S store) (error : E) (r : Result U F) (fault : F) → r ≡ Err fault → KeepsSavepoint {T = T} {E = E} old new (Err error) → KeepsSavepoint old new r
kept_refused_as {S} {T} {U} {E} {F} old new error r fault is keeps = subst (λ (it : Result U F). KeepsSavepoint old new it) (sym is) (record {
  same_reference = keeps.same_reference;
  place = keeps.place;
  opened = λ _. tt;
  stays = λ _. tt;
  undone = keeps.undone;
  survives = keeps.survives;
})

-- and so is an answer
pub kept_answered_as : {S T U E F : Type 0} {store : Ghosts S} (old new : Savepoint S store) (done : T) (told : U) → KeepsSavepoint {T = T} {E = E} old new (Ok done) → KeepsSavepoint {T = U} {E = F} old new (Ok told)
kept_answered_as old new done told keeps = record {
  same_reference = keeps.same_reference;
  place = keeps.place;
  opened = keeps.opened;
  stays = keeps.stays;
  undone = λ _. tt;
  survives = keeps.survives;
}

-- in a savepoint that was just begun, it is a write as others are
module _ {S T E : Type 0} {store : Ghosts S} (before : State) (savepoint written : Savepoint S store) (r : Result T E) where
  pub write_of_kept : (HasCleanDisk (state store savepoint.conn.now) → (savepoint.at ≡ length before.marks) × Marks before (state store savepoint.conn.now) []) → KeepsSavepoint savepoint written r → WritesInSavepoint savepoint written r
  write_of_kept begun keeps =
      let clean : HasCleanDisk (state store written.conn.now) → HasCleanDisk (state store savepoint.conn.now) = λ is. omega (arith, keeps.survives.clean, is) in
      record {
        same_reference = keeps.same_reference;
        place = keeps.place;
        opened = λ is. let open_now = (begun (clean is)).1.0.is_open in and_so r _ _ (λ still. (open_now, still open_now)) (keeps.opened is);
        inside = λ is. always r _ (subst IsTrue (sym (begun (clean is)).1.0.mode) refl);
        stays = keeps.stays;
        undone = keeps.undone;
        survives = keeps.survives;
      }
    where
      always : (r : Result T E) (P : Type 0) → P → OnOk r P
      always (Ok it) P p = p
      always (Err e) P p = tt
