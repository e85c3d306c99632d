-- Reads one after another, where there may be none.
use Rattle.std.proofs.Common.{Result, Ok, Err, IfOk, OnOk, refl, sym, subst, inl, arith}
use Rattle.sqlite_trees.specs.declared.store.Store.{Ghosts}
use Rattle.sqlite.specs.State.{State, HasCleanDisk}
use Rattle.sqlite.specs.Held.{Held, state}
use Rattle.rows_tables.specs.Calls.{KeepsConnection, ReadsStore}
use Rattle.rows_tables.specs.Keyed.{HasSchema}
use Rattle.rows_tables.proofs.Going.{goes_on, unchanged_after, undone_after}
use Rattle.store_copy.specs.Sources.{LeavesSource}

pub keeps_itself : (s : State) → KeepsConnection s s
keeps_itself s = record { clean = omega arith; back = λ _ is. is; mode = λ _ is. is; shield = λ is. is; counts = omega arith; limit = refl; closes = λ _ is. inl is }

pub leaves_itself : {S T E : Type 0} (store : Ghosts S) (old : Held S) (it : T) → LeavesSource {T = T} {E = E} store old old (Ok it)
leaves_itself store old it = record {
  keeps = keeps_itself (state store old);
  same = λ _ _. record { now = refl; committed = refl; mode = refl };
  stays = λ _ _. inl (record { now = refl; committed = refl; mode = refl });
  crash = λ _ _ found may. may;
}

pub on_ok_with : {X E P Q : Type 0} (r : Result X E) → (P → Q) → OnOk r P → OnOk r Q
on_ok_with (Ok x) f p = f p
on_ok_with (Err e) f p = tt

pub if_ok_with : {X E : Type 0} {P Q : X → Type 0} (r : Result X E) → ((x : X) → P x → Q x) → IfOk r P → IfOk r Q
if_ok_with (Ok x) f p = f x p
if_ok_with (Err e) f p = tt

module _ {S T E : Type 0} (store : Ghosts S) (old new : Held S) (r : Result T E) where
  pub of_read : ReadsStore store old new {T = T} {E = E} r → LeavesSource store old new r
  of_read reads = record { keeps = reads.keeps; same = reads.same; stays = reads.stays; crash = reads.crash }

module _ {S T U E F : Type 0} (store : Ghosts S) (old new : Held S) (it : T) (told : U) where
  pub leaves_answered : LeavesSource {T = T} {E = E} store old new (Ok it) → LeavesSource {T = U} {E = F} store old new (Ok told)
  leaves_answered leaves = record { keeps = leaves.keeps; same = leaves.same; stays = leaves.stays; crash = leaves.crash }

module _ {S T U E F : Type 0} (store : Ghosts S) (old mid new : Held S) (it : T) (r : Result U F) where
  pub leaves_then : LeavesSource {T = T} {E = E} store old mid (Ok it) → LeavesSource store mid new r → LeavesSource store old new r
  leaves_then first second =
      let before : HasCleanDisk (state store new) → HasCleanDisk (state store mid) = λ clean. omega (arith, second.keeps.clean, clean) in
      record {
        keeps = goes_on (state store old) (state store mid) (state store new) first.keeps second.keeps;
        same = λ clean has.
            let same = first.same (before clean) has in
            on_ok_with r (unchanged_after (state store old) (state store mid) (state store new) same) (second.same clean (subst HasSchema (sym same.now) has));
        stays = λ clean has.
            let same = first.same (before clean) has in
            undone_after (state store old) (state store mid) (state store new) (first.keeps.back (before clean)) same (second.stays clean (subst HasSchema (sym same.now) has));
        crash = λ clean has found may.
            let same = first.same (before clean) has in
            first.crash (before clean) has found (second.crash clean (subst HasSchema (sym same.now) has) found may);
      }
