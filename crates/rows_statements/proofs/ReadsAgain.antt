-- One read after another.
use Rattle.std.proofs.Common.{◌≡◌, Result, Ok, Err, OnOk, subst, sym, inl, arith}
use Rattle.sqlite_trees.specs.declared.store.Store.{Ghosts}
use Rattle.sqlite.specs.State.{HasCleanDisk}
use Rattle.sqlite.specs.Held.{Held, state}
use Rattle.rows_tables.specs.Calls.{ReadsStore}
use Rattle.rows_tables.specs.Keyed.{HasSchema}
use Rattle.rows_tables.proofs.Going.{goes_on, unchanged_after, undone_after}

on_ok_with : {X E P Q : Type 0} (r : Result X E) → (P → Q) → OnOk r P → OnOk r Q
on_ok_with (Ok x) f p = f p
on_ok_with (Err e) f p = tt

module _ {S : Type 0} (store : Ghosts S) (old mid new : Held S) where
  -- where the first was answered, both are one read
  pub reads_again : {T U E F : Type 0} (it : T) (r : Result U F) → ReadsStore store old mid {T = T} {E = E} (Ok it) → ReadsStore store mid new {T = U} {E = F} r → ReadsStore store old new {T = U} {E = F} r
  reads_again it r first second =
      let before : HasCleanDisk (state store new) → HasCleanDisk (state store mid) = λ clean. omega (arith, second.keeps.clean, clean) in
      record {
        keeps = goes_on (state store old) (state store mid) (state store new) first.keeps second.keeps;
        opened = λ clean. on_ok_with r (λ opened. ((first.opened (before clean)).0, opened.1)) (second.opened clean);
        same = λ clean has.
            let same = first.same (before clean) has in
            on_ok_with r (unchanged_after (state store old) (state store mid) (state store new) same) (second.same clean (subst HasSchema (sym same.now) has));
        stays = λ clean has.
            let same = first.same (before clean) has in
            undone_after (state store old) (state store mid) (state store new) (λ _. (first.opened (before clean)).0) same (second.stays clean (subst HasSchema (sym same.now) has));
        crash = λ clean has found may.
            let same = first.same (before clean) has in
            first.crash (before clean) has found (second.crash clean (subst HasSchema (sym same.now) has) found may);
      }

module _ {S T U E F : Type 0} (store : Ghosts S) (old new : Held S) (it : T) (reads : ReadsStore store old new {T = T} {E = E} (Ok it)) where
  -- whatever is answered of it
  pub answered_as : (other : U) → ReadsStore store old new {T = U} {E = F} (Ok other)
  answered_as other = record { keeps = reads.keeps; opened = reads.opened; same = reads.same; stays = λ clean has. inl (reads.same clean has); crash = reads.crash }

  -- and where what comes after fails
  pub failed_after : (r : Result U F) (f : F) → r ≡ Err f → ReadsStore store old new {T = U} {E = F} r
  failed_after r f is = subst (λ (r : Result U F). ReadsStore store old new {T = U} {E = F} r) (sym is) (record { keeps = reads.keeps; opened = λ _. tt; same = λ _ _. tt; stays = λ clean has. inl (reads.same clean has); crash = reads.crash })

-- a failure is handed on
pub failed_as : {S T U E F : Type 0} (store : Ghosts S) (old new : Held S) (e : E) (r : Result U F) (f : F) → r ≡ Err f → ReadsStore store old new {T = T} {E = E} (Err e) → ReadsStore store old new {T = U} {E = F} r
failed_as {S} {T} {U} {E} {F} store old new e r f is reads =
    subst (λ (r : Result U F). ReadsStore store old new {T = U} {E = F} r) (sym is) (record { keeps = reads.keeps; opened = reads.opened; same = reads.same; stays = reads.stays; crash = reads.crash })
