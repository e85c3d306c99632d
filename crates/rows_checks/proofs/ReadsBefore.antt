-- What is told behind a read.
use Rattle.std.proofs.Common.{Result, Ok, Err, OnOk, subst, sym, arith}
use Rattle.sqlite_trees.specs.declared.store.Store.{Ghosts}
use Rattle.sqlite.specs.Effect.{Database}
use Rattle.sqlite.specs.State.{HasCleanDisk}
use Rattle.sqlite.specs.Held.{Held, state}
use Rattle.rows_tables.specs.Calls.{IfOurTables, KeepsConnection, ReadsStore}
use Rattle.rows_tables.specs.Keyed.{HasSchema}

pub on_ok_with : {X E P Q : Type 0} (r : Result X E) → (P → Q) → OnOk r P → OnOk r Q
on_ok_with (Ok x) f p = f p
on_ok_with (Err e) f p = tt

-- what is told of the tables that an answered read left is told of those that it found
pub told_before : {S : Type 0} (store : Ghosts S) (old mid new : Held S) {T E : Type 0} (it : T) → ReadsStore store old mid {T = T} {E = E} (Ok it) → KeepsConnection (state store mid) (state store new) → (Told : Database → Type 0) → IfOurTables store mid new Told → IfOurTables store old new Told
told_before store old mid new it first keeps Told told clean has =
    let before : HasCleanDisk (state store mid) = omega (arith, keeps.clean, clean) in
    let same = (first.same before has).now in
    subst Told same (told clean (subst HasSchema (sym same) has))
