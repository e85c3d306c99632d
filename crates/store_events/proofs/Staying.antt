-- What a connection keeps where it was not asked, or only looked into.
use Rattle.std.proofs.Common.{Result, Ok, Err, refl, inl, arith}
use Rattle.sqlite_trees.specs.declared.store.Store.{Ghosts}
use Rattle.sqlite.specs.State.{State}
use Rattle.sqlite.specs.Held.{Held, state}
use Rattle.rows_tables.specs.declared.fault.TableFault.{TableFault}
use Rattle.store_rounds.specs.Looks.{StaysOpen}
use Rattle.store_rounds.proofs.LookLemmas.{Passed}

pub unasked : (s : State) → Passed s s
unasked s = record {
  keeps = record { clean = omega arith; back = λ _ is. is; mode = λ _ is. is; shield = λ is. is; counts = omega arith; limit = refl; closes = λ _ is. inl is };
  opened = λ _ is. is;
  same = λ _ _. record { now = refl; committed = refl; mode = refl };
  crash = λ _ _ found may. may;
}

module _ {S T : Type 0} (store : Ghosts S) (old new : Held S) where
  pub stays_open : (r : Result T TableFault) → Passed (state store old) (state store new) → StaysOpen store old new r
  stays_open (Ok it) passed = record { keeps = passed.keeps; opened = passed.opened }
  stays_open (Err e) passed = record { keeps = passed.keeps; opened = λ clean. tt }
