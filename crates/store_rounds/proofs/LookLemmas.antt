-- What look-ups come to, one after another.
use Rattle.std.proofs.Common.{◌≡◌, Result, Ok, Err, IfOk, OnOk, OnErr, IsTrue, sym, ap, subst, ◌∙◌, inl, arith}
use Rattle.sqlite_trees.specs.declared.store.Store.{Ghosts}
use Rattle.sqlite.specs.State.{State, HasCleanDisk}
use Rattle.sqlite.specs.Held.{Held, state}
use Rattle.rows_tables.specs.Calls.{KeepsConnection, IsUnchanged, LeavesNoMore, ReadsStore}
use Rattle.rows_tables.specs.Keyed.{HasSchema}
use Rattle.rows_tables.specs.declared.fault.TableFault.{TableFault}
use Rattle.rows_tables.proofs.Going.{goes_on, unchanged_after, undone_after}
use Rattle.rows_tables.proofs.KeyedRows.{same_fault}
use Rattle.store_rounds.specs.Looks.{StaysOpen, LooksUp}

-- a read that was answered: the tables are as they were
pub record Passed (old new : State) : Type 0 where
  pub keeps : KeepsConnection old new
  pub opened : HasCleanDisk new → IsTrue old.is_open → IsTrue new.is_open
  pub same : HasCleanDisk new → HasSchema old.now → IsUnchanged old new
  pub crash : HasCleanDisk new → HasSchema old.now → LeavesNoMore old new

module _ {S T : Type 0} (store : Ghosts S) where
  pub read_passed : (old new : Held S) (it : T) → ReadsStore store old new {T = T} {E = TableFault} (Ok it) → Passed (state store old) (state store new)
  read_passed old new it reads = record { keeps = reads.keeps; opened = λ clean _. (reads.opened clean).1; same = reads.same; crash = reads.crash }

  pub look_passed : (old new : Held S) (it : T) → LooksUp store old new {T = T} (Ok it) → Passed (state store old) (state store new)
  look_passed old new it looks = record { keeps = looks.connection.keeps; opened = looks.connection.opened; same = looks.same; crash = looks.crash }

pub passed_then : (a b c : State) → Passed a b → Passed b c → Passed a c
passed_then a b c one two =
    let clean : HasCleanDisk c → HasCleanDisk b = λ is. omega (arith, two.keeps.clean, is) in
    record {
      keeps = goes_on a b c one.keeps two.keeps;
      opened = λ is was. two.opened is (one.opened (clean is) was);
      same = λ is has.
          let first = one.same (clean is) has in
          unchanged_after a b c first (two.same is (subst HasSchema (sym first.now) has));
      crash = λ is has found may.
          let first = one.same (clean is) has in
          one.crash (clean is) has found (two.crash is (subst HasSchema (sym first.now) has) found may);
    }

-- what follows of an answer, and of a fault
pub on_ok_with : {X E P Q : Type 0} (r : Result X E) → (P → Q) → OnOk r P → OnOk r Q
on_ok_with (Ok x) f p = f p
on_ok_with (Err e) f p = tt

pub if_ok_with : {X E : Type 0} {P Q : X → Type 0} (r : Result X E) → ((x : X) → P x → Q x) → IfOk r P → IfOk r Q
if_ok_with (Ok x) f p = f x p
if_ok_with (Err e) f p = tt

pub on_err_with : {X E P Q : Type 0} (r : Result X E) → (P → Q) → OnErr r P → OnErr r Q
on_err_with (Ok x) f p = tt
on_err_with (Err e) f p = f p

on_err_of : {X E P : Type 0} (r : Result X E) → P → OnErr r P
on_err_of (Ok x) p = tt
on_err_of (Err e) p = p

-- the fault that a `?` hands on
pub fault_of : {X : Type 0} (r : Result X TableFault) (e f told : TableFault) → r ≡ Err e → e ≡ f → r ≡ Err told → f ≡ told
fault_of r e f told is same hands = sym same ∙ same_fault (sym is ∙ hands)

-- ---- look-ups

module _ {S T : Type 0} (store : Ghosts S) where
  -- a read is one
  pub looks_read : (old new : Held S) (r : Result T TableFault) → ReadsStore store old new {T = T} {E = TableFault} r → LooksUp store old new r
  looks_read old new r reads = record {
    connection = record { keeps = reads.keeps; opened = λ clean. on_ok_with r (λ opened _. opened.1) (reads.opened clean) };
    same = λ clean has. reads.same clean has;
    undone = λ clean has. on_err_of r (reads.stays clean has);
    crash = λ clean has. reads.crash clean has;
  }

  -- and what comes after one
  pub goes_after : (old mid new : Held S) (r : Result T TableFault) → Passed (state store old) (state store mid) → StaysOpen store mid new r → StaysOpen store old new r
  goes_after old mid new r passed going = record {
    keeps = goes_on (state store old) (state store mid) (state store new) passed.keeps going.keeps;
    opened = λ is. on_ok_with r (λ still was. still (passed.opened (omega (arith, going.keeps.clean, is)) was)) (going.opened is);
  }

  -- reads that were answered are one, whatever comes of them
  pub looked : (old new : Held S) (r : Result T TableFault) → Passed (state store old) (state store new) → LooksUp store old new r
  looked old new (Ok it) passed = record { connection = record { keeps = passed.keeps; opened = passed.opened }; same = passed.same; undone = λ clean has. tt; crash = passed.crash }
  looked old new (Err e) passed = record { connection = record { keeps = passed.keeps; opened = λ clean. tt }; same = λ clean has. tt; undone = λ clean has. inl (passed.same clean has); crash = passed.crash }

  -- and so are they with the look-up that comes after them
  pub looks_after : (old mid new : Held S) (r : Result T TableFault) → Passed (state store old) (state store mid) → LooksUp store mid new r → LooksUp store old new r
  looks_after old mid new r passed looks =
      let clean : HasCleanDisk (state store new) → HasCleanDisk (state store mid) = λ is. omega (arith, looks.connection.keeps.clean, is) in
      let has_mid : HasCleanDisk (state store new) → HasSchema (state store old).now → HasSchema (state store mid).now = λ is has. subst HasSchema (sym (passed.same (clean is) has).now) has in
      record {
        connection = goes_after old mid new r passed looks.connection;
        same = λ is has. on_ok_with r (unchanged_after (state store old) (state store mid) (state store new) (passed.same (clean is) has)) (looks.same is (has_mid is has));
        undone = λ is has. on_err_with r (undone_after (state store old) (state store mid) (state store new) (passed.keeps.back (clean is)) (passed.same (clean is) has)) (looks.undone is (has_mid is has));
        crash = λ is has found may. passed.crash (clean is) has found (looks.crash is (has_mid is has) found may);
      }

module _ {S T U : Type 0} (store : Ghosts S) where
  -- a look-up that failed, where its fault is handed on
  pub looks_as : (old new : Held S) (r : Result T TableFault) (e f : TableFault) → r ≡ Err e → e ≡ f → LooksUp store old new {T = U} (Err f) → LooksUp store old new r
  looks_as old new r e f is same looks = subst (LooksUp store old new) (sym (is ∙ ap (λ e. Err e) same)) (record { connection = record { keeps = looks.connection.keeps; opened = λ clean. tt }; same = λ clean has. tt; undone = looks.undone; crash = looks.crash })

  -- what a connection keeps after a fault that is handed on
  pub goes_as : (old new : Held S) (r : Result U TableFault) (other : Result T TableFault) (e f : TableFault) → r ≡ Err f → other ≡ Err e → e ≡ f → StaysOpen store old new r → StaysOpen store old new other
  goes_as old new r other e f is handed same going = subst (StaysOpen store old new) (sym handed) (record { keeps = going.keeps; opened = λ clean. tt })
