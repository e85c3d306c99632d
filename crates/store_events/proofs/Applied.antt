-- What an event does to the tables, whether it is of an account or of a device.
use Rattle.std.proofs.Common.{◌≡◌, ◌⊎◌, ◌≤◌, ℕ, false, not, Result, Ok, Err, OnErr, IsTrue, refl, sym, ap, ◌∙◌, inl, inr, arith}
use Rattle.sqlite_trees.specs.declared.store.Store.{Ghosts}
use Rattle.sqlite_trees.specs.Tree.{Trees}
use Rattle.sqlite.specs.Effect.{Database}
use Rattle.sqlite.specs.Held.{Held, state}
use Rattle.sqlite.specs.State.{State, HasCleanDisk}
use Rattle.account_machine.specs.Events.{PlainEvent, OfAccount, OfDevice}
use Rattle.account_machine.specs.declared.verdict.Answered.{Answered}
use Rattle.account_rules.specs.Limits.{last_moment}
use Rattle.rows_tables.proofs.KeyedRows.{same_fault}
use Rattle.store_events.specs.Answers.{short_answered}
use Rattle.store_events.specs.Applied.{AppliesFully, HasVerdict, IsAnswered, IsDone}
use Rattle.store_events.specs.Events.{IsShort}
use Rattle.store_events.specs.Reading.{IsReadable}
use Rattle.store_rounds.specs.Faults.{store_fault}
use Rattle.store_rounds.specs.Shut.{LeavesIfShut}
use Rattle.store_rounds.specs.Looks.{StaysOpen, WasOpen}
use Rattle.store_events.specs.Serving.{DoesEvent}
use Rattle.store_rounds.specs.declared.fault.StoreFault.TheVariants as store_of
use Rattle.rows_tables.specs.Calls.{IfOurTables, UnchangedOrUndone}
use Rattle.rows_tables.specs.Crashes.{IsOnDisk}
use Rattle.rows_tables.specs.declared.fault.TableFault.{TableFault}
use Rattle.rows_tables.specs.declared.fault.TableFault.TheVariants as table

-- a fault of the store is damage where that of the tables is
pub damaged_as : (fault : TableFault) → store_fault fault ≡ store_of.Damaged → fault ≡ table.Damaged
damaged_as table.Storage is = let no : ⊥ = cc in absurd no
damaged_as table.Memory is = let no : ⊥ = cc in absurd no
damaged_as table.Damaged is = refl

-- where no transaction was under way an open connection sees the tables as they were
pub undone_outside : (old new : State) → old.now ≡ old.committed → UnchangedOrUndone old new → IsTrue new.is_open → new.now ≡ old.now
undone_outside old new settled (inl same) is_open = same.now
undone_outside old new settled (inr undone) is_open = undone.now is_open ∙ sym settled

module _ {S : Type 0} (store : Ghosts S) (now : ℕ) where
  module _ (old new : Held S) where
    pub going : (e : PlainEvent) (r : Result Answered TableFault) → DoesEvent store old new now e r → StaysOpen store old new r
    going (OfAccount name it) r serves = serves.connection
    going (OfDevice name it) r serves = serves.connection

    pub undone : (e : PlainEvent) (r : Result Answered TableFault) → DoesEvent store old new now e r → IfOurTables store old new (λ db. OnErr r (UnchangedOrUndone (state store old) (state store new)))
    undone (OfAccount name it) r serves = serves.undone
    undone (OfDevice name it) r serves = serves.undone

    pub damaged : (e : PlainEvent) (r : Result Answered TableFault) → DoesEvent store old new now e r → IfOurTables store old new (λ db. r ≡ Err table.Damaged → IsReadable now e db → ⊥)
    damaged (OfAccount name it) r serves = serves.damaged
    damaged (OfDevice name it) r serves = serves.damaged

    pub answered : (e : PlainEvent) (told : Answered) → DoesEvent store old new now e (Ok told) → IfOurTables store old new (λ db. IsAnswered now e db (state store new).now told.reply)
    answered (OfAccount name it) told serves clean has = record {
      is_told = λ room devices held holds. ap (λ (a : Answered). a.reply) (serves.answer clean has (room, devices) (record { room = held; devices = holds }));
      is_done = record {
        changes = record { rows = λ room devices held holds. serves.left clean has (room, devices) (record { room = held; devices = holds }); alone = serves.alone clean has };
        schema = serves.schema clean has;
      };
    }
    answered (OfDevice name it) told serves clean has = record {
      is_told = λ devices held. ap (λ (a : Answered). a.reply) (serves.answer clean has devices held);
      is_done = record { changes = record { rows = serves.left clean has; alone = serves.alone clean has }; schema = serves.schema clean has };
    }

    pub verdict : (e : PlainEvent) (told : Answered) → DoesEvent store old new now e (Ok told) → IfOurTables store old new (λ db. HasVerdict now e db told.verdict)
    verdict (OfAccount name it) told serves clean has = λ room devices held holds. ap (λ (a : Answered). a.verdict) (serves.answer clean has (room, devices) (record { room = held; devices = holds }))
    verdict (OfDevice name it) told serves clean has = λ devices held. ap (λ (a : Answered). a.verdict) (serves.answer clean has devices held)

    pub left : (e : PlainEvent) (r : Result Answered TableFault) → DoesEvent store old new now e r
        → IfOurTables store old new (λ db. (found : Trees) → (state store new).may_leave found → (state store old).may_leave found ⊎ ((after : Database) × (after.trees ≡ found) × IsDone now e db after))
    left (OfAccount name it) r serves clean has found may = elim (serves.crash clean has found may) [
      | inl before ↦ inl before
      | inr whole ↦ inr (whole.after, whole.trees, record { changes = record { rows = λ room devices held holds. whole.change.1 (room, devices) (record { room = held; devices = holds }); alone = whole.change.0 }; schema = whole.schema })
    ]
    left (OfDevice name it) r serves clean has found may = elim (serves.crash clean has found may) [
      | inl before ↦ inl before
      | inr whole ↦ inr (whole.after, whole.trees, record { changes = record { rows = whole.change.1; alone = whole.change.0 }; schema = whole.schema })
    ]

-- ---- the whole of it, as the store tells it

-- an answer that is the other
same_answer : (told : Answered) → ◌≡◌ {A = Result Answered TableFault} (Ok told) (Ok short_answered) → told ≡ short_answered
same_answer told is = let same : told ≡ short_answered = cc in same

-- a fault of the tables is never that of the moment
never_moment : (fault : TableFault) → store_fault fault ≡ store_of.Moment → ⊥
never_moment table.Storage is = let no = is in cc
never_moment table.Memory is = let no = is in cc
never_moment table.Damaged is = let no = is in cc

module _ {S : Type 0} (store : Ghosts S) (now : ℕ) (in_time : now ≤ last_moment) (old new : Held S) (e : PlainEvent) where
  pub applied_answer : (told : Answered) → DoesEvent store old new now e (Ok told) → (IsShort e → ◌≡◌ {A = Result Answered TableFault} (Ok told) (Ok short_answered)) → ((IsShort e → ⊥) → WasOpen store old new {T = Answered} (Ok told)) → ((state store new).in_transaction ≡ false → IsOnDisk (state store new)) → LeavesIfShut (state store old) (state store new) → AppliesFully now e (state store old) (state store new) (Ok told)
  applied_answer told serves short asks settled shut = record {
    applies = record {
      answered = λ clean has. answered store now old new e told serves clean has;
      crash = λ clean has. left store now old new e (Ok told) serves clean has;
      unchanged = λ clean has. tt;
      damaged = λ clean has is. absurd (let no = is in cc);
      moment = (λ is. absurd (let no = is in cc), λ late. absurd (omega (arith, late, in_time)));
      short = λ is. ap (λ (a : Answered). a.reply) (same_answer told (short is));
      asked = λ long clean. asks long clean;
      opened = λ clean. (going store now old new e (Ok told) serves).opened clean;
      on_disk = λ clean. settled;
      shut = shut;
      connection = (going store now old new e (Ok told) serves).keeps;
    };
    verdict = λ clean has. verdict store now old new e told serves clean has;
  }

  -- where no transaction was under way, an open connection sees the tables as they were
  pub applied_fault : (fault : TableFault) → (IsTrue (not (state store old).in_transaction) → IsTrue (state store old).is_open → (state store old).now ≡ (state store old).committed)
      → (HasCleanDisk (state store new) → (state store new).in_transaction ≡ (state store old).in_transaction)
      → DoesEvent store old new now e (Err fault) → (IsShort e → ◌≡◌ {A = Result Answered TableFault} (Err fault) (Ok short_answered)) → ((state store new).in_transaction ≡ false → IsOnDisk (state store new)) → LeavesIfShut (state store old) (state store new) → AppliesFully now e (state store old) (state store new) (Err (store_fault fault))
  applied_fault fault settled mode serves short afterwards shut = record {
    applies = record {
      answered = λ clean has. tt;
      crash = λ clean has. left store now old new e (Err fault) serves clean has;
      unchanged = λ clean has is_open. elim (undone store now old new e (Err fault) serves clean has) [
        | inl same ↦ same.now
        | inr undone ↦
            let outside : (state store old).in_transaction ≡ false = sym (mode clean) ∙ undone.mode in
            undone.now is_open ∙ sym (settled (ap not outside) (undone.was_open is_open))
      ];
      damaged = λ clean has is. damaged store now old new e (Err fault) serves clean has (ap (λ f. Err f) (damaged_as fault (same_fault is)));
      moment = (λ is. absurd (never_moment fault (same_fault is)), λ late. absurd (omega (arith, late, in_time)));
      short = λ is. absurd (let no = short is in cc);
      asked = λ long clean. tt;
      opened = λ clean. tt;
      on_disk = λ clean. afterwards;
      shut = shut;
      connection = (going store now old new e (Err fault) serves).keeps;
    };
    verdict = λ clean has. tt;
  }
