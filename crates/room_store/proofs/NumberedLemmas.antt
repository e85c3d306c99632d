-- Of trees that are tables no row number comes twice, so that tables that are opened are the store's.
use Rattle.std.proofs.Common.{◌≡◌, ℕ, List, [], ◌∷◌, Bool, true, false, Result, Ok, Err, IfOk, IsTrue, refl, sym, ap, subst, ◌∙◌, inl, inr}
use Rattle.std.proofs.lemmas.Bool.{true≢false}
use Rattle.sqlite_schema.specs.declared.schema.Table.{Table}
use Rattle.sqlite_trees.specs.Tree.{Trees}
use Rattle.sqlite_trees.specs.View.{IsOrdered, IsShaped}
use Rattle.sqlite_trees.specs.declared.store.Shape.{Shape}
use Rattle.sqlite.specs.Effect.{Database}
use Rattle.sqlite.specs.State.{State, HasCleanDisk}
use Rattle.room_store.proofs.TablesKept.{opened_devices, opened_rows, opened_schema}
use Rattle.room_store.specs.Shapes.{AreTables}
use Rattle.rows_tables.specs.Accounts.{AgreeOnRows, account_at, document_at, grant_at, job_at}
use Rattle.rows_tables.specs.Devices.{AgreeOnDevices, device_at, rate_at}
use Rattle.rows_tables.specs.Keyed.{AreNumbered, HasSchema}
use Rattle.rows_tables.specs.Making.{OpensTables}
use Rattle.rows_tables.specs.Tables.{room_schema}

pub numbered_of : (shapes : ℕ → Shape) (tables : List Table) (db : Database) → IsOrdered shapes db.trees → AreTables shapes tables → AreNumbered tables db
numbered_of shapes [] db ordered are = tt
numbered_of shapes (table ∷ tables) db ordered are = (subst (λ (s : Shape). IsShaped s (db.trees table.tree)) are.0 (ordered table.tree), numbered_of shapes tables db ordered are.1)

-- tables that are opened, of which no row number came twice, are the store's
pub numbered_opened : (old new : State) → OpensTables old new → AreNumbered room_schema.tables old.now → HasSchema new.now
numbered_opened old new (inl (was, same)) numbered = opened_schema old new (inl (was, same)) (subst (λ s. AreNumbered s.tables old.now) (sym was.schema_is) numbered)
numbered_opened old new (inr (was, is, adds)) numbered = opened_schema old new (inr (was, is, adds)) (subst (λ s. AreNumbered s.tables old.now) (sym was.schema_is) numbered)

-- a store that is not broken is open
pub open_unless_broken : (opened broken : Bool) → (opened ≡ false → IsTrue broken) → broken ≡ false → IsTrue opened
open_unless_broken true broken shut sound = refl
open_unless_broken false broken shut sound = absurd (true≢false (sym (shut refl) ∙ sound))

-- ---- of trees that are the same, rows are the same

module _ (a b c : Database) (same : b.trees ≡ a.trees) where
  abbrev over : {X : Type 0} (read : Database → X) → Trees → X
  over read trees = read (record { schema = a.schema; trees = trees })

  pub rows_from : (name : List ℕ) → AgreeOnRows name b c → AgreeOnRows name a c
  rows_from name agree = record {
    same_account = agree.same_account ∙ ap (over (λ db. account_at db name)) same;
    same_jobs = λ number. agree.same_jobs number ∙ ap (over (λ db. job_at db name number)) same;
    same_documents = λ job number. agree.same_documents job number ∙ ap (over (λ db. document_at db name job number)) same;
    same_grants = λ month. agree.same_grants month ∙ ap (over (λ db. grant_at db name month)) same;
  }

  pub devices_from : AgreeOnDevices b c → AgreeOnDevices a c
  devices_from agree = record {
    same_devices = λ name. agree.same_devices name ∙ ap (over (λ db. device_at db name)) same;
    same_rates = λ name. agree.same_rates name ∙ ap (over (λ db. rate_at db name)) same;
  }

-- ---- what is opened anew has what was committed

module _ {T E : Type 0} (view : T → State) (old mid : State) (same : HasCleanDisk mid → mid.now.trees ≡ old.committed.trees) where
  pub reopened_rows : (r : Result T E) → IfOk r (λ new. HasCleanDisk (view new) → HasCleanDisk mid) → IfOk r (λ new. HasCleanDisk (view new) → OpensTables mid (view new))
      → IfOk r (λ new. HasCleanDisk (view new) → (name : List ℕ) → AgreeOnRows name old.committed (view new).now)
  reopened_rows (Ok new) clean opens = λ is name. rows_from old.committed mid.now (view new).now (same (clean is)) name (opened_rows mid (view new) (opens is) name)
  reopened_rows (Err e) clean opens = tt

  pub reopened_devices : (r : Result T E) → IfOk r (λ new. HasCleanDisk (view new) → HasCleanDisk mid) → IfOk r (λ new. HasCleanDisk (view new) → OpensTables mid (view new))
      → IfOk r (λ new. HasCleanDisk (view new) → AgreeOnDevices old.committed (view new).now)
  reopened_devices (Ok new) clean opens = λ is. devices_from old.committed mid.now (view new).now (same (clean is)) (opened_devices mid (view new) (opens is))
  reopened_devices (Err e) clean opens = tt
