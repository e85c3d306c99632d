-- A text of no statement, by which a connection is asked whether it is open.
use Rattle.std.proofs.Common.{ℕ, List, [], IsTrue, inl, inr}
use Rattle.sqlite_value.specs.Order.{Row}
use Rattle.sqlite.specs.State.{State, IsNotRun, IsUnchanged as IsLeftSame}
use Rattle.sqlite.specs.declared.error.Error.{Error}
use Rattle.rows_statements.proofs.RoundTexts.{empty_is_one}
use Rattle.rows_tables.proofs.Savepoints.{undone_by}
use Rattle.rows_tables.specs.Calls.{IsUnchanged, IsUndone}

pub unchanged_by : (old new : State) → IsLeftSame old new → IsUnchanged old new
unchanged_by old new same = record { now = same.0.now_is; committed = same.0.committed_is; mode = same.0.mode }

-- where it is not run the transaction is undone
pub empty_fails : (old new : State) (error : Error) → IsNotRun old new [] [] error → IsUndone old new
unfolding IsNotRun
empty_fails old new error (inl refused) = absurd (empty_is_one old error refused.0)
empty_fails old new error (inr fails) = undone_by old new fails.3

-- a text that was not run
pub not_run_back : (text : List ℕ) (params : Row) (old new : State) (error : Error) → IsNotRun old new text params error → IsTrue new.is_open → IsTrue old.is_open
unfolding IsNotRun
not_run_back text params old new error (inl refused) is_open = refused.1.0.was_open
not_run_back text params old new error (inr fails) is_open = fails.3.was_open is_open
