-- Each row of `account` has a valid name, and every change keeps that. It is no part of sound rows,
-- which are those of one account (all this project's own).
use Rattle.std.specs.Prelude.{◌≡◌, ℕ, List, None, IsTrue}
use Rattle.sqlite.specs.Effect.{Database}
use Rattle.account_rules.specs.Names.{is_name}
use Rattle.rows_tables.specs.Accounts.{account_at}
use Rattle.rows_statements.specs.Alone.{OnlyAccount, OnlyDevices}
use Rattle.rows_statements.specs.SoundRows.{AreNamed}

-- it is so where there is no account, and stays so over a change of an account of a name, and over
-- one of devices
pub record NamesStay : Type 0 where
  pub of_none : (db : Database) → ((name : List ℕ) → account_at db name ≡ None) → AreNamed db
  pub account : (name : List ℕ) (old new : Database) → IsTrue (is_name name)
      → OnlyAccount name old new → AreNamed old → AreNamed new
  pub devices : (old new : Database) → OnlyDevices old new → AreNamed old → AreNamed new
