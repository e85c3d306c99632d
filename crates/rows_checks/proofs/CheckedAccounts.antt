-- Which rows an account's own row tells to be sound.
use Rattle.std.proofs.Common.{◌≡◌, ◌∙◌, ℕ, List, Some, None, sym}
use Rattle.sqlite.specs.Effect.{Database}
use Rattle.account_rules.specs.declared.account.Account.{Account}
use Rattle.rows_tables.specs.Accounts.{account_at, account_of_room, HoldsNothing, IsSound}
use Rattle.rows_tables.specs.Cells.{account_cells}
use Rattle.rows_checks.specs.Checks.{AreOfNoRoom}

module _ (db : Database) (name : List ℕ) where
  -- where it is there, sound rows are those of a room with its next job
  pub room_sound : (it : Account) → account_at db name ≡ Some (account_cells name it) → AreOfNoRoom db name it.next_job → IsSound db name → ⊥
  room_sound it is no_room (None, held) = let no : None ≡ Some (account_cells name it) = sym held.no_account ∙ is in absurd cc
  room_sound it is no_room (Some room, held) = no_room room held (next_of (account_of_room room) (sym held.rows.account_row ∙ is))
    where
      next_of : (other : Account) → Some (account_cells name other) ≡ Some (account_cells name it) → other.next_job ≡ it.next_job
      next_of other same = cc

  -- and where it is not, there are none
  pub nothing_sound : account_at db name ≡ None → (HoldsNothing db name → ⊥) → IsSound db name → ⊥
  nothing_sound is something (None, held) = something held
  nothing_sound is something (Some room, held) = let no : None ≡ Some (account_cells name (account_of_room room)) = sym is ∙ held.rows.account_row in absurd cc
