-- Law: the line of a release in the log shows nothing of its password.
use Rattle.std.specs.Prelude.{◌≡◌, ℕ, List, Result}
use Rattle.account_machine.specs.declared.verdict.Answered.{Answered}
use Rattle.account_machine.specs.Events.{OfAccount, Release}
use Rattle.serve_log.specs.LogLines.{line_text}
use Rattle.serve_log.specs.declared.door.Door.{Door}

-- two releases that differ in their passwords alone, and came to the same, have the same line
abbrev pub PasswordsDoNotShow : (F : Type 0) → Type 0
PasswordsDoNotShow F =
    (moment : ℕ) (door : Door) (account device : List ℕ) (job impressions : ℕ)
    (one other : List ℕ) (told : Result Answered F) →
    line_text moment door (OfAccount account (Release device job one impressions)) told
    ≡ line_text moment door (OfAccount account (Release device job other impressions)) told
