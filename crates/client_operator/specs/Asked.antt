-- Rule: The lines that an operator's commands send, without the line feeds that end them (all this
-- project's own).
use Rattle.std.specs.Prelude.{ℕ, List, ◌++◌, codes}
use Rattle.client_lines.specs.Grants.{month_text}

-- a word with its space, and an account
abbrev pub account_asked : (word account : List ℕ) → List ℕ
account_asked word account = word ++ account

abbrev pub statement_asked : (account : List ℕ) (month : ℕ) → List ℕ
statement_asked account month =
    (account_asked (codes "statement ") account ++ codes " ") ++ month_text month

abbrev pub cancel_asked : (account job : List ℕ) → List ℕ
cancel_asked account job = (account_asked (codes "cancel ") account ++ codes " ") ++ job

abbrev pub backup_asked : (file : List ℕ) → List ℕ
backup_asked file = codes "backup " ++ file

abbrev pub slice_asked : (file : List ℕ) → List ℕ
slice_asked file = codes "slice " ++ file
