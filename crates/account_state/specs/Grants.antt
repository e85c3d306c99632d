-- A grant of an account, as a record of its month and its pages (all this project's own).
use Rattle.std.specs.Prelude.{ℕ}
use Rattle.account_rules.specs.declared.account.Grant.{Grant}

-- of a month and the pages that were granted for it
abbrev pub grant_of : (entry : ℕ × ℕ) → Grant
grant_of entry = record { month = entry.0; pages = entry.1 }
