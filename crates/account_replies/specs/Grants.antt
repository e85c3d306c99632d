-- Rule: Whether a grant is new (this project's own): a month has one grant, for good.
use Rattle.std.specs.Prelude.{ℕ, ◌==◌, if◌then◌else◌, Option, Some, None, Result, Ok, Err}
use Rattle.account_rules.specs.declared.refusal.Word.{Word}
use Rattle.account_rules.specs.declared.refusal.Word.TheVariants.{Same, Conflict}

-- the pages that the month has, and those that it is to have
abbrev pub grant_refusal : (held : Option ℕ) (pages : ℕ) → Result (Unit {0}) Word
grant_refusal None pages = Ok tt
grant_refusal (Some held) pages = if held == pages then Err Same else Err (Conflict held)
