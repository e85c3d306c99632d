-- Rule: Tables that are printed account by account (this project's own).
use Rattle.std.specs.Prelude.{ℕ, List, []}
use Rattle.client_operator.specs.Csv.{record_text}
use Rattle.client_operator.specs.Names.{AsksNames}
use Rattle.client_operator.specs.Talks.{At, InTurn, Prints}

-- all names were asked for, the header printed, then so it went with each account, in order, and
-- nothing was printed behind that
pub record PrintsTable (head : List (List ℕ)) (Goes : List ℕ → At → At → Type 0) (from to : At) : Type 0 where
  pub names : List (List ℕ)
  pub named : At
  pub headed : At
  pub went : At
  pub asks : AsksNames from named names
  pub prints : Prints named headed (record_text head)
  pub each : InTurn Goes headed went names
  pub nothing : Prints went to []
