-- Rule: What the answer to `statement` tells (this project's own).
use Rattle.std.specs.Prelude.{◌≡◌, ℕ, List, [], ◌∷◌, codes}
use Rattle.client_lines.specs.Words.{IsNumber}
use Rattle.client_operator.specs.Lines.{line_of}
use Rattle.client_operator.specs.declared.statement.Month.{Month}
use Rattle.client_operator.specs.declared.statement.Statement.{Statement}

-- `month M held H pending P processing I ended E beyond B`
pub record TellsMonth (line : List ℕ) (month : Month) : Type 0 where
  pub held : List ℕ
  pub pending : List ℕ
  pub processing : List ℕ
  pub words : line ≡ line_of (codes "month" ∷ month.charged.now ∷ codes "held" ∷ held
      ∷ codes "pending" ∷ pending ∷ codes "processing" ∷ processing
      ∷ codes "ended" ∷ month.ended.now ∷ codes "beyond" ∷ month.beyond.now ∷ [])

-- `ok granted G reserved R charged C left L`, and behind it what it tells of the month
pub record TellsStatement (line : List ℕ) (statement : Statement) : Type 0 where
  pub granted : List ℕ
  pub of_month : List ℕ
  pub month : Month
  pub words : line ≡ line_of (codes "ok" ∷ codes "granted" ∷ granted
      ∷ codes "reserved" ∷ statement.reserved.now ∷ codes "charged" ∷ statement.charged.now
      ∷ codes "left" ∷ statement.left.now ∷ of_month ∷ [])
  pub is_granted : IsNumber granted statement.granted
  pub tells_month : TellsMonth of_month month
  pub charged_then : statement.charged_then ≡ month.charged
  pub ended_then : statement.ended_then ≡ month.ended
  pub beyond_then : statement.beyond_then ≡ month.beyond
