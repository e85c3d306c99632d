-- Rule: What `report` of a month asks and prints (this project's own).
use Rattle.std.specs.Prelude.{◌≤◌, ℕ, ◌-◌, List, [], ◌∷◌, codes, decimal}
use Rattle.client_operator.specs.Asked.{account_asked, statement_asked}
use Rattle.client_operator.specs.Csv.{record_text}
use Rattle.client_operator.specs.Refunds.{GivesBack}
use Rattle.client_operator.specs.Statements.{TellsStatement}
use Rattle.client_operator.specs.Talks.{At, Asks, AsksList, Prints}
use Rattle.client_operator.specs.declared.statement.Statement.{Statement}

abbrev pub report_head : List (List ℕ)
report_head = codes "account" ∷ codes "granted" ∷ codes "refunded" ∷ codes "reserved"
    ∷ codes "charged" ∷ codes "charged_in_month" ∷ codes "jobs_in_month" ∷ codes "left"
    ∷ codes "beyond_in_month" ∷ []

-- what was given back stands beside what was granted, and is no part of it
abbrev pub report_fields : (account : List ℕ) (statement : Statement) (refunded : ℕ) → List (List ℕ)
report_fields account statement refunded = account ∷ decimal (statement.granted - refunded)
    ∷ decimal refunded ∷ statement.reserved.now ∷ statement.charged.now
    ∷ statement.charged_then.now ∷ statement.ended_then.now ∷ statement.left.now
    ∷ statement.beyond_then.now ∷ []

-- the account's statement of the month and its grants were asked for, and its record was printed
pub record ReportsAccount (month : ℕ) (account : List ℕ) (from to : At) : Type 0 where
  pub line : List ℕ
  pub statement : Statement
  pub grants : List (List ℕ)
  pub refunded : ℕ
  pub told : At
  pub granted : At
  pub asks : Asks from told (statement_asked account month) line
  pub tells : TellsStatement line statement
  pub asks_grants : AsksList told granted (account_asked (codes "grants ") account) grants
  pub gives_back : GivesBack grants refunded
  pub is_part : refunded ≤ statement.granted
  pub prints : Prints granted to (record_text (report_fields account statement refunded))
