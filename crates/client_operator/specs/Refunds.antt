-- Rule: Pages that are given back, by grants for months before 2000-01 (this project's own).
use Rattle.std.specs.Prelude.{◌≡◌, ◌≢◌, ◌<◌, ◌≤◌, ℕ, ◌+◌, if◌then◌else◌, nat_lt, List, [], ◌∷◌, codes, ⊤, ◌⊎◌, Some}
use Rattle.input_fields.specs.Fields.{month_said}
use Rattle.account_rules.specs.Limits.{first_month}
use Rattle.client_lines.specs.Grants.{grant_text}
use Rattle.client_lines.specs.Words.{IsNumber}
use Rattle.client_operator.specs.Asked.{account_asked}
use Rattle.client_operator.specs.Lines.{line_of}
use Rattle.client_operator.specs.Talks.{At, AsksList, GetsDone}
use Rattle.client_operator.specs.declared.grant.Granted.{Granted}

-- January 2000, the first month that is not for refunds
abbrev pub after_refunds : ℕ
after_refunds = 24000

-- `grant YYYY-MM PAGES`
pub record TellsGrant (line : List ℕ) (granted : Granted) : Type 0 where
  pub month : List ℕ
  pub pages : List ℕ
  pub words : line ≡ line_of (codes "grant" ∷ month ∷ pages ∷ [])
  pub is_month : month_said month ≡ Some granted.month
  pub is_pages : IsNumber pages granted.pages

-- what the grants of these lines gave back
abbrev pub GivesBack : (lines : List (List ℕ)) (sum : ℕ) → Type 0
GivesBack [] sum = sum ≡ 0
GivesBack (line ∷ rest) sum = (granted : Granted) × TellsGrant line granted
    × (others : ℕ) × GivesBack rest others
    × (sum ≡ (if nat_lt granted.month after_refunds then granted.pages + others else others))

-- one of the lines tells of a grant for the month
abbrev pub HasGrant : (lines : List (List ℕ)) (month : ℕ) → Type 0
HasGrant [] month = ⊥
HasGrant (line ∷ rest) month =
    ((granted : Granted) × TellsGrant line granted × (granted.month ≡ month)) ⊎ HasGrant rest month

-- each line tells of a grant, and none for the month
abbrev pub HasNoGrant : (lines : List (List ℕ)) (month : ℕ) → Type 0
HasNoGrant [] month = ⊤
HasNoGrant (line ∷ rest) month =
    ((granted : Granted) × TellsGrant line granted × (granted.month ≢ month)) × HasNoGrant rest month

-- the latest month before 2000-01 that has no grant
pub record IsLatestFree (lines : List (List ℕ)) (month : ℕ) : Type 0 where
  pub first : first_month ≤ month
  pub last : month < after_refunds
  pub free : HasNoGrant lines month
  pub later : (other : ℕ) → month < other → other < after_refunds → HasGrant lines other

-- the account's grants were asked for, and then so many pages granted for that month
pub record Refunds (account : List ℕ) (pages : ℕ) (from to : At) : Type 0 where
  pub lines : List (List ℕ)
  pub month : ℕ
  pub mid : At
  pub asks : AsksList from mid (account_asked (codes "grants ") account) lines
  pub latest : IsLatestFree lines month
  pub tells : GetsDone mid to (grant_text account month pages)
