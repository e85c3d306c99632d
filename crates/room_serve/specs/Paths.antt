-- Which targets are an account's, read byte by byte (all this project's own).
use Rattle.std.specs.Prelude.{◌≡◌, ◌⊎◌, ℕ, ◌≤◌, ⊤, codes, List, [], ◌∷◌, ◌++◌, length, Some}
use Rattle.std.specs.List.{AllByRecursion}
use Rattle.input_http.specs.Targets.{account_of}

-- ---- the parts

-- "a" to "z"
abbrev pub IsLetter : ℕ → Type 0
IsLetter c = (97 ≤ c) × (c ≤ 122)

-- "0" to "9"
abbrev pub IsDigit : ℕ → Type 0
IsDigit c = (48 ≤ c) × (c ≤ 57)

-- a small letter, a digit or "-"
abbrev pub IsNameByte : ℕ → Type 0
IsNameByte c = IsLetter c ⊎ (IsDigit c ⊎ (c ≡ 45))

-- 1 to 32 bytes: a small letter, and behind it small letters, digits and "-"
abbrev pub IsName : List ℕ → Type 0
IsName [] = ⊥
IsName (first ∷ others) =
    IsLetter first × AllByRecursion IsNameByte others × (length (first ∷ others) ≤ 32)

-- nothing, or "/" and 1 to 6 digits
abbrev pub IsJob : List ℕ → Type 0
IsJob [] = ⊤
IsJob (slash ∷ digits) =
    (slash ≡ 47) × (1 ≤ length digits) × (length digits ≤ 6) × AllByRecursion IsDigit digits

-- nothing, or "?" and anything
abbrev pub IsQuery : List ℕ → Type 0
IsQuery [] = ⊤
IsQuery (mark ∷ anything) = mark ≡ 63

-- ---- the whole

-- "/ipp/print/" and the account's name, with a job and a query behind it or without
pub record IsPathOf (account target : List ℕ) : Type 0 where
  pub job : List ℕ
  pub query : List ℕ
  pub is : target ≡ codes "/ipp/print/" ++ (account ++ (job ++ query))
  pub account_is : IsName account
  pub job_is : IsJob job
  pub query_is : IsQuery query

-- a target that names an account is that account's path
abbrev pub NamedByPath : Type 0
NamedByPath = (target account : List ℕ) → account_of target ≡ Some account → IsPathOf account target

-- and whatever is an account's path names that account
abbrev pub PathNames : Type 0
PathNames = (target account : List ℕ) → IsPathOf account target → account_of target ≡ Some account

-- so no target is the path of two accounts
abbrev pub PathOfOne : Type 0
PathOfOne = (target one other : List ℕ) → IsPathOf one target → IsPathOf other target → one ≡ other
