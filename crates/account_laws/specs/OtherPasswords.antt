-- Two bodies that differ in a password alone (the attribute is PWG 5100.11's; the rest is this
-- project's own).
use Rattle.std.specs.Prelude.{◌≡◌, ◌≢◌, ℕ, ◌≤◌, ◌==◌, if◌then◌else◌, codes, List, [], ◌∷◌, map, length, Some}
use Rattle.ipp_coding.specs.Plain.{PlainAttribute, PlainGroup, PlainMessage, PlainValue}
use Rattle.ipp_coding.specs.Reading.{message_of}
use Rattle.account_asks.specs.Requests.{is_named}
use Rattle.account_laws.specs.PasswordsStaySecret.{AreBodiesAlike}
use Rattle.account_rules.specs.Limits.{longest_password}

-- the attribute, with this password where it is job-password
abbrev pub with_password : (password : List ℕ) → PlainAttribute → PlainAttribute
with_password password attribute =
    if is_named (codes "job-password") attribute
    then record attribute {
      values = map (λ (value : PlainValue). record value { bytes = password }) attribute.values;
    }
    else attribute

-- the message, with this password in the operation attributes that it begins with
abbrev pub group_with : (password : List ℕ) → PlainGroup → PlainGroup
group_with password group =
    if group.tag == 1
    then record group { attributes = map (with_password password) group.attributes }
    else group

abbrev pub groups_with : (password : List ℕ) → List PlainGroup → List PlainGroup
groups_with password [] = []
groups_with password (group ∷ groups) = group_with password group ∷ groups

abbrev pub message_with : (password : List ℕ) → PlainMessage → PlainMessage
message_with password message =
    record message { groups = groups_with password message.groups }

-- a password that a job can have
pub record CanBeGiven (password : List ℕ) : Type 0 where
  pub some_bytes : password ≢ []
  pub short_enough : length password ≤ longest_password

-- two bodies that spell one message but for the password are alike, for every account
abbrev pub AlikeButForPassword : Type 0
AlikeButForPassword =
    (account a b : List ℕ) (message : PlainMessage) (password other : List ℕ)
    → message_of a ≡ Some (message_with password message)
    → message_of b ≡ Some (message_with other message)
    → CanBeGiven password → CanBeGiven other → AreBodiesAlike account a b
