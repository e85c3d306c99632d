-- Rule: The words of lines that ask for documents, and of those that come with them (all this
-- project's own).
use Rattle.std.specs.Prelude.{◌≡◌, ◌≢◌, ◌||◌, ℕ, All, Bool, IsTrue, List, ◌++◌, bytes_eq, codes}
use Rattle.std.specs.Str.Parse.{digits_value}
use Rattle.input_fields.specs.Fields.{IsDecimal}

abbrev pub HasNoSpace : List ℕ → Type 0
HasNoSpace word = All (λ byte. byte ≢ 32) word

-- the word is the number in decimal
abbrev pub IsNumber : (word : List ℕ) (number : ℕ) → Type 0
IsNumber word number = IsDecimal word × (digits_value 10 word ≡ number)

-- the first word of a line that is answered by documents
abbrev pub asks_documents : (word : List ℕ) → Bool
asks_documents word = bytes_eq word (codes "start") || bytes_eq word (codes "again")

-- `start DEVICE ACCOUNT JOB` or `again DEVICE ACCOUNT JOB`
pub record AsksDocumentsOf (line account : List ℕ) (job : ℕ) : Type 0 where
  pub word : List ℕ
  pub device : List ℕ
  pub number : List ℕ
  pub words : line ≡ word ++ codes " " ++ device ++ codes " " ++ account ++ codes " " ++ number
  pub asks : IsTrue (asks_documents word)
  pub is_word : HasNoSpace device
  pub is_job : IsNumber number job

-- `document JOB COPIES FORMAT LENGTH`
pub record IsHeadOf (line : List ℕ) (job bytes : ℕ) : Type 0 where
  pub number : List ℕ
  pub copies : List ℕ
  pub format : List ℕ
  pub length : List ℕ
  pub words : line ≡ codes "document" ++ codes " " ++ number ++ codes " " ++ copies
      ++ codes " " ++ format ++ codes " " ++ length
  pub is_format : HasNoSpace format
  pub is_job : IsNumber number job
  pub is_length : IsNumber length bytes
