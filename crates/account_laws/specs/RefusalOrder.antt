-- Which refusal a request has, where several are true of its bytes: the first (this project's own
-- order).
use Rattle.std.specs.Prelude.{◌≡◌, ◌⊎◌, ℕ, List, [], ◌∷◌, Ok, Err}
use Rattle.std.specs.List.{AllByRecursion}
use Rattle.account_asks.specs.Asks.{PlainAsk, PlainRefusal, ask_of}
use Rattle.account_laws.specs.AsksLieWithin.{AreBytes}
use Rattle.account_laws.specs.RefusalMeanings.{Means}
use Rattle.account_rules.specs.declared.refusal.Word.{Word}
use Rattle.account_rules.specs.declared.refusal.Word.TheVariants.{Version, Operation, Malformed, CharsetAndLanguage, Charset, Target, TargetTooLong, NotThisQueue, Syntax, Compression, DocumentFormat, WhichJobs, PasswordEncryptionMissing, PasswordEncryption, PasswordTooLong, JobNameTooLong, Template, DocumentTooLarge}

abbrev pub words_in_order : List Word
words_in_order =
    Version ∷ Operation ∷ Malformed ∷ CharsetAndLanguage ∷ Charset ∷ Target ∷ TargetTooLong
    ∷ NotThisQueue ∷ Syntax ∷ Compression ∷ DocumentFormat ∷ WhichJobs ∷ PasswordEncryptionMissing
    ∷ PasswordEncryption ∷ PasswordTooLong ∷ JobNameTooLong ∷ Template ∷ DocumentTooLarge ∷ []

-- the word is the first of these whose meaning is true of the request
abbrev pub IsFirst : (account body : List ℕ) → List Word → (word : Word) → Type 0
IsFirst account body [] word = ⊥
IsFirst account body (one ∷ later) word =
    ((word ≡ one) × Means account body one)
    ⊎ ((Means account body one → ⊥) × IsFirst account body later word)

-- the meaning of none of these is
abbrev pub NoneIsTrue : (account body : List ℕ) → List Word → Type 0
NoneIsTrue account body words = AllByRecursion (λ (word : Word). Means account body word → ⊥) words

pub record RefusedForTheFirst : Type 0 where
  -- a request that is refused as it is read has the first word that is true of it
  pub refused : (account body : List ℕ) (refused : PlainRefusal)
      → AreBytes body → ask_of account body ≡ Err refused
      → IsFirst account body words_in_order refused.refusal.word
  -- and where one is the first, the request is refused with it
  pub refuses : (account body : List ℕ) (word : Word)
      → AreBytes body → IsFirst account body words_in_order word
      → (refused : PlainRefusal) × (ask_of account body ≡ Err refused)
      × (refused.refusal.word ≡ word)
  -- of a request that passes none is true
  pub passed : (account body : List ℕ) (ask : PlainAsk)
      → AreBytes body → ask_of account body ≡ Ok ask → NoneIsTrue account body words_in_order
  -- and where none is, the request passes
  pub passes : (account body : List ℕ)
      → AreBytes body → NoneIsTrue account body words_in_order
      → (ask : PlainAsk) × (ask_of account body ≡ Ok ask)
