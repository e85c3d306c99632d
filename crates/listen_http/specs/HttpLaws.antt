-- That an input of HTTP can be read in one way only, but in two places (all this project's own).
use Rattle.std.specs.Prelude.{◌≡◌, ◌⊎◌, ℕ, false, List, ◌++◌, length}
use Rattle.httparse.specs.Grammar.{EndsInTarget, HasNoRequest, NeverHasRequest}
use Rattle.httparse.specs.Spans.{RequestExceeds}
use Rattle.input_http.specs.Limits.{longest_head, most_fields}
use Rattle.listen_http.specs.Http.{Heard, Http, Refused}
use Rattle.input_http.specs.declared.refusal.Refusal.TheVariants.{BadRequest, HeadTooLarge}

-- The two places where 400 and 431 are both allowed. In each, as many bytes are there as a head may
-- have, and hold none.
pub data HasTwoAnswers (b : List ℕ) : Type 0 where
  -- they end inside a target that no head can have
  ends_in_target : (front rest : List ℕ) → b ≡ front ++ rest → length front ≡ longest_head
      → EndsInTarget front → NeverHasRequest front → HasTwoAnswers b
  -- more fields begin in them than a head may have
  begins_many_fields : (front rest : List ℕ) → b ≡ front ++ rest → length front ≡ longest_head
      → HasNoRequest front → RequestExceeds most_fields front → HasTwoAnswers b

abbrev pub IsEitherAnswer : Heard → Type 0
IsEitherAnswer heard = (heard ≡ Refused false BadRequest) ⊎ (heard ≡ Refused false HeadTooLarge)

-- Two readings of an input are the same, and so are the account, the body and what follows of a
-- message that is carried out; or the input is one of these places, and they are these answers.
abbrev pub HasOneReading : Type 0
HasOneReading = (b : List ℕ) (one other : Heard) → Http b one → Http b other
    → (one ≡ other) ⊎ (HasTwoAnswers b × IsEitherAnswer one × IsEitherAnswer other)
