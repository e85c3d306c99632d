-- For the proof of the code alone: what the text of a head tells.
use Rattle.std.specs.Prelude.{◌≡◌, ◌≤◌, ℕ, List, Some, length, map}
use Rattle.std.specs.Io.KnownBytes.{Consumes}
use Rattle.httparse.specs.Grammar.{IsResponseHead, ResponseHead, print_response, status_code}
use Rattle.httparse.specs.Spans.{name_and_value}
use Rattle.client_lines.specs.Replies.{Known}
use Rattle.client_lines.specs.Words.{IsNumber}
use Rattle.input_http.specs.Limits.{longest_head}
use Rattle.client_owner.specs.Exchanges.{NameAndValue, length_told, longest_body}
use Rattle.client_owner.specs.declared.head.Head.{Head}

-- the fields tell a length
pub record TellsLength (fields : List NameAndValue) (count : ℕ) : Type 0 where
  pub digits : List ℕ
  pub told : length_told fields ≡ Some digits
  pub is_length : IsNumber digits count
  pub short : count ≤ longest_body

-- the text is a head that tells so
pub record IsHead (text : List ℕ) (told : Head) : Type 0 where
  pub head : ResponseHead
  pub is_head : IsResponseHead head
  pub text_is : text ≡ print_response head
  pub status_is : status_code head ≡ told.status
  pub length_is : TellsLength (map name_and_value head.fields) told.length

-- such a text was taken
pub record TakesHead (before after : Known) (told : Head) : Type 0 where
  pub text : List ℕ
  pub is_head : IsHead text told
  pub is_short : length text ≤ longest_head
  pub taken : Consumes before after text
