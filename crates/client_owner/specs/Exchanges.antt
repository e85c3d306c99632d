-- Rule: What is sent to a queue over HTTP/1.1, and what answers it (RFC 9112; RFC 8010 section 4;
-- the most bytes are this project's own).
use Rattle.std.specs.Prelude.{◌≡◌, ◌≤◌, ℕ, Bool, List, [], ◌∷◌, ◌++◌, codes, decimal, find, length, Option, Some, map, option_map}
use Rattle.std.specs.List.{flat_map}
use Rattle.std.specs.Io.KnownBytes.{Consumes}
use Rattle.httparse.specs.Grammar.{IsResponseHead, ResponseHead, print_response, status_code}
use Rattle.httparse.specs.Spans.{name_and_value}
use Rattle.client_lines.specs.Replies.{Known}
use Rattle.client_lines.specs.Words.{IsNumber}
use Rattle.input_http.specs.Limits.{longest_head}
use Rattle.input_http.specs.Words.{is_same_word}
use Rattle.client_owner.specs.declared.queue.Queue.{Queue}

-- a POST to the queue, which has this body, and after which the connection ends
abbrev pub request_parts : Queue → (body : List ℕ) → List (List ℕ)
request_parts queue body = codes "POST " ∷ queue.path.now
    ∷ codes " HTTP/1.1\r\nHost: " ∷ queue.host.now ∷ codes ":" ∷ decimal queue.port
    ∷ codes "\r\nContent-Type: application/ipp\r\nContent-Length: " ∷ decimal (length body)
    ∷ codes "\r\nConnection: close\r\n\r\n" ∷ body ∷ []

abbrev pub http_request : Queue → (body : List ℕ) → List ℕ
http_request queue body = flat_map (λ part. part) (request_parts queue body)

-- a name and a value, which has no white space round it
abbrev pub NameAndValue : Type 0
NameAndValue = List ℕ × List ℕ

-- the value of the first Content-Length, whose name is compared in any case
abbrev pub is_length_field : NameAndValue → Bool
is_length_field field = is_same_word field.0 (codes "content-length")

abbrev pub length_told : List NameAndValue → Option (List ℕ)
length_told fields = option_map (λ field. field.1) (find is_length_field fields)

-- bytes of a body
abbrev pub longest_body : ℕ
longest_body = 4194304

-- a head came, and behind it as many bytes as it tells
pub record Hears (before after : Known) (status : ℕ) (body : List ℕ) : Type 0 where
  pub head : ResponseHead
  pub is_head : IsResponseHead head
  pub is_short : length (print_response head) ≤ longest_head
  pub status_is : status_code head ≡ status
  pub digits : List ℕ
  pub told : length_told (map name_and_value head.fields) ≡ Some digits
  pub is_length : IsNumber digits (length body)
  pub short : length body ≤ longest_body
  pub heard : Consumes before after (print_response head ++ body)
