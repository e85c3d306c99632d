-- Rule: Heads of requests (RFC 9112 sections 2 to 5, as `httparse` reads them): of 16384 bytes and
-- 64 fields at most (this project's limits), and what stands in the place of one.
use Rattle.std.specs.Prelude.{◌≡◌, ◌≢◌, ℕ, ◌<◌, ◌≤◌, List, [], ◌++◌, length}
use Rattle.httparse.specs.Grammar.{RequestHead, IsRequestHead, print_request, HasNoRequest, MayBecomeRequest, NeverHasRequest}
use Rattle.httparse.specs.Spans.{RequestExceeds, RequestOverflows}
use Rattle.input_http.specs.Limits.{longest_head, most_fields}

-- the head stands at the front, and this after it
pub record Opens (b : List ℕ) (h : RequestHead) (behind : List ℕ) : Type 0 where
  pub head : IsRequestHead h
  pub spelled : b ≡ print_request h ++ behind
  pub short : length (print_request h) ≤ longest_head
  pub few : length h.fields ≤ most_fields

-- as many bytes as a head may have are there, which hold no whole head and are not refused
abbrev pub IsTooLong : List ℕ → Type 0
IsTooLong b = (front : List ℕ) × (rest : List ℕ) × (b ≡ front ++ rest)
    × (length front ≡ longest_head) × HasNoRequest front × MayBecomeRequest front

-- in its place

pub data IsNoHead (b : List ℕ) : Type 0 where
  -- bytes that no head begins with
  is_invalid : (front rest : List ℕ) → b ≡ front ++ rest → length front ≤ longest_head
      → NeverHasRequest front → IsNoHead b
  -- more fields than there may be
  has_many_fields : (front rest : List ℕ) → b ≡ front ++ rest → length front ≤ longest_head
      → RequestExceeds most_fields front → RequestOverflows most_fields front → IsNoHead b
  -- the end
  is_cut : b ≢ [] → length b < longest_head → HasNoRequest b → IsNoHead b
