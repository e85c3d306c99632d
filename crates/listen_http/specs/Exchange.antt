-- Rule: What reading a message takes of an input, what may be written meanwhile, and how many calls
-- fail.
use Rattle.std.specs.Prelude.{◌≡◌, ℕ, ◌+◌, ◌*◌, ◌<◌, ◌≤◌, ⊤, Bool, true, List, [], ◌++◌, length, take, Option, Result, Ok, Err}
use Rattle.std.specs.Io.KnownBytes.{Appends}
use Rattle.input_http.specs.Limits.{longest_body, longest_head, longest_size_line, longest_trailers, shortest_body}
use Rattle.input_fields.specs.Streams.{Yields}
use Rattle.listen_http.specs.Http.{Http, Nothing, Orders, Refused, Carried}
use Rattle.input_http.specs.Texts.{interim_text}
use Rattle.listen_http.specs.declared.fault.WireFault.{WireFault}
use Rattle.listen_http.specs.declared.fault.WireFault.TheVariants.{Read, Write, Memory, Ended}
use Rattle.listen_http.specs.declared.judging.Order.{Order}
use Rattle.listen_http.specs.declared.receiving.Received.{Received}
use Rattle.listen_http.specs.declared.receiving.Received.TheVariants as received

-- the calls of the source that failed in a call that ended so
abbrev pub read_faults : {A : Type 0} → Result A WireFault → ℕ
read_faults (Ok value) = 0
read_faults (Err Read) = 1
read_faults (Err Write) = 0
read_faults (Err Memory) = 0
read_faults (Err Ended) = 0

-- the calls of the sink that failed
abbrev pub write_faults : {A : Type 0} → Result A WireFault → ℕ
write_faults (Ok value) = 0
write_faults (Err Read) = 0
write_faults (Err Write) = 1
write_faults (Err Memory) = 0
write_faults (Err Ended) = 0

-- a front of the text was written that is not all of it
abbrev pub AppendsFront : (old new : Option (List ℕ)) (text : List ℕ) → Type 0
AppendsFront old new text = (n : ℕ) × (n < length text) × Appends old new (take n text)

-- Some bytes were taken, and with what is left now after them this holds.
abbrev pub Takes : (before after : List ℕ → Type 0) (P : (b rest : List ℕ) → Type 0) → Type 0
Takes before after P = (taken : List ℕ) × Yields before after taken
    × ((rest : List ℕ) → after rest → P (taken ++ rest) rest)

-- A head that orders this was taken, and nothing after it.
pub record TakesHead (before after : List ℕ → Type 0) (order : Order) : Type 0 where
  pub taken : List ℕ
  pub yields : Yields before after taken
  pub orders : (rest : List ℕ) → Orders (taken ++ rest) order rest

-- A head that orders this was taken, and perhaps bytes after it.
pub record TakesHeadFirst (before after : List ℕ → Type 0) (order : Order) : Type 0 where
  pub head : List ℕ
  pub more : List ℕ
  pub yields : Yields before after (head ++ more)
  pub orders : (rest : List ℕ) → Orders (head ++ rest) order rest

-- Some bytes were taken, and no more than so many.
pub record TakesAtMost (most : ℕ) (before after : List ℕ → Type 0) : Type 0 where
  pub taken : List ℕ
  pub yields : Yields before after taken
  pub short : length taken ≤ most

-- The most bytes of chunks with the line of size 0 after them: each byte of the body stands at
-- worst in a chunk of its own, of a line, the byte, and CR LF. What ends within a chunk, or is
-- none, has no more.
abbrev pub most_of_chunks : ℕ
most_of_chunks = (longest_size_line + 3) * longest_body + longest_size_line

-- The most bytes of a body: chunks, and trailers. One by length has fewer.
abbrev pub most_of_body : ℕ
most_of_body = most_of_chunks + longest_trailers

-- The most bytes that are taken for one message: a head, and a body: 4362293504.
abbrev pub most_taken : ℕ
most_taken = longest_head + most_of_body

-- what was received, by what the whole input is, and what was written
abbrev pub ReceivedIs : (before after : List ℕ → Type 0) (old new : Option (List ℕ))
    (received : Received) → Type 0
ReceivedIs before after old new received.Nothing =
    Takes before after (λ b rest. Http b Nothing) × (new ≡ old)
ReceivedIs before after old new (received.Refused why) =
    (interim : Bool) × Takes before after (λ b rest. Http b (Refused interim why))
    × Appends old new (interim_text interim)
ReceivedIs before after old new (received.Carried order body) =
    Takes before after (λ b rest. Http b (Carried order body.items rest))
    × Appends old new (interim_text order.expects)

-- what was written where reading or memory failed: nothing, or the 100 text where a head was taken
-- that asks for it
pub data AppendsInterim (before after : List ℕ → Type 0) (old new : Option (List ℕ)) : Type 0 where
  is_untold : Appends old new [] → AppendsInterim before after old new
  is_asked : (order : Order) → TakesHeadFirst before after order → order.expects ≡ true
      → Appends old new (interim_text true) → AppendsInterim before after old new

-- what is written where there was a fault; a write fails before anything after the head was taken
abbrev pub FailedReceiving : (before after : List ℕ → Type 0) (old new : Option (List ℕ))
    (fault : WireFault) → Type 0
FailedReceiving before after old new Read = AppendsInterim before after old new
FailedReceiving before after old new Memory = AppendsInterim before after old new
FailedReceiving before after old new Write = (order : Order) × TakesHead before after order
    × (order.expects ≡ true) × AppendsFront old new (interim_text true)
FailedReceiving before after old new Ended = ⊥

-- a message of IPP has a header
abbrev pub HasHeader : Received → Type 0
HasHeader received.Nothing = ⊤
HasHeader (received.Refused why) = ⊤
HasHeader (received.Carried order body) = shortest_body ≤ length body.items
