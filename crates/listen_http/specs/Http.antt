-- Rule: What a whole input is: nothing, a message that is refused, or one that is carried out with
-- what follows it. The refusals stand in the order in which they are judged (all this project's
-- own).
use Rattle.std.specs.Prelude.{◌≡◌, ℕ, ◌<◌, ◌≤◌, Bool, false, List, [], Ok, Err, length}
use Rattle.httparse.specs.Grammar.{RequestHead}
use Rattle.listen_http.specs.Bodies.{HasBody, IsNoBody, IsTooLongBody}
use Rattle.listen_http.specs.Heads.{Opens, IsTooLong, IsNoHead}
use Rattle.listen_http.specs.Judging.{judged, said_by}
use Rattle.input_http.specs.Limits.{shortest_body}
use Rattle.listen_http.specs.declared.framing.Framing.TheVariants.{Chunked}
use Rattle.listen_http.specs.declared.judging.Order.{Order}
use Rattle.input_http.specs.declared.refusal.Refusal.{Refusal}
use Rattle.input_http.specs.declared.refusal.Refusal.TheVariants.{BadRequest, PayloadTooLarge, HeadTooLarge}

pub data Heard : Type 0 where
  Nothing : Heard
  -- whether the 100 text came before, and the refusal
  Refused : Bool → Refusal → Heard
  -- what its head orders, its body, and what follows
  Carried : (order : Order) (body rest : List ℕ) → Heard

-- a head stands at the front that orders this, and what stands after it
pub record Orders (b : List ℕ) (order : Order) (behind : List ℕ) : Type 0 where
  pub head : RequestHead
  pub opens : Opens b head behind
  pub judged : judged (said_by head) ≡ Ok order

pub data Http (b : List ℕ) : Heard → Type 0 where
  is_nothing : b ≡ [] → Http b Nothing
  -- line 1: a head that is too long
  has_long_head : IsTooLong b → Http b (Refused false HeadTooLarge)
  -- line 2: no head
  has_no_head : IsNoHead b → Http b (Refused false BadRequest)
  -- lines 2 to 6: a head that is refused for what it says
  has_refused_head : (head : RequestHead) (behind : List ℕ) (why : Refusal) → Opens b head behind
      → judged (said_by head) ≡ Err why → Http b (Refused false why)
  -- line 6: chunks of more bytes than a body may have
  has_long_body : (order : Order) (behind : List ℕ) → Orders b order behind
      → order.framing ≡ Chunked → IsTooLongBody behind
      → Http b (Refused order.expects PayloadTooLarge)
  -- line 6: no body
  has_no_body : (order : Order) (behind : List ℕ) → Orders b order behind
      → IsNoBody behind order.framing → Http b (Refused order.expects BadRequest)
  -- line 7: a body that is too short for a message of IPP
  has_short_body : (order : Order) (behind body rest : List ℕ) → Orders b order behind
      → HasBody order.framing behind body rest → length body < shortest_body
      → Http b (Refused order.expects BadRequest)
  -- whether the account is known is seen when it is asked
  has_message : (order : Order) (behind body rest : List ℕ) → Orders b order behind
      → HasBody order.framing behind body rest → shortest_body ≤ length body
      → Http b (Carried order body rest)
