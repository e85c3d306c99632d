-- Two readings of one input are the same, but in the two places.
use Rattle.std.proofs.Common.{◌≡◌, ◌⊎◌, inl, inr, ℕ, ◌<◌, ◌≤◌, false, List, [], length, refl, sym, ap, ◌∙◌, subst, arith, Result, Ok, Err}
use Rattle.httparse.specs.Grammar.{RequestHead}
use Rattle.listen_http.specs.Bodies.{HasBody, IsNoBody, IsTooLongBody}
use Rattle.listen_http.specs.Heads.{IsNoHead, IsTooLong, Opens}
use Rattle.listen_http.specs.Http.{Carried, Heard, Http, Nothing, Orders, Refused, has_long_body, has_long_head, has_message, has_no_body, has_no_head, has_refused_head, has_short_body, is_nothing}
use Rattle.listen_http.specs.HttpLaws.{HasOneReading, HasTwoAnswers, IsEitherAnswer}
use Rattle.listen_http.specs.Judging.{judged, said_by}
use Rattle.listen_http.specs.declared.framing.Framing.{Framing}
use Rattle.listen_http.specs.declared.framing.Framing.TheVariants.{Chunked}
use Rattle.listen_http.specs.declared.judging.Order.{Order}
use Rattle.input_http.specs.declared.refusal.Refusal.{Refusal}
use Rattle.input_http.specs.declared.refusal.Refusal.TheVariants.{BadRequest, HeadTooLarge, PayloadTooLarge}
use Rattle.listen_http.proofs.OneBody.{body_or_long, body_or_none, none_or_long_body, one_body}
use Rattle.listen_http.proofs.OneHead.{head_or_long, head_or_none, head_or_nothing, long_and_none, long_or_nothing, none_or_nothing, one_head}

-- ---- behind a head that orders something

pub data Followed (order : Order) (behind : List ℕ) (heard : Heard) : Type 0 where
  too_long : order.framing ≡ Chunked → IsTooLongBody behind → heard ≡ Refused order.expects PayloadTooLarge → Followed order behind heard
  none : IsNoBody behind order.framing → heard ≡ Refused order.expects BadRequest → Followed order behind heard
  short : (body rest : List ℕ) → HasBody order.framing behind body rest → length body < 8 → heard ≡ Refused order.expects BadRequest → Followed order behind heard
  whole : (body rest : List ℕ) → HasBody order.framing behind body rest → 8 ≤ length body → heard ≡ Carried order body rest → Followed order behind heard

chunked_or_long : (framing : Framing) (behind body rest : List ℕ) → framing ≡ Chunked → HasBody framing behind body rest → IsTooLongBody behind → ⊥
chunked_or_long framing behind body rest is has long = body_or_long behind body rest (subst (λ (f : Framing). HasBody f behind body rest) is has) long

none_or_too_long : (framing : Framing) (behind : List ℕ) → framing ≡ Chunked → IsNoBody behind framing → IsTooLongBody behind → ⊥
none_or_too_long framing behind is missing long = none_or_long_body behind (subst (λ (f : Framing). IsNoBody behind f) is missing) long

one_body_length : (order : Order) (behind body rest other others : List ℕ) → HasBody order.framing behind body rest → HasBody order.framing behind other others → length body ≡ length other
one_body_length order behind body rest other others has has_other = ap length (one_body order.framing behind body rest other others has has_other).0

same_followed : (order : Order) (behind : List ℕ) (x y : Heard) → Followed order behind x → Followed order behind y → x ≡ y
same_followed order behind x y (too_long is long e) (too_long is2 long2 e2) = e ∙ sym e2
same_followed order behind x y (too_long is long e) (none missing e2) = absurd (none_or_too_long order.framing behind is missing long)
same_followed order behind x y (too_long is long e) (short body rest has few e2) = absurd (chunked_or_long order.framing behind body rest is has long)
same_followed order behind x y (too_long is long e) (whole body rest has many e2) = absurd (chunked_or_long order.framing behind body rest is has long)
same_followed order behind x y (none missing e) (too_long is long e2) = absurd (none_or_too_long order.framing behind is missing long)
same_followed order behind x y (none missing e) (none no2 e2) = e ∙ sym e2
same_followed order behind x y (none missing e) (short body rest has few e2) = e ∙ sym e2
same_followed order behind x y (none missing e) (whole body rest has many e2) = absurd (body_or_none order.framing behind body rest has missing)
same_followed order behind x y (short body rest has few e) (too_long is long e2) = absurd (chunked_or_long order.framing behind body rest is has long)
same_followed order behind x y (short body rest has few e) (none missing e2) = e ∙ sym e2
same_followed order behind x y (short body rest has few e) (short body2 rest2 has2 few2 e2) = e ∙ sym e2
same_followed order behind x y (short body rest has few e) (whole body2 rest2 has2 many e2) = absurd (omega (arith, one_body_length order behind body rest body2 rest2 has has2, few, many))
same_followed order behind x y (whole body rest has many e) (too_long is long e2) = absurd (chunked_or_long order.framing behind body rest is has long)
same_followed order behind x y (whole body rest has many e) (none missing e2) = absurd (body_or_none order.framing behind body rest has missing)
same_followed order behind x y (whole body rest has many e) (short body2 rest2 has2 few e2) = absurd (omega (arith, one_body_length order behind body rest body2 rest2 has has2, few, many))
same_followed order behind x y (whole body rest has many e) (whole body2 rest2 has2 many2 e2) =
    let same = one_body order.framing behind body rest body2 rest2 has has2 in
    e ∙ ap (λ s. Carried order s rest) same.0 ∙ ap (λ s. Carried order body2 s) same.1 ∙ sym e2

-- ---- behind any head

abbrev pub Judged : Result Order Refusal → (behind : List ℕ) (heard : Heard) → Type 0
Judged (Ok order) behind heard = Followed order behind heard
Judged (Err why) behind heard = heard ≡ Refused false why

same_judged : (judgement : Result Order Refusal) (behind : List ℕ) (x y : Heard) → Judged judgement behind x → Judged judgement behind y → x ≡ y
same_judged (Ok order) behind x y one other = same_followed order behind x y one other
same_judged (Err why) behind x y one other = one ∙ sym other

-- ---- whole inputs

pub data Opened (b : List ℕ) (heard : Heard) : Type 0 where
  nothing : b ≡ [] → heard ≡ Nothing → Opened b heard
  long_head : IsTooLong b → heard ≡ Refused false HeadTooLarge → Opened b heard
  no_head : IsNoHead b → heard ≡ Refused false BadRequest → Opened b heard
  head : (h : RequestHead) (behind : List ℕ) → Opens b h behind → Judged (judged (said_by h)) behind heard → Opened b heard

ordered : (b : List ℕ) (heard : Heard) (order : Order) (behind : List ℕ) → Orders b order behind → Followed order behind heard → Opened b heard
ordered b heard order behind orders followed = head orders.head behind orders.opens (subst (λ (j : Result Order Refusal). Judged j behind heard) (sym orders.judged) followed)

opened : (b : List ℕ) (heard : Heard) → Http b heard → Opened b heard
opened b heard (is_nothing e) = nothing e refl
opened b heard (has_long_head long) = long_head long refl
opened b heard (has_no_head missing) = no_head missing refl
opened b heard (has_refused_head h behind why opens is) = head h behind opens (subst (λ (j : Result Order Refusal). Judged j behind (Refused false why)) (sym is) refl)
opened b heard (has_long_body order behind orders is long) = ordered b _ order behind orders (too_long is long refl)
opened b heard (has_no_body order behind orders missing) = ordered b _ order behind orders (none missing refl)
opened b heard (has_short_body order behind body rest orders has few) = ordered b _ order behind orders (short body rest has few refl)
opened b heard (has_message order behind body rest orders has many) = ordered b _ order behind orders (whole body rest has many refl)

abbrev pub IsOne : (b : List ℕ) (x y : Heard) → Type 0
IsOne b x y = (x ≡ y) ⊎ (HasTwoAnswers b × IsEitherAnswer x × IsEitherAnswer y)

same_opened : (b : List ℕ) (x y : Heard) → Opened b x → Opened b y → IsOne b x y
same_opened b x y (nothing e is) (nothing e2 is2) = inl (is ∙ sym is2)
same_opened b x y (nothing e is) (long_head long is2) = absurd (long_or_nothing b long e)
same_opened b x y (nothing e is) (no_head missing is2) = absurd (none_or_nothing b missing e)
same_opened b x y (nothing e is) (head h behind opens is2) = absurd (head_or_nothing b h behind opens e)
same_opened b x y (long_head long is) (nothing e is2) = absurd (long_or_nothing b long e)
same_opened b x y (long_head long is) (long_head long2 is2) = inl (is ∙ sym is2)
same_opened b x y (long_head long is) (no_head missing is2) = inr (long_and_none b long missing, inr is, inl is2)
same_opened b x y (long_head long is) (head h behind opens is2) = absurd (head_or_long b h behind opens long)
same_opened b x y (no_head missing is) (nothing e is2) = absurd (none_or_nothing b missing e)
same_opened b x y (no_head missing is) (long_head long is2) = inr (long_and_none b long missing, inl is, inr is2)
same_opened b x y (no_head missing is) (no_head no2 is2) = inl (is ∙ sym is2)
same_opened b x y (no_head missing is) (head h behind opens is2) = absurd (head_or_none b h behind opens missing)
same_opened b x y (head h behind opens is) (nothing e is2) = absurd (head_or_nothing b h behind opens e)
same_opened b x y (head h behind opens is) (long_head long is2) = absurd (head_or_long b h behind opens long)
same_opened b x y (head h behind opens is) (no_head missing is2) = absurd (head_or_none b h behind opens missing)
same_opened b x y (head h behind opens is) (head k other opens2 is2) =
    let same = one_head b h k behind other opens opens2 in
    let moved = subst (λ (s : List ℕ). Judged (judged (said_by h)) s x) same.1 is in
    inl (same_judged (judged (said_by k)) other x y (subst (λ (r : RequestHead). Judged (judged (said_by r)) other x) same.0 moved) is2)

pub one_reading : HasOneReading
one_reading b x y one other = same_opened b x y (opened b x one) (opened b y other)
