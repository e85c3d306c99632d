-- What stands at the front of an input in the place of a head.
use Rattle.std.proofs.Common.{◌≡◌, ◌≢◌, ℕ, ◌<◌, ◌≤◌, Bool, true, false, Option, refl, List, [], ◌++◌, length, take, sym, ap, ◌∙◌, subst, append_assoc, arith, length-take}
use Rattle.std.proofs.lemmas.List.{append-nil, drop_all, length-map}
use Rattle.std.specs.Io.KnownBytes.{Appends}
use Rattle.httparse.specs.Grammar.{RequestHead, print_request, HasNoRequest}
use Rattle.httparse.specs.Spans.{IsRequestAt, header_bytes, name_and_value}
use Rattle.httparse.specs.declared.spans.HeaderSpan.{HeaderSpan}
use Rattle.httparse.specs.declared.spans.RequestSpans.{RequestSpans}
use Rattle.listen_http.specs.Exchange.{AppendsInterim, FailedReceiving, Takes, TakesAtMost, TakesHead, is_asked, is_untold}
use Rattle.listen_http.specs.Http.{Orders}
use Rattle.listen_http.specs.ProofReading.{IsReading}
use Rattle.input_http.specs.Texts.{interim_text}
use Rattle.listen_http.specs.declared.fault.WireFault.{WireFault}
use Rattle.listen_http.specs.declared.fault.WireFault.TheVariants.{Read, Write, Memory, Ended}
use Rattle.listen_http.specs.declared.judging.Order.{Order}
use Rattle.listen_http.proofs.Streams.{Yields_more, nothing_sent}
use Rattle.listen_http.specs.Heads.{Opens, IsNoHead, is_cut}

-- a head that is all of a text stands before whatever follows that
pub opens_with : (text : List ℕ) (headers : List HeaderSpan) (spans : RequestSpans) (h : RequestHead) (rest : List ℕ) → IsRequestAt text headers spans h → length headers ≡ 64 → spans.len ≡ length text → length text ≤ 16384 → Opens (text ++ rest) h rest
opens_with text headers spans h rest at room all short =
    let long : length text ≤ spans.len = omega (arith, all) in
    let whole : text ≡ print_request h = at.reads.1 ∙ ap (λ s. print_request h ++ s) (drop_all spans.len text long) ∙ append-nil (print_request h) in
    let count : length (take spans.headers headers) ≡ length h.fields = sym (length-map (take spans.headers headers) (header_bytes text)) ∙ ap length at.fields ∙ length-map h.fields name_and_value in
    let most = length-take spans.headers headers in
    record {
      head = at.reads.0;
      spelled = ap (λ s. s ++ rest) whole;
      short = subst (λ (t : List ℕ). length t ≤ 16384) whole short;
      few = omega (arith, count, most, room);
    }

pub is_cut_at : (text rest : List ℕ) → rest ≡ [] → text ≢ [] → length text < 16384 → HasNoRequest text → IsNoHead (text ++ rest)
is_cut_at text rest end some short none = subst IsNoHead (sym (ap (λ r. text ++ r) end ∙ append-nil text)) (is_cut some short none)

-- what was read after a head
pub behind_head : (a b c : List ℕ → Type 0) (order : Order) (Q H : List ℕ → List ℕ → Type 0) → TakesHead a b order → Takes b c Q
    → ((whole behind rest : List ℕ) → Orders whole order behind → Q behind rest → H whole rest) → Takes a c H
behind_head a b c order Q H first second join = (
  first.taken ++ second.0,
  Yields_more a b c first.taken second.0 first.yields second.1,
  λ rest left. subst (λ (text : List ℕ). H text rest) (sym (append_assoc first.taken second.0 rest))
      (join (first.taken ++ (second.0 ++ rest)) (second.0 ++ rest) rest (first.orders (second.0 ++ rest)) (second.2 rest left)),
)

-- ---- the 100 text before a fault

reading_failed : (a c : List ℕ → Type 0) (old new : Option (List ℕ)) (fault : WireFault) → IsReading fault → AppendsInterim a c old new → FailedReceiving a c old new fault
reading_failed a c old new Read reading told = told
reading_failed a c old new Write reading told = absurd (reading.0 refl)
reading_failed a c old new Memory reading told = told
reading_failed a c old new Ended reading told = absurd (reading.1 refl)

-- within the head
pub head_failed : (a c : List ℕ → Type 0) (old : Option (List ℕ)) (fault : WireFault) → IsReading fault → FailedReceiving a c old old fault
head_failed a c old fault reading = reading_failed a c old old fault reading (is_untold (nothing_sent old))

-- behind it
pub body_failed : (a b c : List ℕ → Type 0) (old new : Option (List ℕ)) (order : Order) (most : ℕ) (fault : WireFault) → TakesHead a b order → TakesAtMost most b c
    → Appends old new (interim_text order.expects) → IsReading fault → FailedReceiving a c old new fault
body_failed a b c old new order most fault first second told reading = reading_failed a c old new fault reading (by order.expects refl told)
  where
    by : (expects : Bool) → order.expects ≡ expects → Appends old new (interim_text expects) → AppendsInterim a c old new
    by false is told = is_untold told
    by true is told =
        is_asked order (record {
          head = first.taken;
          more = second.taken;
          yields = Yields_more a b c first.taken second.taken first.yields second.yields;
          orders = first.orders;
        }) is told
