use Rattle.std.proofs.Common.{rules, ◌≡◌, ℕ, List, ◌+◌, ◌≤◌, length, ◌==◌, ◌&&◌, ◌||◌, ◌++◌, ◌∷◌, false, [], refl, sym, ap, arith, ◌∙◌, subst}
use Rattle.std.proofs.lemmas.Grind.{common_steps}
use Rattle.httparse.specs.Grammar.{HasNoRequest}
use Rattle.httparse.specs.Spans.{RequestExceeds, RequestOverflows}
use Rattle.input_fields.specs.Streams.{Yields}
use Rattle.listen_http.specs.ProofKinds.{ends_empty_line, has_space, may_end_head}
use Rattle.listen_http.proofs.Heads.{no_head_in_nothing, no_head_with_byte, space_with_byte, whole_head}
use Rattle.listen_http.proofs.Streams.{Yields_more}
use Rattle.listen_http.proofs.Taking.{takes_more, takes_text}
use Rattle.listen_http.proofs.head.read_head.Goals as goal

-- a byte after the bytes so far
took_byte : (a b c : List ℕ → Type 0) (before now : List ℕ) (byte : ℕ) → now ≡ before ++ byte ∷ [] → Yields a b before → Yields b c (byte ∷ []) → Yields a c now
took_byte a b c before now byte is first second = rw is (Yields_more a b c before (byte ∷ []) first second)

-- the room and the text as the function's caller has them
too_many : (room given : ℕ) (text now : List ℕ) → room ≡ given → text ≡ now → RequestExceeds room text → RequestOverflows room text → RequestExceeds given now × RequestOverflows given now
too_many room given text now same is exceeds overflows = (subst (λ n. RequestExceeds n now) same (subst (RequestExceeds room) is exceeds), subst (λ n. RequestOverflows n now) same (subst (RequestOverflows room) is overflows))

pub bytes-init : goal.bytes-init
bytes-init g c = rw c.requires.empty (record {
  within = omega arith;
  room = refl;
  space = refl;
  none = no_head_in_nothing;
  took = λ rest left. left;
  count = refl;
})

-- a byte after which no head ends
pub bytes-preserved : goal.bytes-preserved
bytes-preserved g c =
    let left = g.R.Source.left in
    let old = c.bytes.text.items in
    let byte = c.in-Some.byte in
    let items = c.in_ok-push.ensures.items in
    let space : (c.bytes.has_space || (byte == 32)) ≡ has_space (old ++ byte ∷ []) = space_with_byte old byte c.bytes.has_space c.bytes.invariant.space in
    let text = c.as_slice.ensures.value ∙ items in
    let ends : may_end_head (old ++ byte ∷ []) ≡ false =
    ap (λ b. b && ends_empty_line (old ++ byte ∷ [])) (sym space) ∙ ap (λ t. (c.bytes.has_space || (byte == 32)) && ends_empty_line t) (sym text) ∙ sym c.may_end.ensures ∙ c.if-may_end.false in
    record {
      within = search rules;
      room = search rules;
      space = space ∙ ap has_space (sym items);
      none = subst HasNoRequest (sym items) (no_head_with_byte old byte ends c.bytes.invariant.none);
      took = rw items (Yields_more (left c.args.reader.now) (left c.bytes.reader) (left c.read_byte.new.reader) old (byte ∷ []) c.bytes.invariant.took (rw c.in-Some.is at c.in_ok-byte.ensures.took));
      count = search rules;
    }

pub returns-in-Ok-Complete-clause-took : goal.returns-in-Ok-Complete-clause-took
returns-in-Ok-Complete-clause-took g c =
    let left = g.R.Source.left in
    rw c.in_ok-push.ensures.items (Yields_more (left c.args.reader.now) (left c.bytes.reader) (left c.read_byte.new.reader) c.bytes.text.items (c.in-Some.byte ∷ []) c.bytes.invariant.took (rw c.in-Some.is at c.in_ok-byte.ensures.took))

pub returns-in_err-byte-clause-bounded : goal.returns-in_err-byte-clause-bounded
returns-in_err-byte-clause-bounded g c =
    let left = g.R.Source.left in
    let before = c.bytes.text.items in
    let short : length before + 1 ≤ 16384 = search rules in
    takes_more (left c.args.reader.now) (left c.bytes.reader) (left c.read_byte.new.reader) before 1 16384 c.bytes.invariant.took c.read_byte.ensures.bounded short

pub returns-in-Ok-Complete-clause-bounded : goal.returns-in-Ok-Complete-clause-bounded
returns-in-Ok-Complete-clause-bounded g c =
    let left = g.R.Source.left in
    let before = c.bytes.text.items in
    let short : length before + 1 ≤ 16384 = search rules in
    takes_more (left c.args.reader.now) (left c.bytes.reader) (left c.read_byte.new.reader) before 1 16384 c.bytes.invariant.took c.read_byte.ensures.bounded short

pub returns-then-is_empty-clause-took : goal.returns-then-is_empty-clause-took
returns-then-is_empty-clause-took g c = λ rest h. c.bytes.invariant.took rest ((rw c.in_default.is at c.in_ok-byte.ensures.took) rest h)

pub returns-else-is_empty-clause-took : goal.returns-else-is_empty-clause-took
returns-else-is_empty-clause-took g c = λ rest h. c.bytes.invariant.took rest ((rw c.in_default.is at c.in_ok-byte.ensures.took) rest h)

pub returns-in-Err-TooManyHeaders-clause-took : goal.returns-in-Err-TooManyHeaders-clause-took
returns-in-Err-TooManyHeaders-clause-took g c =
    let left = g.R.Source.left in
    took_byte (left c.args.reader.now) (left c.bytes.reader) (left c.read_byte.new.reader) c.bytes.text.items c.push.new.self.items c.in-Some.byte c.in_ok-push.ensures.items c.bytes.invariant.took (rw c.in-Some.is at c.in_ok-byte.ensures.took)

pub returns-in_err-push-clause-bounded : goal.returns-in_err-push-clause-bounded
returns-in_err-push-clause-bounded g c =
    let left = g.R.Source.left in
    let before = c.bytes.text.items in
    let short : length before + 1 ≤ 16384 = search rules in
    takes_more (left c.args.reader.now) (left c.bytes.reader) (left c.read_byte.new.reader) before 1 16384 c.bytes.invariant.took c.read_byte.ensures.bounded short

pub returns-then-is_empty-clause-bounded : goal.returns-then-is_empty-clause-bounded
returns-then-is_empty-clause-bounded g c =
    let left = g.R.Source.left in
    let before = c.bytes.text.items in
    let short : length before + 1 ≤ 16384 = search rules in
    takes_more (left c.args.reader.now) (left c.bytes.reader) (left c.read_byte.new.reader) before 1 16384 c.bytes.invariant.took c.read_byte.ensures.bounded short

pub returns-else-is_empty-clause-bounded : goal.returns-else-is_empty-clause-bounded
returns-else-is_empty-clause-bounded g c =
    let left = g.R.Source.left in
    let before = c.bytes.text.items in
    let short : length before + 1 ≤ 16384 = search rules in
    takes_more (left c.args.reader.now) (left c.bytes.reader) (left c.read_byte.new.reader) before 1 16384 c.bytes.invariant.took c.read_byte.ensures.bounded short

pub returns-in-Err-TooManyHeaders-clause-bounded : goal.returns-in-Err-TooManyHeaders-clause-bounded
returns-in-Err-TooManyHeaders-clause-bounded g c =
    let left = g.R.Source.left in
    let before = c.bytes.text.items in
    let short : length before + 1 ≤ 16384 = search rules in
    takes_more (left c.args.reader.now) (left c.bytes.reader) (left c.read_byte.new.reader) before 1 16384 c.bytes.invariant.took c.read_byte.ensures.bounded short

pub returns-in-Ok-Complete-clause-is : goal.returns-in-Ok-Complete-clause-is
returns-in-Ok-Complete-clause-is g c = grind (arith, whole_head)

pub returns-in-Err : goal.returns-in-Err
returns-in-Err g c =
    let left = g.R.Source.left in
    let before = c.bytes.text.items in
    let short : length before + 1 ≤ 16384 = search rules in
    record {
      took = took_byte (left c.args.reader.now) (left c.bytes.reader) (left c.read_byte.new.reader) before c.push.new.self.items c.in-Some.byte c.in_ok-push.ensures.items c.bytes.invariant.took (rw c.in-Some.is at c.in_ok-byte.ensures.took);
      short = search rules;
      is = search rules;
      bounded = takes_more (left c.args.reader.now) (left c.bytes.reader) (left c.read_byte.new.reader) before 1 16384 c.bytes.invariant.took c.read_byte.ensures.bounded short;
      count = search rules;
      cause = tt;
    }

pub bytes-preserved-in-Ok-Partial : goal.bytes-preserved-in-Ok-Partial
bytes-preserved-in-Ok-Partial g c =
    let left = g.R.Source.left in
    let old = c.bytes.text.items in
    let byte = c.in-Some.byte in
    record {
      within = search rules;
      room = search rules;
      space = space_with_byte old byte c.bytes.has_space c.bytes.invariant.space ∙ ap has_space (sym c.in_ok-push.ensures.items);
      none = search rules;
      took = took_byte (left c.args.reader.now) (left c.bytes.reader) (left c.read_byte.new.reader) old c.push.new.self.items byte c.in_ok-push.ensures.items c.bytes.invariant.took (rw c.in-Some.is at c.in_ok-byte.ensures.took);
      count = search rules;
    }

pub returns-then-is_empty-clause-is : goal.returns-then-is_empty-clause-is
returns-then-is_empty-clause-is g c = (grind (arith, common_steps), rw c.in_default.is at c.in_ok-byte.ensures.end)

pub returns-else-is_empty-clause-is : goal.returns-else-is_empty-clause-is
returns-else-is_empty-clause-is g c = (search rules, search rules, (rw c.in_default.is at c.in_ok-byte.ensures.end), c.bytes.invariant.none)

pub returns-in-Err-parse_request : goal.returns-in-Err-parse_request
returns-in-Err-parse_request g c =
    let left = g.R.Source.left in
    record {
      took = c.bytes.invariant.took;
      short = c.bytes.invariant.within;
      is = search rules;
      bounded = takes_text (left c.args.reader.now) (left c.bytes.reader) c.bytes.text.items 16384 c.bytes.invariant.took c.bytes.invariant.within;
      count = search rules;
      cause = tt;
    }

pub returns-in-Err-TooManyHeaders-clause-is : goal.returns-in-Err-TooManyHeaders-clause-is
returns-in-Err-TooManyHeaders-clause-is g c =
    let told = c.in-Err-TooManyHeaders in
    let exceeds = rw told.field-0-is at told.ensures.too_many in
    too_many _ _ _ _ c.bytes.invariant.room c.as_slice-then-may_end.ensures.value (exceeds refl) told.ensures.no_room

pub returns-in-Err-TooManyHeaders-parse_request-clause-is :
    goal.returns-in-Err-TooManyHeaders-parse_request-clause-is
returns-in-Err-TooManyHeaders-parse_request-clause-is g c =
    let told = c.in-Err-TooManyHeaders-parse_request in
    let exceeds = rw told.field-0-is at told.ensures.too_many in
    too_many _ _ _ _ c.bytes.invariant.room c.as_slice-2.ensures.value (exceeds refl) told.ensures.no_room
