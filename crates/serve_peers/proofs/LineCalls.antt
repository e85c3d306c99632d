-- How a connection of lines goes on, one step after another.
use Rattle.std.proofs.Common.{◌≡◌, ◌≢◌, ◌⊎◌, ◌==◌, ◌<◌, ◌≤◌, ℕ, ◌+◌, Option, None, Some, true, false, nat_lt, List, [], ◌∷◌, ◌++◌, length, length-append, take, drop, refl, sym, ap, ◌∙◌, subst, inl, inr, codes, append_assoc, append-nil, arith}
use Rattle.std.specs.List.{position_or_len}
use Rattle.std.proofs.lemmas.Bool.{lt-ltb, true≢false}
use Rattle.std.proofs.lemmas.Grind.{common_steps, flat_map-append}
use Rattle.std.proofs.lemmas.List.Quantifiers.{position-Some}
use Rattle.std.proofs.lemmas.List.Sums.{fails_before_first}
use Rattle.std.proofs.lemmas.List.{get_or-take, length-take, take-append-drop}
use Rattle.std.proofs.KnownBytes.{Appends-nil, Consumes-nil}
use Rattle.sqlite_trees.specs.declared.store.Store.{Ghosts}
use Rattle.serve_peers.proofs.Ends.{carry_then, no_bytes}
use Rattle.serve_peers.proofs.LineEnds.{ends_with_feed}
use Rattle.serve_peers.specs.Lines.{AnswersLine, BeginsNoText, IsNoText, IsPutOff, IsQuiet, IsWaiting, Leaves, LosesAnswer, TakesLine, ended_of, has_control, input_of, line_end, output_of, received_of, sent_of, side_of}
use Rattle.serve_peers.specs.declared.line_connection.LineConnection.{LineConnection}
use Rattle.serve_peers.specs.declared.line_connection.Side.{Side}
use Rattle.serve_peers.specs.declared.served.Served.{Served}
use Rattle.serve_peers.specs.LinePeers.{AreLines, Chain, HasNoFeed, IsLine, IsOver, TakenBehind, TakesLines, LineCall, taken, bytes_told}
use Rattle.serve_peers.specs.Streams.{Ends}
use Rattle.serve_peers.specs.ProofLineSteps.{IsEnded, IsNoLine, ReceivesBytes, RefusesRest, SendsBytes, TakesStep}
use Rattle.serve_peers.specs.declared.step.Next.{Next}
use Rattle.serve_peers.specs.declared.step.Next.TheVariants.{Close}

-- what is cut off in front joins, and so does what comes after
joins : (a b c p q s t : List ℕ) → a ++ p ≡ s ++ b → b ++ q ≡ t ++ c → a ++ (p ++ q) ≡ (s ++ t) ++ c
joins a b c p q s t first later =
    sym (append_assoc a p q) ∙ ap (λ x. x ++ q) first ∙ append_assoc s b q ∙ ap (λ x. s ++ x) later ∙ sym (append_assoc s t c)

-- ---- one answer for one line

-- no line feed comes before the first
no_feed_before : (input : List ℕ) (end : ℕ) → line_end input ≡ Some end → HasNoFeed (take end input)
no_feed_before input end is k d low =
    let found = position-Some (λ b. b == 10) input end d is in
    let within : k < end = omega (arith, low, found.0, length-take end input) in
    ap (λ b. b == 10) (get_or-take end input k d within) ∙ found.2 k within

no_feed : (bytes : List ℕ) → line_end bytes ≡ None → HasNoFeed bytes
no_feed bytes none k d low =
    let far : length bytes ≤ position_or_len (λ b. b == 10) bytes = grind (arith, common_steps) in
    fails_before_first (λ b. b == 10) bytes k d (omega (arith, low, far))

is_line : (input : List ℕ) (end : ℕ) → line_end input ≡ Some end → has_control (take end input) ≡ false → IsLine (take (end + 1) input)
is_line input end is plain = (take end input, ends_with_feed input end is, no_feed_before input end is, plain)

no_line : (input : List ℕ) → IsNoLine input → HasNoFeed input ⊎ BeginsNoText input
no_line input (inl none) = inl (no_feed input none)
no_line input (inr begins) = inr begins

-- of no byte there is no line
no_lines : (over : Type 0) (calls : List LineCall) → AreLines over calls → length (taken calls) ≡ 0 → calls ≡ []
no_lines over [] are none = refl
no_lines over (call ∷ calls) (inl (line, later)) none = absurd (omega (arith, none, length-append call.0 (taken calls), ap length line.1, length-append line.0 (10 ∷ [])))
no_lines over (call ∷ calls) (inr (rest, alone, is_over)) none = absurd (omega (arith, none, length-append call.0 (taken calls), rest.0))

pub lines_then : (over over2 : Type 0) (first more : List LineCall) → AreLines over first → (over → more ≡ []) → (over → over2) → AreLines over2 more → AreLines over2 (first ++ more)
lines_then over over2 [] more are none on later = later
lines_then over over2 (call ∷ first) more (inl (line, are)) none on later = inl (line, lines_then over over2 first more are none on later)
lines_then over over2 (call ∷ first) more (inr (rest, alone, is_over)) none on later = inr (rest, (λ i. alone i ++ none is_over i), on is_over)

-- ---- one after another

pub none_waits : (output : List ℕ) → nat_lt 0 (length output) ≡ false → output ≡ []
none_waits [] is = refl
none_waits (b ∷ output) is = absurd (true≢false (sym (lt-ltb 0 (length (b ∷ output)) (omega arith)) ∙ is))

behind_one : (waited : List ℕ) (call : LineCall) → waited ≡ [] → TakenBehind waited (call ∷ []) []
behind_one waited call none = inr ([], call, [], refl, sym (ap (λ x. (x ++ []) ++ []) none))

behind_then : (a b : List ℕ) (first more : List LineCall) (one two : List ℕ) → TakenBehind a first one → a ++ bytes_told first ≡ one ++ b → TakenBehind b more two → TakenBehind a (first ++ more) (one ++ two)
behind_then a b first more one two (inl none) told (inl none_more) = inl (λ i. none i ++ none_more i)
behind_then a b first more one two (inr (front, last, rest, are, went)) told (inl none_more) =
    inr (front, last, rest ++ two, ap (λ x. first ++ x) none_more ∙ append-nil first ∙ are, ap (λ x. x ++ two) went ∙ append_assoc (a ++ bytes_told front) rest two)
behind_then a b first more one two was told (inr (front, last, rest, are, went)) =
    inr (
      first ++ front,
      last,
      rest,
      ap (λ x. first ++ x) are ∙ sym (append_assoc first front (last ∷ [])),
      ap (λ x. one ++ x) went ∙ sym (append_assoc one (b ++ bytes_told front) rest)
          ∙ ap (λ x. x ++ rest) (sym (append_assoc one b (bytes_told front)) ∙ ap (λ x. x ++ bytes_told front) (sym told) ∙ append_assoc a (bytes_told first) (bytes_told front) ∙ ap (λ x. a ++ x) (sym (flat_map-append (λ (call : LineCall). call.1) first front))),
    )

pub gone : (given given2 : Option (List ℕ)) (before after : LineConnection) (n : ℕ) → Leaves given given2 before after n → input_of after ≡ input_of before → received_of after ≡ received_of before → ended_of after ≡ ended_of before → side_of after ≡ side_of before → SendsBytes given given2 before after
gone given given2 before after n is input received ended side = record {
  ended = ended;
  went = take n (output_of before);
  writes = is.0;
  input = input;
  output = sym (take-append-drop n (output_of before)) ∙ ap (λ x. take n (output_of before) ++ x) (sym is.1);
  side = side;
  received = received;
  sent = is.2;
}

-- what came joins what came before, and what went joins what went before
grown : (a b c more later : List ℕ) → b ≡ a ++ more → c ≡ b ++ later → c ≡ a ++ (more ++ later)
grown a b c more later one two = two ∙ ap (λ x. x ++ later) one ∙ append_assoc a more later

-- nothing came, or nothing went
none_more : (before after : List ℕ) → after ≡ before → after ≡ before ++ []
none_more before after same = same ∙ sym (append-nil before)

module _ {S : Type 0} (store : Ghosts S) where
  chain_then : (side : Side) (first more : List LineCall) (old mid new : Served S) → Chain store side old first mid → Chain store side mid more new → Chain store side old (first ++ more) new
  chain_then side [] more old mid new is later = subst (λ (served : Served S). Chain store side served more new) is later
  chain_then side (call ∷ first) more old mid new is later = (is.0, is.1, chain_then side first more is.0 mid new is.2 later)

  pub stays : (ends : Ends) (before : LineConnection) (old : Served S) → TakesLines store ends ends before before (output_of before) old old
  stays ends before old = record {
    carry = no_bytes ends;
    came = [];
    calls = [];
    went = [];
    input = append-nil _;
    output = append-nil _;
    chain = refl;
    side = refl;
    received = none_more _ _ refl;
    sent = none_more _ _ refl;
    lines = tt;
    ended = λ is. (is, refl);
    behind = inl refl;
  }

  -- where nothing more comes nothing more is taken
  pub none_later : (e f : Ends) (b c : LineConnection) (waits : List ℕ) (mid new : Served S) (is : TakesLines store e f b c waits mid new) → IsOver b → (is.calls ≡ []) × IsOver c
  none_later e f b c waits mid new is over =
      let still = is.ended over.0 in
      let long : length (taken is.calls ++ input_of c) ≡ 0 = ap length (sym is.input) ∙ ap (λ x. length (input_of b ++ x)) still.1 ∙ ap length (append-nil (input_of b)) ∙ over.1 in
      let joined = length-append (taken is.calls) (input_of c) in
      (no_lines (IsOver c) is.calls is.lines (omega (arith, long, joined)), (still.0, omega (arith, long, joined)))

  then : (e f h : Ends) (a b c : LineConnection) (waits : List ℕ) (old mid new : Served S) → TakesLines store e f a b (output_of b) old mid → TakesLines store f h b c waits mid new → TakesLines store e h a c waits old new
  then e f h a b c waits old mid new first later = record {
    carry = carry_then e f h first.came later.came first.went later.went first.carry later.carry;
    came = first.came ++ later.came;
    calls = first.calls ++ later.calls;
    went = first.went ++ later.went;
    input = joins (input_of a) (input_of b) (input_of c) first.came later.came (taken first.calls) (taken later.calls) first.input later.input ∙ ap (λ x. x ++ input_of c) (sym (flat_map-append (λ (call : LineCall). call.0) first.calls later.calls));
    output = ap (λ x. output_of a ++ x) (flat_map-append (λ (call : LineCall). call.1) first.calls later.calls) ∙ joins (output_of a) (output_of b) waits (bytes_told first.calls) (bytes_told later.calls) first.went later.went first.output later.output;
    chain = chain_then (side_of a) first.calls later.calls old mid new first.chain (subst (λ (side : Side). Chain store side mid later.calls new) first.side later.chain);
    side = later.side ∙ first.side;
    received = grown (received_of a) (received_of b) (received_of c) first.came later.came first.received later.received;
    sent = grown (sent_of a) (sent_of b) (sent_of c) first.went later.went first.sent later.sent;
    lines = lines_then (IsOver b) (IsOver c) first.calls later.calls first.lines (λ over. (none_later f h b c waits mid new later over).0) (λ over. (none_later f h b c waits mid new later over).1) later.lines;
    ended = λ is. let at = first.ended is in let on = later.ended at.0 in (on.0, λ i. at.1 i ++ on.1 i);
    behind = behind_then (output_of a) (output_of b) first.calls later.calls first.went later.went first.behind first.output later.behind;
  }

  -- one line was taken, and this is to be told of it
  line_taken : (ends : Ends) (before after : LineConnection) (old : Served S) (text : List ℕ) (new : Served S) → output_of before ≡ [] → TakesLine store before after old text new → side_of after ≡ side_of before → IsQuiet before after → TakesLines store ends ends before after (output_of before ++ text) old new
  line_taken ends before after old text new empty is side quiet = record {
    carry = no_bytes ends;
    came = [];
    calls = (take (is.end + 1) (input_of before), text) ∷ [];
    went = [];
    input = append-nil (input_of before) ∙ sym (take-append-drop (is.end + 1) (input_of before)) ∙ ap (λ x. x ++ drop (is.end + 1) (input_of before)) (sym (append-nil (take (is.end + 1) (input_of before)))) ∙ ap (λ x. (take (is.end + 1) (input_of before) ++ []) ++ x) (sym is.rest);
    output = ap (λ x. output_of before ++ x) (append-nil text);
    chain = (new, is.gives, refl);
    side = side;
    received = none_more _ _ quiet.0;
    sent = none_more _ _ quiet.1;
    behind = behind_one (output_of before) _ empty;
    lines = inl (is_line (input_of before) is.end is.first is.plain, tt);
    ended = λ over. (quiet.2 ∙ over, refl);
  }

  -- nothing came, went or was taken
  unmoved : (ends : Ends) (before after : LineConnection) (old : Served S) → input_of after ≡ input_of before → side_of after ≡ side_of before → IsQuiet before after → TakesLines store ends ends before after (output_of before) old old
  unmoved ends before after old input side quiet = record {
    carry = no_bytes ends;
    came = [];
    calls = [];
    went = [];
    input = append-nil (input_of before) ∙ sym input;
    output = append-nil (output_of before);
    chain = refl;
    side = side;
    received = none_more _ _ quiet.0;
    sent = none_more _ _ quiet.1;
    lines = tt;
    ended = λ over. (quiet.2 ∙ over, refl);
    behind = inl refl;
  }

  -- ---- steps

  pub stood : (ends : Ends) (next : Option Next) (before : LineConnection) (old : Served S) → TakesStep store ends ends next before before old old
  stood ends next before old = (output_of before, stays ends before old, λ goes. refl)

  -- a step that loses nothing, and one more
  pub on : (e f h : Ends) (next : Option Next) (a b c : LineConnection) (old mid new : Served S) → TakesLines store e f a b (output_of b) old mid → TakesStep store f h next b c mid new → TakesStep store e h next a c old new
  on e f h next a b c old mid new first later = (later.0, then e f h a b c later.0 old mid new first later.1, later.2)

  -- what is kept where a step did not end the connection
  pub kept : (e f : Ends) (next : Option Next) (before after : LineConnection) (old new : Served S) → next ≢ Some Close → TakesStep store e f next before after old new → TakesLines store e f before after (output_of after) old new
  kept e f next before after old new goes is = subst (λ (waits : List ℕ). TakesLines store e f before after waits old new) (is.2 goes) is.1

  pub took : (ends : Ends) (next : Option Next) (before after : LineConnection) (old new : Served S) → output_of before ≡ [] → AnswersLine store before after old new → side_of after ≡ side_of before → IsQuiet before after → TakesStep store ends ends next before after old new
  took ends next before after old new empty is side quiet = (output_of before ++ is.0, line_taken ends before after old is.0 new empty is.1 side quiet, λ goes. sym is.2)

  pub lost : (ends : Ends) (next : Option Next) (before after : LineConnection) (old new : Served S) → output_of before ≡ [] → LosesAnswer store before after old new → side_of after ≡ side_of before → IsQuiet before after → next ≡ Some Close → TakesStep store ends ends next before after old new
  lost ends next before after old new empty is side quiet over =
      elim is [
        | inl left ↦ (output_of before, subst (λ (served : Served S). TakesLines store ends ends before after (output_of before) old served) (sym left.1) (unmoved ends before after old left.0 side quiet), λ goes. absurd (goes over))
        | inr line ↦ (output_of before ++ line.0, line_taken ends before after old line.0 new empty line.1 side quiet, λ goes. absurd (goes over))
      ]

  pub received : (left left2 given : Option (List ℕ)) (next : Option Next) (before after : LineConnection) (old : Served S) → ReceivesBytes left left2 before after → TakesStep store (left, given) (left2, given) next before after old old
  received left left2 given next before after old is = (
    output_of before,
    record {
      came = is.came;
      calls = [];
      went = [];
      carry = (is.reads, Appends-nil given);
      input = sym is.input;
      output = append-nil (output_of before);
      chain = refl;
      side = is.side;
      received = is.received;
      sent = none_more _ _ is.sent;
      lines = tt;
      ended = λ over. absurd (true≢false (sym over ∙ is.goes_on));
      behind = inl refl;
    },
    λ goes. sym is.output,
  )

  pub sent : (left given given2 : Option (List ℕ)) (next : Option Next) (before after : LineConnection) (old : Served S) → SendsBytes given given2 before after → TakesStep store (left, given) (left, given2) next before after old old
  sent left given given2 next before after old is = (
    output_of after,
    record {
      came = [];
      calls = [];
      went = is.went;
      carry = (Consumes-nil left, is.writes);
      input = append-nil (input_of before) ∙ sym is.input;
      output = append-nil (output_of before) ∙ is.output;
      chain = refl;
      side = is.side;
      received = none_more _ _ is.received;
      sent = is.sent;
      lines = tt;
      ended = λ over. (is.ended ∙ over, refl);
      behind = inl refl;
    },
    λ goes. refl,
  )

  refused : (ends : Ends) (next : Option Next) (before after : LineConnection) (old : Served S) → output_of before ≡ [] → RefusesRest next before after → TakesStep store ends ends next before after old old
  refused ends next before after old empty is = (
    output_of before ++ codes "bad-line\n",
    record {
      came = [];
      calls = (input_of before, codes "bad-line\n") ∷ [];
      went = [];
      carry = no_bytes ends;
      input = append-nil (input_of before) ∙ sym (append-nil (input_of before)) ∙ sym (append-nil (input_of before ++ [])) ∙ ap (λ x. (input_of before ++ []) ++ x) (sym is.input);
      output = ap (λ x. output_of before ++ x) (append-nil (codes "bad-line\n"));
      chain = (old, inr (inr (inr (inl refl, refl))), refl);
      side = is.side;
      received = none_more _ _ is.received;
      sent = none_more _ _ is.sent;
      lines = inr ((is.some, no_line (input_of before) is.none, refl), refl, (is.ended, ap length is.input));
      ended = λ over. (is.ended, refl);
      behind = behind_one (output_of before) _ empty;
    },
    λ goes. sym (is.output goes),
  )

  -- nothing more comes
  closed : (ends : Ends) (next : Option Next) (before : LineConnection) (old : Served S) → TakesStep store ends ends next before (record before { has_ended = true }) old old
  closed ends next before old = (
    output_of before,
    record {
      carry = no_bytes ends;
      came = [];
      calls = [];
      went = [];
      input = append-nil _;
      output = append-nil _;
      chain = refl;
      side = refl;
      received = none_more _ _ refl;
      sent = none_more _ _ refl;
      lines = tt;
      ended = λ is. (refl, refl);
      behind = inl refl;
    },
    λ goes. refl,
  )

  same : (ends : Ends) (next : Option Next) (before after : LineConnection) (old : Served S) → after ≡ record before { has_ended = true } → TakesStep store ends ends next before after old old
  same ends next before after old is = subst (λ (x : LineConnection). TakesStep store ends ends next before x old old) (sym is) (closed ends next before old)

  -- no line is whole: all is as it was
  waited : (ends : Ends) (before after : LineConnection) (old new : Served S) → IsWaiting before after old new → TakesLines store ends ends before after (output_of after) old new
  waited ends before after old new is = rw (is.served, is.connection) (stays ends before old)

  pub waits : (ends : Ends) (next : Option Next) (before after : LineConnection) (old new : Served S) → IsWaiting before after old new → TakesStep store ends ends next before after old new
  waits ends next before after old new is = (output_of after, waited ends before after old new is, λ goes. refl)

  -- the first line is no text: all is as it was
  pub no_text_then : (e f : Ends) (next : Option Next) (a b c : LineConnection) (old mid new : Served S) → IsNoText a b old mid → TakesStep store e f next b c mid new → TakesStep store e f next a c old new
  no_text_then e f next a b c old mid new is later = on e e f next a b c old mid new (rw (is.served, is.connection) (stays e a old)) later

  pub put_off : (ends : Ends) (next : Option Next) (before after : LineConnection) (old new : Served S) → IsPutOff before after old new → TakesStep store ends ends next before after old new
  put_off ends next before after old new is = (output_of after, rw (is.served, is.connection) (stays ends before old), λ goes. refl)

  pub waited_then : (e f : Ends) (next : Option Next) (a b c : LineConnection) (old mid new : Served S) → IsWaiting a b old mid → TakesStep store e f next b c mid new → TakesStep store e f next a c old new
  waited_then e f next a b c old mid new is later = on e e f next a b c old mid new (waited e a b old mid is) later

  pub ended : (ends : Ends) (next : Option Next) (before after : LineConnection) (old : Served S) → output_of before ≡ [] → IsEnded next before after → TakesStep store ends ends next before after old old
  ended ends next before after old empty is =
      elim is [
        | inl kept ↦ same ends next before after old kept
        | inr refuses ↦ refused ends next before after old empty refuses
      ]
