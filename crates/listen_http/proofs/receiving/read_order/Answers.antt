use Rattle.std.proofs.Common.{rules, ◌≡◌, ◌∙◌, ◌++◌, ℕ, List, length, refl, sym, ap, subst}
use Rattle.httparse.specs.Spans.{IsRequestAt}
use Rattle.listen_http.specs.Heads.{has_many_fields, is_invalid}
use Rattle.listen_http.specs.Http.{has_long_head, has_no_head, has_refused_head, is_nothing}
use Rattle.listen_http.proofs.Openings.{is_cut_at, opens_with}
use Rattle.listen_http.proofs.receiving.read_order.Goals as goal

pub returns-in-Ok-clause-is : goal.returns-in-Ok-clause-is
returns-in-Ok-clause-is g c =
    let text = c.read_head.new.text.items in
    let headers = c.read_head.new.headers in
    let spans = c.in-Whole.spans in
    let found = rw c.in-Whole.is at c.in_ok-spans.ensures.is in
    let head = found.0.0 in
    let room : length headers ≡ 64 = search rules in
    let at = subst (λ (t : List ℕ). IsRequestAt t headers spans head) (sym c.as_slice.ensures.value) found.0.1 in (
      record {
        taken = text;
        yields = c.in_ok-spans.ensures.took;
        orders = λ rest. record {
          head = head;
          opens = opens_with text headers spans head rest found.0.1 room found.2 c.read_head.ensures.short;
          judged = sym (c.judge_spans.ensures.value head at) ∙ c.in-Ok.is;
        };
      },
      c.in-Ok.ensures.fits,
    )

pub returns-in-Whole-clause-is : goal.returns-in-Whole-clause-is
returns-in-Whole-clause-is g c =
    let text = c.read_head.new.text.items in
    let headers = c.read_head.new.headers in
    let spans = c.in-Whole.spans in
    let found = rw c.in-Whole.is at c.in_ok-spans.ensures.is in
    let head = found.0.0 in
    let room : length headers ≡ 64 = search rules in
    let at = subst (λ (t : List ℕ). IsRequestAt t headers spans head) (sym c.as_slice.ensures.value) found.0.1 in (
      text,
      c.in_ok-spans.ensures.took,
      λ rest left. has_refused_head head rest c.in-Err.refusal (opens_with text headers spans head rest found.0.1 room found.2 c.read_head.ensures.short) (sym (c.judge_spans.ensures.value head at) ∙ c.in-Err.is),
    )

pub returns-in-Absent-clause-is : goal.returns-in-Absent-clause-is
returns-in-Absent-clause-is g c =
    let found = rw c.in-Absent.is at c.in_ok-spans.ensures.is in
    (c.read_head.new.text.items, c.in_ok-spans.ensures.took, λ rest left. is_nothing (ap (λ t. t ++ rest) found.0 ∙ found.1 rest left))

pub returns-in-Cut-clause-is : goal.returns-in-Cut-clause-is
returns-in-Cut-clause-is g c =
    let found = rw c.in-Cut.is at c.in_ok-spans.ensures.is in
    let text = c.read_head.new.text.items in
    (text, c.in_ok-spans.ensures.took, λ rest left. has_no_head (is_cut_at text rest (found.2 rest left) found.0 found.1 found.3))

pub returns-in-Invalid-clause-is : goal.returns-in-Invalid-clause-is
returns-in-Invalid-clause-is g c =
    let found = rw c.in-Invalid.is at c.in_ok-spans.ensures.is in
    let text = c.read_head.new.text.items in
    (text, c.in_ok-spans.ensures.took, λ rest left. has_no_head (is_invalid text rest refl c.read_head.ensures.short found))

pub returns-in-TooMany-clause-is : goal.returns-in-TooMany-clause-is
returns-in-TooMany-clause-is g c =
    let found = rw c.in-TooMany.is at c.in_ok-spans.ensures.is in
    let text = c.read_head.new.text.items in
    (text, c.in_ok-spans.ensures.took, λ rest left. has_no_head (has_many_fields text rest refl c.read_head.ensures.short found.0 found.1))

pub returns-clause-is : goal.returns-clause-is
returns-clause-is g c =
    let found = rw c.in-TooLong.is at c.in_ok-spans.ensures.is in
    let text = c.read_head.new.text.items in
    (text, c.in_ok-spans.ensures.took, λ rest left. has_long_head (text, rest, refl, found.0, found.1, found.2))
