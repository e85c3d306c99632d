use Rattle.std.proofs.Common.{◌+◌, ◌≡◌, ℕ, ◌≤◌, ◌++◌, ◌∙◌, [], ◌∷◌, length, rules, sym, Ok, subst}
use Rattle.httparse.specs.Outcome.{IfComplete}
use Rattle.httparse.specs.Spans.{IsSectionOf, IsSectionWithin}
use Rattle.httparse.specs.declared.Error.{Error}
use Rattle.httparse.specs.declared.Status.{Status}
use Rattle.input_fields.specs.Streams.{Yields}
use Rattle.listen_http.proofs.Sections.{no_section_in_nothing, no_section_with_byte, trailers_cut, trailers_found, trailers_refused, trailers_too_long}
use Rattle.listen_http.proofs.Streams.{Yields_more}
use Rattle.listen_http.proofs.Taking.{takes_more, takes_text}
use Rattle.listen_http.proofs.trailers.read_trailers.Goals as goal

pub bytes-init : goal.bytes-init
bytes-init g c = record {
  fits = search rules;
  room = search rules;
  none = rw c.new-text.ensures no_section_in_nothing;
  took = rw c.new-text.ensures (λ rest h. h);
  count = search rules;
}

pub bytes-preserved : goal.bytes-preserved
bytes-preserved g c =
    let left = g.R.Source.left in
    let before = c.bytes.text.items in
    let byte = c.in-Some.byte in
    record {
      fits = search rules;
      room = search rules;
      none = rw c.push.ensures.items (no_section_with_byte before byte c.if-byte-eq10.false c.bytes.invariant.none);
      took = rw c.push.ensures.items (Yields_more (left c.args.reader.now) (left c.bytes.reader) (left c.read_byte.new.reader) before (byte ∷ []) c.bytes.invariant.took (rw c.in-Some.is at c.in_ok-byte.ensures.took));
      count = search rules;
    }

pub returns-in_default-clause-is : goal.returns-in_default-clause-is
returns-in_default-clause-is g c =
    let before = c.bytes.text.items in
    let nothing = rw c.in_default.is at c.in_ok-byte.ensures.took in
    let end = rw c.in_default.is at c.in_ok-byte.ensures.end in
    (before, (λ rest h. c.bytes.invariant.took rest (nothing rest h)), λ rest h. trailers_cut before rest (end rest h) c.bytes.invariant.none)

pub returns-in-Ok-Complete-clause-is : goal.returns-in-Ok-Complete-clause-is
returns-in-Ok-Complete-clause-is g c =
    let left = g.R.Source.left in
    let before = c.bytes.text.items in
    let byte = c.in-Some.byte in
    let text = c.as_slice.result.now in
    let headers = c.parse_headers.new.headers in
    let IsFound : Status (ℕ × ℕ) → Type 0 = λ s. IfComplete {A = ℕ × ℕ} {E = Error} (Ok s) (IsSectionOf text 0 headers) in
    let IsInside : Status (ℕ × ℕ) → Type 0 = λ s. IfComplete {A = ℕ × ℕ} {E = Error} (Ok s) (λ found. IsSectionWithin text headers found.0 found.1) in
    let found = subst IsFound c.in-Ok-Complete.field-0-is c.in-Ok-Complete.ensures.complete in
    let inside = subst IsInside c.in-Ok-Complete.field-0-is c.in-Ok-Complete.ensures.within in
    let is : text ≡ before ++ byte ∷ [] = c.as_slice.ensures.value ∙ c.push.ensures.items in
    let section = trailers_found before text byte headers _ is (search rules) (search rules) c.bytes.invariant.none found inside in
    let took = Yields_more (left c.args.reader.now) (left c.bytes.reader) (left c.read_byte.new.reader) before (byte ∷ []) c.bytes.invariant.took (rw c.in-Some.is at c.in_ok-byte.ensures.took) in
    (section.0, section.1, subst (Yields (left c.args.reader.now) (left c.read_byte.new.reader)) (sym is ∙ section.2) took)

pub returns-in-Err-clause-is : goal.returns-in-Err-clause-is
returns-in-Err-clause-is g c =
    let left = g.R.Source.left in
    let before = c.bytes.text.items in
    let byte = c.in-Some.byte in
    let text = c.as_slice.result.now in
    let is : text ≡ before ++ byte ∷ [] = c.as_slice.ensures.value ∙ c.push.ensures.items in
    let took = Yields_more (left c.args.reader.now) (left c.bytes.reader) (left c.read_byte.new.reader) before (byte ∷ []) c.bytes.invariant.took (rw c.in-Some.is at c.in_ok-byte.ensures.took) in
    (text, subst (Yields (left c.args.reader.now) (left c.read_byte.new.reader)) (sym is) took, λ rest h. trailers_refused text _ (search rules) c.in-Err.ensures.no_room rest)

pub returns-clause-is : goal.returns-clause-is
returns-clause-is g c =
    let long : 4096 ≤ length c.bytes.text.items = search rules in
    (c.bytes.text.items, c.bytes.invariant.took, λ rest h. trailers_too_long c.bytes.text.items long c.bytes.invariant.none rest)

pub returns-in_err-byte-clause-bounded : goal.returns-in_err-byte-clause-bounded
returns-in_err-byte-clause-bounded g c =
    let left = g.R.Source.left in
    let before = c.bytes.text.items in
    let short : length before + 1 ≤ 4096 = search rules in
    takes_more (left c.args.reader.now) (left c.bytes.reader) (left c.read_byte.new.reader) before 1 4096 c.bytes.invariant.took c.read_byte.ensures.bounded short

pub returns-in_default-clause-bounded : goal.returns-in_default-clause-bounded
returns-in_default-clause-bounded g c =
    let left = g.R.Source.left in
    let before = c.bytes.text.items in
    let short : length before + 1 ≤ 4096 = search rules in
    takes_more (left c.args.reader.now) (left c.bytes.reader) (left c.read_byte.new.reader) before 1 4096 c.bytes.invariant.took c.read_byte.ensures.bounded short

pub returns-in-Ok-Complete-clause-bounded : goal.returns-in-Ok-Complete-clause-bounded
returns-in-Ok-Complete-clause-bounded g c =
    let left = g.R.Source.left in
    let before = c.bytes.text.items in
    let short : length before + 1 ≤ 4096 = search rules in
    takes_more (left c.args.reader.now) (left c.bytes.reader) (left c.read_byte.new.reader) before 1 4096 c.bytes.invariant.took c.read_byte.ensures.bounded short

pub returns-in-Err-clause-bounded : goal.returns-in-Err-clause-bounded
returns-in-Err-clause-bounded g c =
    let left = g.R.Source.left in
    let before = c.bytes.text.items in
    let short : length before + 1 ≤ 4096 = search rules in
    takes_more (left c.args.reader.now) (left c.bytes.reader) (left c.read_byte.new.reader) before 1 4096 c.bytes.invariant.took c.read_byte.ensures.bounded short

pub returns-clause-bounded : goal.returns-clause-bounded
returns-clause-bounded g c =
    let left = g.R.Source.left in
    takes_text (left c.args.reader.now) (left c.bytes.reader) c.bytes.text.items 4096 c.bytes.invariant.took c.bytes.invariant.fits

pub bytes-preserved-in-Ok-Partial : goal.bytes-preserved-in-Ok-Partial
bytes-preserved-in-Ok-Partial g c =
    let left = g.R.Source.left in
    let before = c.bytes.text.items in
    let byte = c.in-Some.byte in
    record {
      fits = search rules;
      room = search rules;
      none = search rules;
      took = rw c.push.ensures.items (Yields_more (left c.args.reader.now) (left c.bytes.reader) (left c.read_byte.new.reader) before (byte ∷ []) c.bytes.invariant.took (rw c.in-Some.is at c.in_ok-byte.ensures.took));
      count = search rules;
    }
