use Rattle.std.proofs.Common.{◌≡◌, ℕ, ◌+◌, ◌≤◌, ◌++◌, ◌∙◌, [], ◌∷◌, length, rules, sym, Ok, subst}
use Rattle.httparse.specs.Grammar.{ChunkLine}
use Rattle.httparse.specs.Outcome.{IfComplete}
use Rattle.httparse.specs.Spans.{IsChunkLineAt}
use Rattle.httparse.specs.declared.InvalidChunkSize.{InvalidChunkSize}
use Rattle.httparse.specs.declared.Status.{Status}
use Rattle.input_fields.specs.Streams.{Yields}
use Rattle.listen_http.proofs.Lines.{line_cut, line_refused, line_too_long, no_line_in_nothing, no_line_with_byte, size_line_found}
use Rattle.listen_http.proofs.Streams.{Yields_more}
use Rattle.listen_http.proofs.Taking.{takes_more, takes_text}
use Rattle.listen_http.proofs.chunks.read_size_line.Goals as goal

pub bytes-init : goal.bytes-init
bytes-init g c = record {
  fits = search rules;
  none = rw c.new-line.ensures no_line_in_nothing;
  took = rw c.new-line.ensures (λ rest h. h);
  count = search rules;
}

pub bytes-preserved : goal.bytes-preserved
bytes-preserved g c =
    let left = g.R.Source.left in
    let before = c.bytes.line.items in
    let byte = c.in-Some.byte in
    record {
      fits = search rules;
      none = rw c.push.ensures.items (no_line_with_byte before byte c.if-byte-eq10.false c.bytes.invariant.none);
      took = rw c.push.ensures.items (Yields_more (left c.args.reader.now) (left c.bytes.reader) (left c.read_byte.new.reader) before (byte ∷ []) c.bytes.invariant.took (rw c.in-Some.is at c.in_ok-byte.ensures.took));
      count = search rules;
    }

pub returns-in_default-clause-is : goal.returns-in_default-clause-is
returns-in_default-clause-is g c =
    let left = g.R.Source.left in
    let before = c.bytes.line.items in
    let nothing = rw c.in_default.is at c.in_ok-byte.ensures.took in
    let end = rw c.in_default.is at c.in_ok-byte.ensures.end in
    (before, (λ rest h. c.bytes.invariant.took rest (nothing rest h)), λ rest h. line_cut before rest (end rest h) c.bytes.invariant.none)

pub returns-in-Ok-Complete-clause-is : goal.returns-in-Ok-Complete-clause-is
returns-in-Ok-Complete-clause-is g c =
    let left = g.R.Source.left in
    let before = c.bytes.line.items in
    let byte = c.in-Some.byte in
    let text = c.as_slice.result.now in
    let IsFound : Status (ℕ × ℕ) → Type 0 = λ s. IfComplete {A = ℕ × ℕ} {E = InvalidChunkSize} (Ok s) (λ found. (line : ChunkLine) × IsChunkLineAt text found.0 found.1 line) in
    let found = subst IsFound c.in-Ok-Complete.field-0-is c.in-Ok-Complete.ensures.complete in
    let is : text ≡ before ++ byte ∷ [] = c.as_slice.ensures.value ∙ c.push.ensures.items in
    let line = size_line_found before text byte _ _ is (search rules) c.bytes.invariant.none found in
    let took = Yields_more (left c.args.reader.now) (left c.bytes.reader) (left c.read_byte.new.reader) before (byte ∷ []) c.bytes.invariant.took (rw c.in-Some.is at c.in_ok-byte.ensures.took) in
    (line.0, line.1, subst (Yields (left c.args.reader.now) (left c.read_byte.new.reader)) (sym is ∙ line.2) took, line.3)

pub returns-in-Err-clause-is : goal.returns-in-Err-clause-is
returns-in-Err-clause-is g c =
    let left = g.R.Source.left in
    let before = c.bytes.line.items in
    let byte = c.in-Some.byte in
    let text = c.as_slice.result.now in
    let is : text ≡ before ++ byte ∷ [] = c.as_slice.ensures.value ∙ c.push.ensures.items in
    let took = Yields_more (left c.args.reader.now) (left c.bytes.reader) (left c.read_byte.new.reader) before (byte ∷ []) c.bytes.invariant.took (rw c.in-Some.is at c.in_ok-byte.ensures.took) in
    (text, subst (Yields (left c.args.reader.now) (left c.read_byte.new.reader)) (sym is) took, λ rest h. line_refused text c.in-Err.ensures.invalid rest)

pub returns-clause-is : goal.returns-clause-is
returns-clause-is g c =
    let long : 256 ≤ length c.bytes.line.items = search rules in
    (c.bytes.line.items, c.bytes.invariant.took, λ rest h. line_too_long c.bytes.line.items long c.bytes.invariant.none rest)

pub returns-in_err-byte-clause-bounded : goal.returns-in_err-byte-clause-bounded
returns-in_err-byte-clause-bounded g c =
    let left = g.R.Source.left in
    let before = c.bytes.line.items in
    let short : length before + 1 ≤ 256 = search rules in
    takes_more (left c.args.reader.now) (left c.bytes.reader) (left c.read_byte.new.reader) before 1 256 c.bytes.invariant.took c.read_byte.ensures.bounded short

pub returns-in-Ok-Complete-clause-bounded : goal.returns-in-Ok-Complete-clause-bounded
returns-in-Ok-Complete-clause-bounded g c =
    let left = g.R.Source.left in
    let before = c.bytes.line.items in
    let short : length before + 1 ≤ 256 = search rules in
    takes_more (left c.args.reader.now) (left c.bytes.reader) (left c.read_byte.new.reader) before 1 256 c.bytes.invariant.took c.read_byte.ensures.bounded short

pub returns-in_default-clause-bounded : goal.returns-in_default-clause-bounded
returns-in_default-clause-bounded g c =
    let left = g.R.Source.left in
    let before = c.bytes.line.items in
    let short : length before + 1 ≤ 256 = search rules in
    takes_more (left c.args.reader.now) (left c.bytes.reader) (left c.read_byte.new.reader) before 1 256 c.bytes.invariant.took c.read_byte.ensures.bounded short

pub returns-in-Err-clause-bounded : goal.returns-in-Err-clause-bounded
returns-in-Err-clause-bounded g c =
    let left = g.R.Source.left in
    let before = c.bytes.line.items in
    let short : length before + 1 ≤ 256 = search rules in
    takes_more (left c.args.reader.now) (left c.bytes.reader) (left c.read_byte.new.reader) before 1 256 c.bytes.invariant.took c.read_byte.ensures.bounded short

pub returns-clause-bounded : goal.returns-clause-bounded
returns-clause-bounded g c =
    let left = g.R.Source.left in
    takes_text (left c.args.reader.now) (left c.bytes.reader) c.bytes.line.items 256 c.bytes.invariant.took c.bytes.invariant.fits

pub bytes-preserved-in-Ok-Partial : goal.bytes-preserved-in-Ok-Partial
bytes-preserved-in-Ok-Partial g c =
    let left = g.R.Source.left in
    let before = c.bytes.line.items in
    let byte = c.in-Some.byte in
    record {
      fits = search rules;
      none = search rules;
      took = rw c.push.ensures.items (Yields_more (left c.args.reader.now) (left c.bytes.reader) (left c.read_byte.new.reader) before (byte ∷ []) c.bytes.invariant.took (rw c.in-Some.is at c.in_ok-byte.ensures.took));
      count = search rules;
    }
