use Rattle.std.proofs.Common.{◌≡◌, ◌<◌, ◌≤◌, ◌++◌, ◌∙◌, ap, append_assoc, length, length-append, length-take, take, drop, arith, rules}
use Rattle.std.proofs.lemmas.List.{take-append-le}
use Rattle.listen_http.proofs.Streams.{Yields_more}
use Rattle.listen_http.proofs.Taking.{takes_more, takes_text}
use Rattle.listen_http.proofs.body.read_into.Goals as goal

pub pieces-preserved : goal.pieces-preserved
pieces-preserved g c =
    let left = g.R.Source.left in
    let so_far = c.pieces.invariant in
    let read = c.in-Ok.read in
    let piece = take read c.read.new.buffer in
    let within : read ≤ c.pieces.left = omega (arith, c.in-Ok.ensures.bound, length-take c.min-want.result c.pieces.piece, c.min-want.ensures) in
    let size : length piece ≡ read = omega (arith, length-take read c.read.new.buffer, c.in-Ok.ensures.bound, c.read.auto.buffer) in
    let known : read ≤ length c.read.new.buffer = omega (arith, c.in-Ok.ensures.bound, c.read.auto.buffer) in
    let added : c.extend_from_slice.new.self.items ≡ c.pieces.body.items ++ piece =
    c.in_ok-extend_from_slice-in-Ok.ensures.items ∙ ap (λ s. c.pieces.body.items ++ s) (take-append-le read c.read.new.buffer (drop c.min-want.result c.pieces.piece) known) in (
      search rules,
      so_far.1 ++ piece,
      omega (arith, so_far.2, size, within, length-append so_far.1 piece),
      added ∙ ap (λ s. s ++ piece) so_far.3 ∙ append_assoc c.args.body.now.items so_far.1 piece,
      Yields_more (left c.args.reader.now) (left c.pieces.reader) (left c.read.new.self) so_far.1 piece so_far.4 c.in-Ok.ensures.bytes,
      search rules,
    )

pub returns-in-Ok-eq0-clause-is : goal.returns-in-Ok-eq0-clause-is
returns-in-Ok-eq0-clause-is g c =
    let so_far = c.pieces.invariant in
    let nothing = rw c.in-Ok-eq0.field-0-test at c.in-Ok-eq0.ensures.bytes in
    let room : 0 < length (take c.min-want.result c.pieces.piece) = omega (arith, length-take c.min-want.result c.pieces.piece, c.min-want.ensures, so_far.0, c.requires.piece, c.pieces-test.true) in
    (so_far.1, omega (arith, so_far.2, c.pieces-test.true), so_far.3, (λ rest h. so_far.4 rest (nothing rest h)), c.in-Ok-eq0.ensures.end c.in-Ok-eq0.field-0-test room)

pub returns-in-Ok-eq0-clause-bounded : goal.returns-in-Ok-eq0-clause-bounded
returns-in-Ok-eq0-clause-bounded g c =
    let left = g.R.Source.left in
    let so_far = c.pieces.invariant in
    let nothing = rw c.in-Ok-eq0.field-0-test at c.in-Ok-eq0.ensures.bytes in
    takes_text (left c.args.reader.now) (left c.read.new.self) so_far.1 c.args.count (λ rest h. so_far.4 rest (nothing rest h)) (omega (arith, so_far.2))

pub returns-in-Err-clause-bounded : goal.returns-in-Err-clause-bounded
returns-in-Err-clause-bounded g c =
    let left = g.R.Source.left in
    let so_far = c.pieces.invariant in
    takes_text (left c.args.reader.now) (left c.read.new.self) so_far.1 c.args.count (λ rest h. so_far.4 rest (c.in-Err.ensures.failed rest h)) (omega (arith, so_far.2))

-- the piece that no memory was left for was taken as well
pub returns-in_err-extend_from_slice-in-Ok-clause-bounded :
    goal.returns-in_err-extend_from_slice-in-Ok-clause-bounded
returns-in_err-extend_from_slice-in-Ok-clause-bounded g c =
    let left = g.R.Source.left in
    let so_far = c.pieces.invariant in
    let piece = take c.in-Ok.read c.read.new.buffer in
    let within : c.in-Ok.read ≤ c.pieces.left = omega (arith, c.in-Ok.ensures.bound, length-take c.min-want.result c.pieces.piece, c.min-want.ensures) in
    let short : length piece ≤ c.pieces.left = omega (arith, within, length-take c.in-Ok.read c.read.new.buffer) in
    takes_more (left c.args.reader.now) (left c.pieces.reader) (left c.read.new.self) so_far.1 c.pieces.left c.args.count so_far.4 (takes_text (left c.pieces.reader) (left c.read.new.self) piece c.pieces.left c.in-Ok.ensures.bytes short) (omega (arith, so_far.2))

pub returns-clause-is : goal.returns-clause-is
returns-clause-is g c =
    let so_far = c.pieces.invariant in
    (so_far.1, omega (arith, so_far.2, c.pieces-test.false), so_far.3, so_far.4)

pub returns-clause-bounded : goal.returns-clause-bounded
returns-clause-bounded g c =
    let left = g.R.Source.left in
    let so_far = c.pieces.invariant in
    takes_text (left c.args.reader.now) (left c.pieces.reader) so_far.1 c.args.count so_far.4 (omega (arith, so_far.2))
