use Rattle.std.proofs.Common.{◌≡◌, ◌+◌, ◌*◌, ◌<◌, ◌≤◌, ◌++◌, ◌∙◌, [], ◌∷◌, length, refl, sym, rules, arith}
use Rattle.httparse.specs.Ascii.{crlf_bytes}
use Rattle.httparse.specs.Grammar.{chunk_size, print_chunk_line}
use Rattle.listen_http.specs.Chunks.{AreChunks, Chunk, IsNoChunk, IsTooLongWith, has_no_line}
use Rattle.listen_http.specs.Exchange.{most_of_chunks}
use Rattle.listen_http.proofs.ChunkSteps.{chunk_cut, chunk_not_ended, chunk_taken, chunk_too_long, longer_by, one_more, takes_behind}
use Rattle.listen_http.proofs.Streams.{Yields_more}
use Rattle.listen_http.proofs.Taking.{takes_behind_chunks, takes_both}
use Rattle.listen_http.proofs.chunks.read_chunks.Goals as goal

pub returns-in-Invalid-clause-is : goal.returns-in-Invalid-clause-is
returns-in-Invalid-clause-is g c =
    let left = g.R.Source.left in
    let so_far = c.chunks.invariant in
    let line = rw c.in-Invalid.is at c.in_ok-read_size_line.ensures.is in
    takes_behind (left c.args.reader.now) (left c.chunks.reader) (left c.read_size_line.new.reader) so_far.0 so_far.1 c.chunks.body.items (λ body behind. IsNoChunk (length body) behind) so_far.2 so_far.4 so_far.3
    (line.0, line.1, λ rest h. has_no_line (line.2 rest h))

pub returns-then-size-len-clause-is : goal.returns-then-size-len-clause-is
returns-then-size-len-clause-is g c =
    let left = g.R.Source.left in
    let so_far = c.chunks.invariant in
    let body = c.chunks.body.items in
    let line = rw c.in-Size.is at c.in_ok-read_size_line.ensures.is in
    let told : c.in-Size.size ≡ chunk_size line.0 = line.3 in
    let large : 16842752 < length body + c.in-Size.size = search rules in
    takes_behind (left c.args.reader.now) (left c.chunks.reader) (left c.read_size_line.new.reader) so_far.0 so_far.1 body (λ body behind. IsTooLongWith (length body) behind) so_far.2 so_far.4 so_far.3
    (chunk_too_long (left c.chunks.reader) (left c.read_size_line.new.reader) (length body) line.0 line.1 line.2 (omega (arith, told, large)))

pub returns-then-not-branch-clause-is : goal.returns-then-not-branch-clause-is
returns-then-not-branch-clause-is g c =
    let left = g.R.Source.left in
    let so_far = c.chunks.invariant in
    let line = rw c.in-Size.is at c.in_ok-read_size_line.ensures.is in
    let bulk = rw c.if-not-branch.true at c.in_ok-read_into-in-Size.ensures.is in
    let body = c.chunks.body.items in
    let told : c.in-Size.size ≡ chunk_size line.0 = line.3 in
    let fits : length body + c.in-Size.size ≤ 16842752 = search rules in
    takes_behind (left c.args.reader.now) (left c.chunks.reader) (left c.read_into.new.reader) so_far.0 so_far.1 c.chunks.body.items (λ body behind. IsNoChunk (length body) behind) so_far.2 so_far.4 so_far.3
    (chunk_cut (left c.chunks.reader) (left c.read_size_line.new.reader) (left c.read_into.new.reader) (length body) line.0 bulk.0 line.1 (omega (arith, told, fits)) line.2 bulk.3 bulk.4 (omega (arith, told, bulk.1)))

pub returns-then-not-branch-2-clause-is : goal.returns-then-not-branch-2-clause-is
returns-then-not-branch-2-clause-is g c =
    let left = g.R.Source.left in
    let so_far = c.chunks.invariant in
    let line = rw c.in-Size.is at c.in_ok-read_size_line.ensures.is in
    let bulk = rw c.if-not-branch.false at c.in_ok-read_into-in-Size.ensures.is in
    let end = rw c.if-not-branch-2.true at c.in_ok-read_line_end-in-Size.ensures.is in
    let told : c.in-Size.size ≡ chunk_size line.0 = line.3 in
    let some : 0 < chunk_size line.0 = omega (arith, c.in-Size.size-test.1, told) in
    let body = c.chunks.body.items in
    let fits : length body + c.in-Size.size ≤ 16842752 = search rules in
    takes_behind (left c.args.reader.now) (left c.chunks.reader) (left c.read_line_end.new.reader) so_far.0 so_far.1 c.chunks.body.items (λ body behind. IsNoChunk (length body) behind) so_far.2 so_far.4 so_far.3
    (chunk_not_ended (left c.chunks.reader) (left c.read_size_line.new.reader) (left c.read_into.new.reader) (left c.read_line_end.new.reader) (length body) line.0 bulk.0 line.1 some (omega (arith, told, fits)) (omega (arith, told, bulk.1)) line.2 bulk.3 end)

pub chunks-preserved : goal.chunks-preserved
chunks-preserved g c =
    let left = g.R.Source.left in
    let so_far = c.chunks.invariant in
    let body = c.chunks.body.items in
    let line = rw c.in-Size.is at c.in_ok-read_size_line.ensures.is in
    let bulk = rw c.if-not-branch.false at c.in_ok-read_into-in-Size.ensures.is in
    let end = rw c.if-not-branch-2.false at c.in_ok-read_line_end-in-Size.ensures.is in
    let chunk : Chunk = record { line = line.0; bytes = bulk.0 } in
    let text = print_chunk_line line.0 ++ bulk.0 ++ crlf_bytes in
    let told : c.in-Size.size ≡ chunk_size line.0 = line.3 in
    let size : length bulk.0 ≡ c.in-Size.size = bulk.1 in
    let sized : chunk_size line.0 ≡ length bulk.0 = omega (arith, told, size) in
    let some : 0 < length bulk.0 = omega (arith, c.in-Size.size-test.1, size) in
    let longer : length c.read_into.new.body.items ≡ length body + length bulk.0 = longer_by body c.read_into.new.body.items bulk.0 bulk.2 in
    let fits : length c.read_into.new.body.items ≤ 16842752 = search rules in
    let count : g.R.Source.failures c.read_line_end.new.reader ≡ g.R.Source.failures c.args.reader.now = search rules in
    let taken = chunk_taken (left c.chunks.reader) (left c.read_size_line.new.reader) (left c.read_into.new.reader) (left c.read_line_end.new.reader) line.0 bulk.0 line.2 bulk.3 end in (
      so_far.0 ++ chunk ∷ [],
      so_far.1 ++ text,
      rw bulk.2 (one_more so_far.0 so_far.1 body line.0 bulk.0 so_far.2 line.1 sized some),
      Yields_more (left c.args.reader.now) (left c.chunks.reader) (left c.read_line_end.new.reader) so_far.1 text so_far.3 taken,
      fits,
      count,
    )

pub returns-in_err-read_size_line-clause-bounded : goal.returns-in_err-read_size_line-clause-bounded
returns-in_err-read_size_line-clause-bounded g c =
    let left = g.R.Source.left in
    let so_far = c.chunks.invariant in
    let body = c.chunks.body.items in
    let fits : 259 * length body + 256 ≤ most_of_chunks = omega (arith, so_far.4) in
    takes_behind_chunks (left c.args.reader.now) (left c.chunks.reader) (left c.read_size_line.new.reader) so_far.0 so_far.1 body 256 so_far.2 so_far.3 c.read_size_line.ensures.bounded fits

pub returns-in-Size-eq0-clause-bounded : goal.returns-in-Size-eq0-clause-bounded
returns-in-Size-eq0-clause-bounded g c =
    let left = g.R.Source.left in
    let so_far = c.chunks.invariant in
    let body = c.chunks.body.items in
    let fits : 259 * length body + 256 ≤ most_of_chunks = omega (arith, so_far.4) in
    takes_behind_chunks (left c.args.reader.now) (left c.chunks.reader) (left c.read_size_line.new.reader) so_far.0 so_far.1 body 256 so_far.2 so_far.3 c.read_size_line.ensures.bounded fits

pub returns-then-size-len-clause-bounded : goal.returns-then-size-len-clause-bounded
returns-then-size-len-clause-bounded g c =
    let left = g.R.Source.left in
    let so_far = c.chunks.invariant in
    let body = c.chunks.body.items in
    let fits : 259 * length body + 256 ≤ most_of_chunks = omega (arith, so_far.4) in
    takes_behind_chunks (left c.args.reader.now) (left c.chunks.reader) (left c.read_size_line.new.reader) so_far.0 so_far.1 body 256 so_far.2 so_far.3 c.read_size_line.ensures.bounded fits

pub returns-in-Invalid-clause-bounded : goal.returns-in-Invalid-clause-bounded
returns-in-Invalid-clause-bounded g c =
    let left = g.R.Source.left in
    let so_far = c.chunks.invariant in
    let body = c.chunks.body.items in
    let fits : 259 * length body + 256 ≤ most_of_chunks = omega (arith, so_far.4) in
    takes_behind_chunks (left c.args.reader.now) (left c.chunks.reader) (left c.read_size_line.new.reader) so_far.0 so_far.1 body 256 so_far.2 so_far.3 c.read_size_line.ensures.bounded fits

pub returns-in_err-read_into-in-Size-clause-bounded : goal.returns-in_err-read_into-in-Size-clause-bounded
returns-in_err-read_into-in-Size-clause-bounded g c =
    let left = g.R.Source.left in
    let so_far = c.chunks.invariant in
    let body = c.chunks.body.items in
    let limit : length body + c.in-Size.size ≤ 16842752 = search rules in
    let fits : 259 * length body + (256 + c.in-Size.size) ≤ most_of_chunks = omega (arith, limit) in
    takes_behind_chunks (left c.args.reader.now) (left c.chunks.reader) (left c.read_into.new.reader) so_far.0 so_far.1 body (256 + c.in-Size.size) so_far.2 so_far.3 (takes_both c.read_size_line.ensures.bounded c.read_into.ensures.bounded (omega arith)) fits

pub returns-then-not-branch-clause-bounded : goal.returns-then-not-branch-clause-bounded
returns-then-not-branch-clause-bounded g c =
    let left = g.R.Source.left in
    let so_far = c.chunks.invariant in
    let body = c.chunks.body.items in
    let limit : length body + c.in-Size.size ≤ 16842752 = search rules in
    let fits : 259 * length body + (256 + c.in-Size.size) ≤ most_of_chunks = omega (arith, limit) in
    takes_behind_chunks (left c.args.reader.now) (left c.chunks.reader) (left c.read_into.new.reader) so_far.0 so_far.1 body (256 + c.in-Size.size) so_far.2 so_far.3 (takes_both c.read_size_line.ensures.bounded c.read_into.ensures.bounded (omega arith)) fits

pub returns-in_err-read_line_end-in-Size-clause-bounded : goal.returns-in_err-read_line_end-in-Size-clause-bounded
returns-in_err-read_line_end-in-Size-clause-bounded g c =
    let left = g.R.Source.left in
    let so_far = c.chunks.invariant in
    let body = c.chunks.body.items in
    let limit : length body + c.in-Size.size ≤ 16842752 = search rules in
    let some : 0 < c.in-Size.size = omega (arith, c.in-Size.size-test.1) in
    let fits : 259 * length body + (256 + c.in-Size.size + 2) ≤ most_of_chunks = omega (arith, limit, some) in
    takes_behind_chunks (left c.args.reader.now) (left c.chunks.reader) (left c.read_line_end.new.reader) so_far.0 so_far.1 body (256 + c.in-Size.size + 2) so_far.2 so_far.3 (takes_both (takes_both {most = 256 + c.in-Size.size} c.read_size_line.ensures.bounded c.read_into.ensures.bounded (omega arith)) c.read_line_end.ensures.bounded (omega arith)) fits

pub returns-then-not-branch-2-clause-bounded : goal.returns-then-not-branch-2-clause-bounded
returns-then-not-branch-2-clause-bounded g c =
    let left = g.R.Source.left in
    let so_far = c.chunks.invariant in
    let body = c.chunks.body.items in
    let limit : length body + c.in-Size.size ≤ 16842752 = search rules in
    let some : 0 < c.in-Size.size = omega (arith, c.in-Size.size-test.1) in
    let fits : 259 * length body + (256 + c.in-Size.size + 2) ≤ most_of_chunks = omega (arith, limit, some) in
    takes_behind_chunks (left c.args.reader.now) (left c.chunks.reader) (left c.read_line_end.new.reader) so_far.0 so_far.1 body (256 + c.in-Size.size + 2) so_far.2 so_far.3 (takes_both (takes_both {most = 256 + c.in-Size.size} c.read_size_line.ensures.bounded c.read_into.ensures.bounded (omega arith)) c.read_line_end.ensures.bounded (omega arith)) fits

pub chunks-init : goal.chunks-init
chunks-init g c =
    let are : AreChunks [] [] c.args.body.now.items = record { each = tt; spelled = refl; together = c.requires.empty } in
    ([], [], are, (λ rest h. h), rw c.requires.empty (omega arith), refl)

pub chunks-smaller : goal.chunks-smaller
chunks-smaller g c =
    let body = c.chunks.body.items in
    let bulk = rw c.if-not-branch.false at c.in_ok-read_into-in-Size.ensures.is in
    let limit : length body + c.in-Size.size ≤ 16842752 = search rules in
    omega (arith, longer_by body c.read_into.new.body.items bulk.0 bulk.2, bulk.1, c.in-Size.size-test.1, limit)

pub returns-in-Size-eq0-clause-is : goal.returns-in-Size-eq0-clause-is
returns-in-Size-eq0-clause-is g c =
    let left = g.R.Source.left in
    let so_far = c.chunks.invariant in
    let line = rw c.in-Size-eq0.is at c.in_ok-read_size_line.ensures.is in
    let last : chunk_size line.0 ≡ 0 = sym line.3 ∙ c.in-Size-eq0.field-0-test in
    (so_far.0, so_far.1, line.0, so_far.2, (line.1, last), so_far.4, Yields_more (left c.args.reader.now) (left c.chunks.reader) (left c.read_size_line.new.reader) so_far.1 (print_chunk_line line.0) so_far.3 line.2)

-- the body is never longer than it may be
pub returns-clause-is : goal.returns-clause-is
returns-clause-is g c = absurd (omega (arith, c.chunks-test.false, c.len.ensures, c.chunks.invariant.4))

pub returns-clause-bounded : goal.returns-clause-bounded
returns-clause-bounded g c = absurd (omega (arith, c.chunks-test.false, c.len.ensures, c.chunks.invariant.4))
