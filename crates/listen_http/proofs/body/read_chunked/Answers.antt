use Rattle.std.proofs.Common.{length, arith}
use Rattle.listen_http.specs.Bodies.{HasBehindChunks, IsNoBody, has_no_chunk}
use Rattle.listen_http.specs.Chunks.{IsNoChunk}
use Rattle.listen_http.specs.declared.framing.Framing.TheVariants.{Chunked}
use Rattle.listen_http.proofs.ChunkSteps.{body_taken, takes_so, trailers_missing}
use Rattle.listen_http.proofs.Taking.{takes_both}
use Rattle.listen_http.proofs.body.read_chunked.Goals as goal

pub returns-in-Invalid-clause-is : goal.returns-in-Invalid-clause-is
returns-in-Invalid-clause-is g c =
    let left = g.R.Source.left in
    takes_so (left c.args.reader.now) (left c.read_chunks.new.reader) (λ b rest. HasBehindChunks b (λ bytes behind. IsNoChunk (length bytes) behind)) (λ b rest. IsNoBody b Chunked) (λ b rest h. has_no_chunk h)
    (rw c.in-Invalid.is at c.in_ok-read_chunks.ensures.is)

pub returns-then-not-branch-clause-is : goal.returns-then-not-branch-clause-is
returns-then-not-branch-clause-is g c =
    let left = g.R.Source.left in
    let ended = rw c.in-Whole.is at c.in_ok-read_chunks.ensures.is in
    let none = rw c.if-not-branch.true at c.in_ok-read_trailers.ensures.is in
    trailers_missing (left c.args.reader.now) (left c.read_chunks.new.reader) (left c.read_trailers.new.reader) c.read_chunks.new.body.items ended none

pub returns-clause-is : goal.returns-clause-is
returns-clause-is g c =
    let left = g.R.Source.left in
    let ended = rw c.in-Whole.is at c.in_ok-read_chunks.ensures.is in
    let section = rw c.if-not-branch.false at c.in_ok-read_trailers.ensures.is in
    body_taken (left c.args.reader.now) (left c.read_chunks.new.reader) (left c.read_trailers.new.reader) c.read_chunks.new.body.items section.0 ended section.1 section.2

pub returns-in_err-read_trailers-clause-bounded : goal.returns-in_err-read_trailers-clause-bounded
returns-in_err-read_trailers-clause-bounded g c = takes_both c.read_chunks.ensures.bounded c.read_trailers.ensures.bounded (omega arith)

pub returns-then-not-branch-clause-bounded : goal.returns-then-not-branch-clause-bounded
returns-then-not-branch-clause-bounded g c = takes_both c.read_chunks.ensures.bounded c.read_trailers.ensures.bounded (omega arith)

pub returns-clause-bounded : goal.returns-clause-bounded
returns-clause-bounded g c = takes_both c.read_chunks.ensures.bounded c.read_trailers.ensures.bounded (omega arith)
