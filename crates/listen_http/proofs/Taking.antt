-- How many bytes several calls take.
use Rattle.std.proofs.Common.{◌≡◌, ℕ, ◌+◌, ◌*◌, ◌<◌, ◌≤◌, List, [], ◌∷◌, ◌++◌, length, ap, ◌∙◌, arith, length-append}
use Rattle.std.specs.List.{AllByRecursion, flat_map}
use Rattle.httparse.specs.Ascii.{crlf_bytes}
use Rattle.httparse.specs.Grammar.{print_chunk_line}
use Rattle.input_fields.specs.Streams.{Yields}
use Rattle.listen_http.specs.Chunks.{AreChunks, Chunk, IsChunk, print_chunk}
use Rattle.listen_http.specs.Exchange.{TakesAtMost, most_of_chunks}
use Rattle.listen_http.proofs.Streams.{Yields_more}

pub takes_text : (a b : List ℕ → Type 0) (text : List ℕ) (most : ℕ) → Yields a b text → length text ≤ most → TakesAtMost most a b
takes_text a b text most gave short = record { taken = text; yields = gave; short = short }

-- one call after another
pub takes_both : {a b c : List ℕ → Type 0} {few more most : ℕ} → TakesAtMost few a b → TakesAtMost more b c → few + more ≤ most → TakesAtMost most a c
takes_both {a} {b} {c} first second fits =
    record {
      taken = first.taken ++ second.taken;
      yields = Yields_more a b c first.taken second.taken first.yields second.yields;
      short = omega (arith, length-append first.taken second.taken, first.short, second.short, fits);
    }

-- a call after a text that was taken
pub takes_more : (a b c : List ℕ → Type 0) (text : List ℕ) (more most : ℕ) → Yields a b text → TakesAtMost more b c → length text + more ≤ most → TakesAtMost most a c
takes_more a b c text more most gave took fits = takes_both (takes_text a b text (length text) gave (omega arith)) took fits

-- each byte of a body has 258 others at most beside it, of its chunk
pub length-chunks : (chunks : List Chunk) (text body : List ℕ) → AreChunks chunks text body → length text ≤ 259 * length body
length-chunks chunks text body are =
    let texts : length text ≡ length (flat_map print_chunk chunks) = ap length are.spelled in
    let bodies : length body ≡ length (flat_map (λ chunk. chunk.bytes) chunks) = ap length are.together in
    let each = of_each chunks are.each in
    omega arith
  where
    of_each : (chunks : List Chunk) → AllByRecursion IsChunk chunks → length (flat_map print_chunk chunks) ≤ 259 * length (flat_map (λ chunk. chunk.bytes) chunks)
    of_each [] all = omega arith
    of_each (chunk ∷ chunks) all =
        let line = print_chunk_line chunk.line in
        let one : length (print_chunk chunk) ≡ (length line + length chunk.bytes) + 2 = length-append (line ++ chunk.bytes) crlf_bytes ∙ ap (λ n. n + 2) (length-append line chunk.bytes) in
        let short : length line ≤ 256 = all.0.line.short in
        let some : 0 < length chunk.bytes = all.0.some in
        let others = of_each chunks all.1 in
        omega (arith, length-append (print_chunk chunk) (flat_map print_chunk chunks), length-append chunk.bytes (flat_map (λ chunk. chunk.bytes) chunks))

-- a call after chunks that were taken
pub takes_behind_chunks : (a b c : List ℕ → Type 0) (chunks : List Chunk) (text body : List ℕ) (more : ℕ) → AreChunks chunks text body → Yields a b text → TakesAtMost more b c → 259 * length body + more ≤ most_of_chunks
    → TakesAtMost most_of_chunks a c
takes_behind_chunks a b c chunks text body more are gave took fits =
    let short : length text ≤ 259 * length body = length-chunks chunks text body are in
    takes_more a b c text more most_of_chunks gave took (omega (arith, short, fits))
