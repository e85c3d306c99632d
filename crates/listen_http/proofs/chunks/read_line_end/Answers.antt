use Rattle.std.proofs.Common.{◌≡◌, ℕ, List, [], ◌∷◌, get_or, drop, ap, arith}
use Rattle.listen_http.proofs.Streams.{Yields_more}
use Rattle.listen_http.proofs.Taking.{takes_both}
use Rattle.listen_http.specs.Exchange.{TakesAtMost}
use Rattle.listen_http.proofs.chunks.read_line_end.Goals as goal

one_of_two : {a b : List ℕ → Type 0} → TakesAtMost 1 a b → TakesAtMost 2 a b
one_of_two one = record { taken = one.taken; yields = one.yields; short = omega (arith, one.short) }

pub returns-then-first-ne13-clause-is : goal.returns-then-first-ne13-clause-is
returns-then-first-ne13-clause-is g c =
    (c.in-Some.first ∷ [], rw c.in-Some.is at c.in_ok-first.ensures.took, λ rest h after e. c.if-first-ne13.true (ap (λ (s : List ℕ). get_or s 0 0) e))

pub returns-in_default-2-clause-is : goal.returns-in_default-2-clause-is
returns-in_default-2-clause-is g c =
    let left = g.R.Source.left in
    let one = rw c.in-Some.is at c.in_ok-first.ensures.took in
    let two = rw c.in_default-2.is at c.in_ok-second.ensures.took in
    let end = rw c.in_default-2.is at c.in_ok-second.ensures.end in (
      c.in-Some.first ∷ [],
      Yields_more (left c.args.reader.now) (left c.read_byte.new.reader) (left c.read_byte-2.new.reader) (c.in-Some.first ∷ []) [] one two,
      λ rest h after e.
          let none : rest ≡ [] = end rest h in
          let some : rest ≡ 10 ∷ after = ap (λ (s : List ℕ). drop 1 s) e in
          cc,
    )

pub returns-then-second-ne10-clause-is : goal.returns-then-second-ne10-clause-is
returns-then-second-ne10-clause-is g c =
    let left = g.R.Source.left in
    let one = rw c.in-Some.is at c.in_ok-first.ensures.took in
    let two = rw c.in-Some-2.is at c.in_ok-second.ensures.took in (
      c.in-Some.first ∷ c.in-Some-2.second ∷ [],
      Yields_more (left c.args.reader.now) (left c.read_byte.new.reader) (left c.read_byte-2.new.reader) (c.in-Some.first ∷ []) (c.in-Some-2.second ∷ []) one two,
      λ rest h after e. c.if-second-ne10.true (ap (λ (s : List ℕ). get_or s 1 0) e),
    )

pub returns-in_err-second-clause-bounded : goal.returns-in_err-second-clause-bounded
returns-in_err-second-clause-bounded g c = takes_both c.read_byte.ensures.bounded c.read_byte-2.ensures.bounded (omega arith)

pub returns-then-second-ne10-clause-bounded : goal.returns-then-second-ne10-clause-bounded
returns-then-second-ne10-clause-bounded g c = takes_both c.read_byte.ensures.bounded c.read_byte-2.ensures.bounded (omega arith)

pub returns-clause-bounded : goal.returns-clause-bounded
returns-clause-bounded g c = takes_both c.read_byte.ensures.bounded c.read_byte-2.ensures.bounded (omega arith)

pub returns-in_err-first-clause-bounded : goal.returns-in_err-first-clause-bounded
returns-in_err-first-clause-bounded g c = one_of_two c.read_byte.ensures.bounded

pub returns-in_default-clause-bounded : goal.returns-in_default-clause-bounded
returns-in_default-clause-bounded g c = one_of_two c.read_byte.ensures.bounded

pub returns-then-first-ne13-clause-bounded : goal.returns-then-first-ne13-clause-bounded
returns-then-first-ne13-clause-bounded g c = one_of_two c.read_byte.ensures.bounded

pub returns-in_default-2-clause-bounded : goal.returns-in_default-2-clause-bounded
returns-in_default-2-clause-bounded g c = takes_both c.read_byte.ensures.bounded c.read_byte-2.ensures.bounded (omega arith)

pub returns-in_default-clause-is : goal.returns-in_default-clause-is
returns-in_default-clause-is g c =
    let end = rw c.in_default.is at c.in_ok-first.ensures.end in (
      [],
      rw c.in_default.is at c.in_ok-first.ensures.took,
      λ rest h after e.
          let none : rest ≡ [] = end rest h in
          cc,
    )

pub returns-clause-is : goal.returns-clause-is
returns-clause-is g c =
    let left = g.R.Source.left in
    let one = rw (c.in-Some.is, c.if-first-ne13.false) at c.in_ok-first.ensures.took in
    let two = rw (c.in-Some-2.is, c.if-second-ne10.false) at c.in_ok-second.ensures.took in
    Yields_more (left c.args.reader.now) (left c.read_byte.new.reader) (left c.read_byte-2.new.reader) (13 ∷ []) (10 ∷ []) one two
