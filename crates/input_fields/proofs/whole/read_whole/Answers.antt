use Rattle.std.proofs.Common.{◌≡◌, ◌∙◌, ◌<◌, length, arith, [], ◌++◌, take, append-nil, refl}
use Rattle.std.proofs.lemmas.Grind.{common_steps}
use Rattle.input_fields.specs.Streams.{IsSpent, Yields}
use Rattle.input_fields.proofs.Leaving.{Yields_more, all_taken, length-piece, longer_left}
use Rattle.input_fields.proofs.whole.read_whole.Goals as goal

-- the source told its end
pub returns-then-count-eq0-clause-all : goal.returns-then-count-eq0-clause-all
returns-then-count-eq0-clause-all g c =
    let none : take c.in-Ok.count c.read.new.buffer ≡ [] = rw c.if-count-eq0.true refl in
    let spent : IsSpent (g.R.Source.left c.read.new.self) = c.in-Ok.ensures.end c.if-count-eq0.true (grind (arith, common_steps)) in
    let took : Yields (g.R.Source.left c.loop-piece.reader) (g.R.Source.left c.read.new.self) [] = rw none at c.in-Ok.ensures.bytes in
    let all : Yields (g.R.Source.left c.args.reader.now) (g.R.Source.left c.read.new.self) c.loop-piece.bytes.items =
    rw append-nil at (Yields_more (g.R.Source.left c.args.reader.now) (g.R.Source.left c.loop-piece.reader) (g.R.Source.left c.read.new.self) c.loop-piece.bytes.items [] c.loop-piece.invariant.taken took) in
    all_taken (g.R.Source.left c.args.reader.now) (g.R.Source.left c.read.new.self) c.loop-piece.bytes.items (g.met.R.Source.some_left c.read.new.self) all spent

-- the piece that no memory was left for was taken as well
pub returns-in_err-extend_from_slice-clause-takes :
    goal.returns-in_err-extend_from_slice-clause-takes
returns-in_err-extend_from_slice-clause-takes g c = (c.loop-piece.bytes.items ++ take c.in-Ok.count c.read.new.buffer, length-piece c.loop-piece.bytes.items c.loop-piece.piece c.read.new.buffer c.in-Ok.count c.len-in-loop-piece.result c.min-room.result c.args.most (c.len-in-loop-piece.ensures ∙ c.loop-piece.bytes.ok.0) (grind arith) c.min-room.ensures c.in-Ok.ensures.bound, Yields_more (g.R.Source.left c.args.reader.now) (g.R.Source.left c.loop-piece.reader) (g.R.Source.left c.read.new.self) c.loop-piece.bytes.items (take c.in-Ok.count c.read.new.buffer) c.loop-piece.invariant.taken c.in-Ok.ensures.bytes)

-- so much was taken, and there is what is left
pub returns-clause-long : goal.returns-clause-long
returns-clause-long g c =
    let size = c.loop-piece.bytes.ok.0 in
    let beyond = c.loop-piece-test.false in
    let len = c.len.ensures in
    let over : c.args.most < length c.loop-piece.bytes.items = omega arith in
    λ long. longer_left (g.R.Source.left c.args.reader.now) (g.R.Source.left c.loop-piece.reader) c.loop-piece.bytes.items c.args.most (g.met.R.Source.some_left c.loop-piece.reader) c.loop-piece.invariant.taken over
