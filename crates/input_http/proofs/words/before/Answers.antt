use Rattle.std.proofs.Common.{sym}
use Rattle.input_http.proofs.Marks.{before_none, before_place}
use Rattle.input_http.proofs.words.before.Goals as goal

pub returns-in-Some-clause-value : goal.returns-in-Some-clause-value
returns-in-Some-clause-value c = before_place c.args.mark c.args.bytes.now c.in-Some.end (sym c.in-Some.ensures.place)

pub returns-in-None-clause-value : goal.returns-in-None-clause-value
returns-in-None-clause-value c = before_none c.args.mark c.args.bytes.now (sym c.in-None.ensures.place)
