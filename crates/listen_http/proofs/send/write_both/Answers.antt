use Rattle.listen_http.proofs.Streams.{failed_behind, front_of_more, sent_behind}
use Rattle.std.specs.Prelude.{Result, Ok, Err, OnErr}
use Rattle.listen_http.proofs.send.write_both.Goals as goal

-- what holds, holds where a call failed
on_err : {A E X : Type 0} (result : Result A E) → X → OnErr result X
on_err (Ok done) holds = tt
on_err (Err fault) holds = holds

pub returns-clause-sent : goal.returns-clause-sent
returns-clause-sent g c = sent_behind _ _ _ _ c.args.first.now c.args.rest.now c.in_ok-write_all.ensures.sent c.write_all-2.ensures.sent

pub returns-clause-front : goal.returns-clause-front
returns-clause-front g c = failed_behind _ _ _ _ c.args.first.now c.args.rest.now c.in_ok-write_all.ensures.sent c.write_all-2.ensures.front

pub returns-in_err-write_all-clause-front : goal.returns-in_err-write_all-clause-front
returns-in_err-write_all-clause-front g c = on_err _ (front_of_more _ _ c.args.first.now c.args.rest.now c.in_err-write_all.ensures.front)
