use Rattle.std.proofs.Common.{rules, ◌<◌, ◌≤◌, length, arith}
use Rattle.std.proofs.lemmas.Result.{err_from_is_err_and}
use Rattle.listen_http.specs.Bodies.{HasBody, IsNoBody, IsTooLongBody}
use Rattle.listen_http.specs.Exchange.{most_of_body}
use Rattle.listen_http.specs.Http.{Http, Carried, Refused, has_long_body, has_message, has_no_body, has_short_body}
use Rattle.input_http.specs.declared.refusal.Refusal.TheVariants.{BadRequest, PayloadTooLarge}
use Rattle.listen_http.proofs.Openings.{behind_head, body_failed, head_failed}
use Rattle.listen_http.proofs.Taking.{takes_both}
use Rattle.listen_http.proofs.receiving.receive.Goals as goal

pub returns-then-len-lt-SHORTEST_BODY-clause-received :
    goal.returns-then-len-lt-SHORTEST_BODY-clause-received
returns-then-len-lt-SHORTEST_BODY-clause-received g c =
    let left = g.R.Source.left in
    let order = c.in-Ordered.order in
    let body = c.in-Whole.body.items in
    let opening = rw c.in-Ordered.is at c.in_ok-read_order.ensures.is in
    let read = rw c.in-Whole.is at c.in_ok-body.ensures.is in
    let short : length body < 8 = search rules in (
      order.expects,
      behind_head (left c.args.reader.now) (left c.read_order.new.reader) (left c.read_body.new.reader) order (λ text rest. HasBody order.framing text body rest) (λ text rest. Http text (Refused order.expects BadRequest)) opening.0 read
          (λ whole behind rest orders has. has_short_body order behind body rest orders has short),
      c.in_ok-send_interim.ensures.sent,
    )

pub returns-else-len-lt-SHORTEST_BODY-clause-received :
    goal.returns-else-len-lt-SHORTEST_BODY-clause-received
returns-else-len-lt-SHORTEST_BODY-clause-received g c =
    let left = g.R.Source.left in
    let order = c.in-Ordered.order in
    let body = c.in-Whole.body.items in
    let opening = rw c.in-Ordered.is at c.in_ok-read_order.ensures.is in
    let read = rw c.in-Whole.is at c.in_ok-body.ensures.is in
    let long : 8 ≤ length body = search rules in (
      behind_head (left c.args.reader.now) (left c.read_order.new.reader) (left c.read_body.new.reader) order (λ text rest. HasBody order.framing text body rest) (λ text rest. Http text (Carried order body rest)) opening.0 read
          (λ whole behind rest orders has. has_message order behind body rest orders has long),
      c.in_ok-send_interim.ensures.sent,
    )

pub returns-in-Bad-clause-received : goal.returns-in-Bad-clause-received
returns-in-Bad-clause-received g c =
    let left = g.R.Source.left in
    let order = c.in-Ordered.order in
    let opening = rw c.in-Ordered.is at c.in_ok-read_order.ensures.is in
    let read = rw c.in-Bad.is at c.in_ok-body.ensures.is in (
      order.expects,
      behind_head (left c.args.reader.now) (left c.read_order.new.reader) (left c.read_body.new.reader) order (λ text rest. IsNoBody text order.framing) (λ text rest. Http text (Refused order.expects BadRequest)) opening.0 read
          (λ whole behind rest orders none. has_no_body order behind orders none),
      c.in_ok-send_interim.ensures.sent,
    )

pub returns-in-TooLong-clause-received : goal.returns-in-TooLong-clause-received
returns-in-TooLong-clause-received g c =
    let left = g.R.Source.left in
    let order = c.in-Ordered.order in
    let opening = rw c.in-Ordered.is at c.in_ok-read_order.ensures.is in
    let read = rw c.in-TooLong.is at c.in_ok-body.ensures.is in (
      order.expects,
      behind_head (left c.args.reader.now) (left c.read_order.new.reader) (left c.read_body.new.reader) order (λ text rest. IsTooLongBody text) (λ text rest. Http text (Refused order.expects PayloadTooLarge)) opening.0 read.1
          (λ whole behind rest orders long. has_long_body order behind orders read.0 long),
      c.in_ok-send_interim.ensures.sent,
    )

pub returns-in_err-body-clause-bounded : goal.returns-in_err-body-clause-bounded
returns-in_err-body-clause-bounded g c = takes_both c.read_order.ensures.bounded c.read_body.ensures.bounded (omega arith)

pub returns-then-len-lt-SHORTEST_BODY-clause-bounded : goal.returns-then-len-lt-SHORTEST_BODY-clause-bounded
returns-then-len-lt-SHORTEST_BODY-clause-bounded g c = takes_both c.read_order.ensures.bounded c.read_body.ensures.bounded (omega arith)

pub returns-else-len-lt-SHORTEST_BODY-clause-bounded : goal.returns-else-len-lt-SHORTEST_BODY-clause-bounded
returns-else-len-lt-SHORTEST_BODY-clause-bounded g c = takes_both c.read_order.ensures.bounded c.read_body.ensures.bounded (omega arith)

pub returns-in-Bad-clause-bounded : goal.returns-in-Bad-clause-bounded
returns-in-Bad-clause-bounded g c = takes_both c.read_order.ensures.bounded c.read_body.ensures.bounded (omega arith)

pub returns-in-TooLong-clause-bounded : goal.returns-in-TooLong-clause-bounded
returns-in-TooLong-clause-bounded g c = takes_both c.read_order.ensures.bounded c.read_body.ensures.bounded (omega arith)

pub returns-in_err-read_order-clause-fault : goal.returns-in_err-read_order-clause-fault
returns-in_err-read_order-clause-fault g c =
    let exit = err_from_is_err_and c.from_residual.result c.from_residual.ensures.1 in
    rw (exit.1, exit.2) (head_failed (g.R.Source.left c.args.reader.now) (g.R.Source.left c.read_order.new.reader) (g.W.Sink.given c.args.writer.now) _ c.in_err-read_order.ensures.cause)

pub returns-in_err-body-clause-fault : goal.returns-in_err-body-clause-fault
returns-in_err-body-clause-fault g c =
    let left = g.R.Source.left in
    let opening = rw c.in-Ordered.is at c.in_ok-read_order.ensures.is in
    let exit = err_from_is_err_and c.from_residual-in_err-body.result c.from_residual-in_err-body.ensures.1 in
    rw (exit.1, exit.2) (body_failed (left c.args.reader.now) (left c.read_order.new.reader) (left c.read_body.new.reader) (g.W.Sink.given c.args.writer.now) (g.W.Sink.given c.send_interim.new.writer) c.in-Ordered.order most_of_body _ opening.0 c.read_body.ensures.bounded c.in_ok-send_interim.ensures.sent c.in_err-body.ensures.cause)
