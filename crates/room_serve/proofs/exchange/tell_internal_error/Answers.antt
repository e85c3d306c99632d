use Rattle.std.proofs.Common.{◌∙◌, ℕ, List, ap, subst}
use Rattle.listen_http.specs.Exchange.{AppendsFront}
use Rattle.input_http.specs.Texts.{answer_text}
use Rattle.account_replies.specs.Replies.{internal_error_text}
use Rattle.room_serve.proofs.exchange.tell_internal_error.Goals as goal

pub returns-in-Err-clause-front : goal.returns-in-Err-clause-front
returns-in-Err-clause-front g c =
    subst (λ (text : List ℕ). AppendsFront (g.W.Sink.given c.args.writer.now) (g.W.Sink.given c.send_answer.new.writer) (answer_text text c.args.closes)) (c.internal_error.ensures ∙ ap internal_error_text c.header_in.ensures) c.in-Err.ensures.front
