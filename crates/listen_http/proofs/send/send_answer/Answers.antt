use Rattle.std.proofs.Common.{rules, ◌≡◌, ◌++◌, List, ℕ, OnErr, append_assoc, subst}
use Rattle.listen_http.specs.Exchange.{AppendsFront}
use Rattle.input_http.specs.Texts.{answer_text}
use Rattle.listen_http.proofs.send.send_answer.Goals as goal

-- the two texts are the head, and the answer in two parts
pub returns-clause-front : goal.returns-clause-front
returns-clause-front g c =
    let whole : c.as_slice.result.now ++ c.split_at.result.1.now ≡ answer_text c.args.answer.now c.args.closes = search (rules, append_assoc) in
    subst (λ (text : List ℕ). OnErr c.write_both.result (AppendsFront (g.W.Sink.given c.args.writer.now) (g.W.Sink.given c.write_both.new.writer) text)) whole c.write_both.ensures.front
