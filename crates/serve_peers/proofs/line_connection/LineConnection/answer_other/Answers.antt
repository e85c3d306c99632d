use Rattle.std.proofs.Common.{ℕ, List, ap, take, inr, subst, ◌∙◌}
use Rattle.input_lines.specs.Asking.{IsQuestionOf}
use Rattle.serve_peers.proofs.Journaling.{looked}
use Rattle.serve_peers.proofs.LineEnds.{on_err, takes_question}
use Rattle.serve_peers.specs.LineTexts.{has_to_warn}
use Rattle.serve_peers.specs.Lines.{input_of}
use Rattle.serve_peers.proofs.line_connection.LineConnection.answer_other.Goals as goal

pub returns-in_err-put_answer-clause-continues : goal.returns-in_err-put_answer-clause-continues
returns-in_err-put_answer-clause-continues g c = looked g.S.Store _ _ _ _ c.answer_question-told.ensures

pub returns-clause-continues : goal.returns-clause-continues
returns-clause-continues g c = looked g.S.Store _ _ _ _ c.answer_question-told.ensures

pub returns-in_err-put_answer-clause-lost : goal.returns-in_err-put_answer-clause-lost
returns-in_err-put_answer-clause-lost g c =
    let said : IsQuestionOf (take c.args.end (input_of c.args.self.now)) c.in-Some.question = subst (λ (text : List ℕ). IsQuestionOf (take c.args.end text) c.in-Some.question) c.as_slice.ensures c.in-Some.ensures.1 in
    on_err _ _ (inr (_, takes_question g.S.Store _ _ _ _ _ _ _ _ c.requires.first c.requires.plain c.advance.ensures.items c.requires.own c.in-Some.ensures.0 said c.answer_question-told.ensures (c.has_to_warn-warns.ensures ∙ ap (λ lags. has_to_warn c.in-Some.question lags) c.log_lags.ensures)))

pub returns-clause-taken : goal.returns-clause-taken
returns-clause-taken g c = λ _.
    let said : IsQuestionOf (take c.args.end (input_of c.args.self.now)) c.in-Some.question = subst (λ (text : List ℕ). IsQuestionOf (take c.args.end text) c.in-Some.question) c.as_slice.ensures c.in-Some.ensures.1 in
    (_, takes_question g.S.Store _ _ _ _ _ _ _ _ c.requires.first c.requires.plain c.advance.ensures.items c.requires.own c.in-Some.ensures.0 said c.answer_question-told.ensures (c.has_to_warn-warns.ensures ∙ ap (λ lags. has_to_warn c.in-Some.question lags) c.log_lags.ensures), c.in_ok-put_answer.ensures)
