use Rattle.std.proofs.Common.{◌≡◌, ◌++◌, ◌∙◌, ap, codes}
use Rattle.input_http.specs.Texts.{status_line, status_of}
use Rattle.input_http.proofs.answer.refusal_text.Goals as goal

pub returns : goal.returns
returns c =
    let fields = codes "Content-Length: 0\r\nConnection: close\r\n" in
    let line : c.put_status.new.text.items ≡ status_line (status_of c.args.refusal) = c.put_status.ensures.items ∙ (λ i. c.new-text.ensures i ++ status_line (c.status.ensures.value i)) in
    let two = c.put.ensures.items ∙ ap (λ s. s ++ fields) line in
    let three = c.put-2.ensures.items ∙ (λ i. two i ++ c.more_fields.ensures.value i) in
    c.put-3.ensures.items ∙ ap (λ s. s ++ codes "\r\n") three
