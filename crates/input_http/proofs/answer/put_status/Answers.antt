use Rattle.std.proofs.Common.{◌≡◌, ◌++◌, ◌∙◌, [], ap, codes, unwrap_or}
use Rattle.http.specs.StatusCode.{code_digits, reason_phrase}
use Rattle.input_http.specs.Texts.{status_line}
use Rattle.input_http.proofs.Joining.{five}
use Rattle.input_http.proofs.answer.put_status.Goals as goal

pub returns-clause-items : goal.returns-clause-items
unfolding status_line
returns-clause-items g c =
    let status = c.args.status in
    let code : c.as_bytes.result.now ≡ code_digits status = c.as_bytes.ensures.value ∙ c.as_str.ensures in
    let phrase : c.as_bytes-2.result.now ≡ unwrap_or (reason_phrase status) [] = c.as_bytes-2.ensures.value ∙ c.phrase_of.ensures in
    let two = c.put-2.ensures.items ∙ (λ i. c.put.ensures.items i ++ code i) in
    let three = c.put-3.ensures.items ∙ ap (λ s. s ++ codes " ") two in
    let four = c.put-4.ensures.items ∙ (λ i. three i ++ phrase i) in
    c.put-5.ensures.items ∙ ap (λ s. s ++ codes "\r\n") four ∙ five c.args.text.now.items (codes "HTTP/1.1 ") (code_digits status) (codes " ") (unwrap_or (reason_phrase status) []) (codes "\r\n")
