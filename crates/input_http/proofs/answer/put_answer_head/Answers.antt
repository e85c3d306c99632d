use Rattle.std.proofs.Common.{◌≡◌, ◌++◌, ◌∙◌, ℕ, ap, codes, decimal, sym}
use Rattle.std.proofs.lemmas.List.{append-nil}
use Rattle.arrayvec.specs.ArrayVec.{ArrayVec}
use Rattle.input_http.specs.Texts.{close_field, status_line}
use Rattle.input_http.proofs.Joining.{six}
use Rattle.input_http.proofs.answer.put_answer_head.Goals as goal
use Rattle.input_http.proofs.answer.put_answer_head.Goals.{then-closes, else-closes}

pub returns-clause-items : goal.returns-clause-items
returns-clause-items g c =
    let fields = codes "Content-Type: application/ipp\r\nContent-Length: " in
    let crlf = codes "\r\n" in
    let digits : c.as_bytes.result.now ≡ decimal c.args.size = c.as_bytes.ensures.value ∙ c.format.ensures.text in
    let two = c.put.ensures.items ∙ ap (λ s. s ++ fields) c.put_status.ensures.items in
    let three = c.put-2.ensures.items ∙ (λ i. two i ++ digits i) in
    let four = c.put-3.ensures.items ∙ ap (λ s. s ++ crlf) three in
    let closing : c.if-closes.text.items ≡ c.put-3.new.text.items ++ close_field c.args.closes =
    elim c.if-closes.branch [
      | then-closes w ↦ ap (λ (t : ArrayVec ℕ). t.items) w.text-is ∙ w.put-then-closes.ensures.items ∙ ap (λ b. c.put-3.new.text.items ++ close_field b) (sym w.if-closes.true)
      | else-closes w ↦ ap (λ (t : ArrayVec ℕ). t.items) w.text-is ∙ sym (append-nil c.put-3.new.text.items) ∙ ap (λ b. c.put-3.new.text.items ++ close_field b) (sym w.if-closes.false)
    ] in
    c.put-4.ensures.items ∙ ap (λ s. s ++ crlf) (closing ∙ ap (λ s. s ++ close_field c.args.closes) four) ∙ six c.args.text.now.items (status_line 200) fields (decimal c.args.size) crlf (close_field c.args.closes) crlf
