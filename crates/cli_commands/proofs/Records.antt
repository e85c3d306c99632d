-- Records of a file of grants, printed one after another.
use Rattle.std.proofs.Common.{◌≡◌, ◌+◌, ◌<◌, ◌++◌, ◌∷◌, ℕ, List, append_assoc, ap, arith, drop, get_or, length, suc, sym, ◌∙◌}
use Rattle.std.proofs.Math.Seq.{drop-cons}
use Rattle.input_fields.specs.declared.grant_line.GrantLine.{GrantLine}
use Rattle.room_serve.specs.declared.outcome.Outcome.{Outcome}
use Rattle.cli_commands.specs.Outcomes.{left_by, record_text, records_text}

pub printed_more : (records : List GrantLine) (index : ℕ) (one : GrantLine) (left further : List Outcome) (printed whole : List ℕ) → index < length records → one ≡ get_or records index one → further ≡ left_by one left
    → printed ++ records_text (index + 1) (drop index records) left ≡ whole
    → (printed ++ record_text (index + 1) one left) ++ records_text (index + 1 + 1) (drop (index + 1) records) further ≡ whole
printed_more records index one left further printed whole within is same so_far =
    let next : suc index ≡ index + 1 = omega arith in
    append_assoc printed (record_text (index + 1) one left) (records_text (index + 1 + 1) (drop (index + 1) records) further)
    ∙ ap (λ outcomes. printed ++ (record_text (index + 1) one left ++ records_text (index + 1 + 1) (drop (index + 1) records) outcomes)) same
    ∙ ap (λ rest. printed ++ records_text (index + 1) rest left) (sym (drop-cons records index one within ∙ ap (λ n. get_or records index one ∷ drop n records) next ∙ ap (λ it. it ∷ drop (index + 1) records) (sym is)))
    ∙ so_far
