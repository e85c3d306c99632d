use Rattle.std.proofs.Common.{◌++◌, codes}
use Rattle.std.specs.Prelude.{decimal}
use Rattle.std.proofs.KnownBytes.{Appends-kept, Appends-trans}
use Rattle.client_lines.proofs.grants.take_result.Goals as goal

pub returns-clause-heard : goal.returns-clause-heard
returns-clause-heard g c =
    let text = c.in_ok-text.text.items in
    let said = rw c.as_slice.ensures.value at c.in_ok-answer.ensures.said in
    let first = rw c.as_slice-2.ensures.value at c.in_ok-write_all.ensures.bytes in
    let line = Appends-trans _ _ _ text (codes "\n") first c.in_ok-write_all-2.ensures.bytes in
    let number = decimal c.args.number ++ codes " " in
    let whole = Appends-trans _ _ _ number (text ++ codes "\n") c.in_ok-print_number.ensures.printed line in (
      text,
      said,
      c.in_ok-text.ensures.line,
      Appends-kept _ _ _ (number ++ (text ++ codes "\n")) whole c.in_ok-flush.ensures.bytes,
    )
