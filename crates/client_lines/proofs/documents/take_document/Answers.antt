use Rattle.client_lines.specs.Names.{document_name}
use Rattle.client_lines.specs.Replies.{Document}
use Rattle.std.proofs.Common.{codes, ◌++◌}
use Rattle.std.proofs.KnownBytes.{Consumes-trans}
use Rattle.client_lines.proofs.Printed.{printed-shown}
use Rattle.client_lines.proofs.documents.take_document.Goals as goal

pub returns-clause-taken : goal.returns-clause-taken
returns-clause-taken g c =
    let head = c.in_ok-head.head.items in
    let bytes = c.in_ok-bytes.bytes.items in
    let document : Document = record { head = head; bytes = bytes } in
    let name = document_name c.args.asked.now.account c.args.asked.now.job c.args.number in
    let first = rw c.as_slice-2.ensures.value at c.in_ok-write_all.ensures.bytes in
    let said = rw (c.in_ok-length.ensures.ok_part, c.as_slice.ensures.value) at c.length_said.ensures.said in
    let headed = rw (← c.in_ok-bytes.ensures.count) at said in
    let shown = rw (c.as_str.ensures.value, c.in_ok-name.ensures) at c.in_ok-keep.ensures.printed in (
      document,
      Consumes-trans _ _ _ (head ++ codes "\n") (bytes ++ codes "\n") c.in_ok-head.ensures.line c.in_ok-bytes.ensures.bytes,
      printed-shown _ _ _ _ head (g.K.Keeper.shown c.args.keeper.now name bytes) first c.in_ok-write_all-2.ensures.bytes shown,
      headed,
    )
