use Rattle.std.proofs.Common.{◌≡◌, codes, arith}
use Rattle.std.proofs.lemmas.Slice.Eq.{text_from_reads}
use Rattle.input_lines.proofs.lines.door_action.Goals as goal

pub returns-in-cancel-clause-said : goal.returns-in-cancel-clause-said
returns-in-cancel-clause-said c =
    let kind : c.args.kind.now ≡ codes "cancel" = text_from_reads c.args.kind.now (codes "cancel") (omega arith) (omega arith, (omega arith, (omega arith, (omega arith, (omega arith, (omega arith, tt)))))) in
    rw kind c.owner_action-in-cancel.ensures.said

pub returns-in-hold-clause-said : goal.returns-in-hold-clause-said
returns-in-hold-clause-said c =
    let kind : c.args.kind.now ≡ codes "hold" = text_from_reads c.args.kind.now (codes "hold") (omega arith) (omega arith, (omega arith, (omega arith, (omega arith, tt)))) in
    rw kind c.owner_action.ensures.said

pub returns-in_default-clause-said : goal.returns-in_default-clause-said
returns-in_default-clause-said c = c.operator_action.ensures.said
