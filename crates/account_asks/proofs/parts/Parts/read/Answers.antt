use Rattle.std.proofs.lemmas.Result.{err_from_is_err_and}
use Rattle.ipp_coding.specs.Plain.{plain_message}
use Rattle.account_asks.specs.Requests.{operation_attributes}
use Rattle.account_asks.proofs.Stages.{opening_failed, target_failed, fields_failed, parts_passed}
use Rattle.account_asks.proofs.parts.Parts.read.Goals as goal

pub returns-in_err-attributes-clause-told : goal.returns-in_err-attributes-clause-told
returns-in_err-attributes-clause-told c =
    let exit = err_from_is_err_and c.from_residual.result c.from_residual.ensures.1 in
    rw (exit.1, exit.2) (opening_failed c.args.account c.args.operation (operation_attributes (plain_message c.args.message.now)) _ c.in_err-attributes.ensures)

pub returns-in_err-target-clause-told : goal.returns-in_err-target-clause-told
returns-in_err-target-clause-told c =
    let exit = err_from_is_err_and c.from_residual-in_err-target.result c.from_residual-in_err-target.ensures.1 in
    rw (exit.1, exit.2) (target_failed c.args.account c.args.operation (operation_attributes (plain_message c.args.message.now)) _ _ c.in_ok-attributes.ensures c.in_err-target.ensures.told)

pub returns-in_err-fields-clause-told : goal.returns-in_err-fields-clause-told
returns-in_err-fields-clause-told c =
    let exit = err_from_is_err_and c.from_residual-in_err-fields.result c.from_residual-in_err-fields.ensures.1 in
    rw (exit.1, exit.2) (fields_failed c.args.account c.args.operation (operation_attributes (plain_message c.args.message.now)) _ _ _ c.in_ok-attributes.ensures c.in_ok-target.ensures.told c.in_err-fields.ensures.told)

pub returns-clause-told : goal.returns-clause-told
returns-clause-told c =
    parts_passed c.args.account c.args.operation (operation_attributes (plain_message c.args.message.now)) _ _ _ c.in_ok-attributes.ensures c.in_ok-target.ensures.told c.in_ok-fields.ensures.told
