use Rattle.std.proofs.Common.{Err, sym, ap, ◌∙◌}
use Rattle.ipp_coding.specs.Plain.{plain_message}
use Rattle.account_asks.specs.Refusals.{PlainRefusal}
use Rattle.account_asks.proofs.Wholes.{asks_bare, header_refused, malformed_refused, message_decides}
use Rattle.account_asks.proofs.read.read_ask.Goals as goal

pub returns-in-Err-clause-asked : goal.returns-in-Err-clause-asked
returns-in-Err-clause-asked c =
    asks_bare c.refused.result c.in-Err.refusal _ c.refused.ensures (header_refused c.args.account c.args.body.now c.header_in-header.result _ c.header_in-header.ensures c.in-Err.ensures)

pub returns-in-Ok-read_message-clause-asked : goal.returns-in-Ok-read_message-clause-asked
returns-in-Ok-read_message-clause-asked c =
    message_decides c.args.account c.args.body.now c.header_in-header.result c.in-Ok.operation (plain_message c.in-Ok-read_message.message) c.ask_in.result c.header_in-header.ensures c.in-Ok.ensures c.in-Ok-read_message.ensures.value c.ask_in.ensures.asked

pub returns-in-Err-Malformed-clause-asked : goal.returns-in-Err-Malformed-clause-asked
returns-in-Err-Malformed-clause-asked c =
    let none = rw c.in-Err-Malformed.field-0-is at c.in-Err-Malformed.ensures.value in
    asks_bare c.refused-in-Err-Malformed.result c.malformed.result _ c.refused-in-Err-Malformed.ensures
    (malformed_refused c.args.account c.args.body.now c.header_in-header.result c.in-Ok.operation c.header_in-header.ensures c.in-Ok.ensures none
    ∙ ap (λ (r : PlainRefusal). Err r) (sym c.malformed.ensures))
