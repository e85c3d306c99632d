use Rattle.account_replies.proofs.Fronts.{tag_and_parts}
use Rattle.account_replies.proofs.reply.put_operation_group.Goals as goal

pub returns-clause-appended : goal.returns-clause-appended
returns-clause-appended c =
    tag_and_parts _ _ _ _ _ _ _ _ _ c.in_ok-begin_group.ensures.appended c.in_ok-put_single.ensures.appended c.in_ok-put_single-2.ensures.appended c.in_ok-put_status_message.ensures.appended
