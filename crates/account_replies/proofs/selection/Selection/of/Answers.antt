use Rattle.std.proofs.Common.{◌∙◌}
use Rattle.account_replies.specs.Tables.{asked_names}
use Rattle.account_replies.proofs.JobRows.{rows_wanted}
use Rattle.account_replies.proofs.selection.Selection.of.Goals as goal

pub returns : goal.returns
returns c = c.is_each_wanted.ensures ∙ rows_wanted (asked_names c.args.wanted)
