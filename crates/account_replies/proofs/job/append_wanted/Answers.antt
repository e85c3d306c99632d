use Rattle.std.proofs.Common.{◌≡◌, ◌++◌, OnOk, subst}
use Rattle.ipp_coding.specs.Plain.{PlainGroup}
use Rattle.ipp_coding.specs.Spelling.{group_spelling}
use Rattle.account_replies.proofs.Picks.{selected_as_wanted}
use Rattle.account_replies.proofs.job.append_wanted.Goals as goal

pub returns-clause-appended : goal.returns-clause-appended
returns-clause-appended c =
    subst (λ (group : PlainGroup). OnOk c.append_job.result (c.append_job.new.out.items ≡ c.args.out.now.items ++ group_spelling group))
    (selected_as_wanted _ _ _ _ c.of.ensures) c.append_job.ensures.appended
