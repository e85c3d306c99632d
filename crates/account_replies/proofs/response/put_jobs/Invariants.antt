use Rattle.std.proofs.Common.{◌≡◌, ◌++◌, map, take}
use Rattle.std.specs.List.{flat_map}
use Rattle.ipp_coding.specs.Spelling.{group_spelling}
use Rattle.account_replies.specs.Places.{plain_place}
use Rattle.account_replies.specs.Responses.{selected_groups}
use Rattle.account_replies.proofs.response.put_jobs.Given as goal

abbrev pub invariant-loop-job : goal.invariant-loop-job
invariant-loop-job g l = l.out.items ≡ l.fn.out.items ++ flat_map group_spelling (selected_groups (plain_place l.at) (map g.J.AsJob.job (take l.job-index l.jobs)) l.selection)
