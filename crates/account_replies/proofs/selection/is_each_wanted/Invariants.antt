use Rattle.std.proofs.Common.{◌≡◌, length, map, take}
use Rattle.account_replies.specs.declared.job.JobAttribute.{JobAttribute}
use Rattle.account_replies.specs.ProofJobPlaces.{job_row}
use Rattle.account_replies.specs.Tables.{asked_names, is_wanted}
use Rattle.account_replies.proofs.selection.is_each_wanted.Given as goal

abbrev pub invariant-loop-index : goal.invariant-loop-index
invariant-loop-index l = record {
  long : length l.selected ≡ length l.attributes;
  so_far : take l.index l.selected ≡ map (λ (a : JobAttribute). is_wanted (asked_names l.wanted) (job_row a).name (job_row a).group) (take l.index l.attributes);
}
