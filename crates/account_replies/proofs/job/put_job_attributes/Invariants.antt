use Rattle.std.proofs.Common.{◌≡◌, ◌++◌, take}
use Rattle.account_replies.specs.ProofJobPlaces.{picked_text}
use Rattle.account_replies.specs.Places.{plain_place}
use Rattle.account_replies.proofs.job.put_job_attributes.Given as goal

abbrev pub invariant-loop-index : goal.invariant-loop-index
invariant-loop-index l = l.out.items ≡ l.fn.out.items ++ picked_text (plain_place l.at) l.job (take l.index l.flags) (take l.index l.attributes)
