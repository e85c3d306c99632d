use Rattle.page_pages.specs.Reasons.{quota_reason}
use Rattle.page_pages.proofs.reason.put_quota_reason.Goals as goal

pub returns : goal.returns
unfolding quota_reason
returns c = c.put_all.ensures
