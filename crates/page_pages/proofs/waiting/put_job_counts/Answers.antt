use Rattle.page_pages.specs.Waiting.{job_counts}
use Rattle.page_pages.proofs.waiting.put_job_counts.Goals as goal

pub returns : goal.returns
unfolding job_counts
returns c = c.put_all.ensures
