use Rattle.page_pages.specs.Waiting.{job_name}
use Rattle.page_pages.proofs.waiting.put_job_name.Goals as goal

pub returns : goal.returns
unfolding job_name
returns c = c.put_all.ensures
