use Rattle.page_pages.specs.Waiting.{job_state}
use Rattle.page_pages.proofs.waiting.put_job_state.Goals as goal

pub returns : goal.returns
unfolding job_state
returns c = c.put_all.ensures
