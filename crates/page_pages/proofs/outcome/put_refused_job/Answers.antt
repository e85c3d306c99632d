use Rattle.page_pages.specs.Outcomes.{refused_job}
use Rattle.page_pages.proofs.outcome.put_refused_job.Goals as goal

pub returns : goal.returns
unfolding refused_job
returns c = c.put_all.ensures
