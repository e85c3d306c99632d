use Rattle.page_pages.specs.Outcomes.{refused_file}
use Rattle.page_pages.proofs.outcome.put_refused_file.Goals as goal

pub returns : goal.returns
unfolding refused_file
returns c = c.put_all.ensures
