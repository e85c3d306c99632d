use Rattle.page_pages.specs.Outcomes.{failed_note}
use Rattle.page_pages.proofs.outcome.put_failed_note.Goals as goal

pub returns : goal.returns
unfolding failed_note
returns c = c.put_all.ensures
