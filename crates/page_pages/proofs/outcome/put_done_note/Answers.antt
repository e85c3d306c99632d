use Rattle.page_pages.specs.Outcomes.{done_note}
use Rattle.page_pages.proofs.outcome.put_done_note.Goals as goal

pub returns : goal.returns
unfolding done_note
returns c = c.put_all.ensures
