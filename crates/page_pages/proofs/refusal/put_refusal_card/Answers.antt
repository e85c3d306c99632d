use Rattle.page_pages.specs.Refusals.{refusal_card}
use Rattle.page_pages.proofs.refusal.put_refusal_card.Goals as goal

pub returns : goal.returns
unfolding refusal_card
returns c = c.put_all.ensures
