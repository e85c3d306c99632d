use Rattle.std.proofs.Common.{◌∙◌}
use Rattle.store_events.proofs.events.answer_and_note_committed.Goals as goal

pub returns-clause-on_disk : goal.returns-clause-on_disk
returns-clause-on_disk g c outside = c.is_under_way-shares.ensures.on_disk (c.is_under_way-shares.ensures.mode ∙ outside)
