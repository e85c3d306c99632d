use Rattle.std.proofs.Common.{not, ap, ◌∙◌}
use Rattle.store_rounds.proofs.rounds.note_committed.Goals as goal

pub returns : goal.returns
returns g c opened mode = c.is_autocommit-told.ensures.settled (c.is_autocommit-told.ensures.value ∙ ap not mode) opened
