use Rattle.page_pages.specs.Rooms.{as_of}
use Rattle.page_pages.proofs.room.put_as_of.Goals as goal

pub returns : goal.returns
unfolding as_of
returns c = c.put_all.ensures
