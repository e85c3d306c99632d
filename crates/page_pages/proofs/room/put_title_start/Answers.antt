use Rattle.page_pages.specs.Rooms.{title_start}
use Rattle.page_pages.proofs.room.put_title_start.Goals as goal

pub returns : goal.returns
unfolding title_start
returns c = c.put_all.ensures
