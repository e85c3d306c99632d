use Rattle.page_pages.specs.Rooms.{tiles}
use Rattle.page_pages.proofs.room.put_tiles.Goals as goal

pub returns : goal.returns
unfolding tiles
returns c = c.put_all.ensures
