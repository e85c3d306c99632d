use Rattle.page_pages.specs.Rooms.{find_form}
use Rattle.page_pages.proofs.room.put_find_form.Goals as goal

pub returns : goal.returns
unfolding find_form
returns c = c.put_all.ensures
