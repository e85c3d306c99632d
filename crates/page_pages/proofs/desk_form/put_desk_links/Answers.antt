use Rattle.page_pages.specs.DeskForms.{desk_links}
use Rattle.page_pages.proofs.desk_form.put_desk_links.Goals as goal

pub returns : goal.returns
unfolding desk_links
returns c = c.put_all.ensures
