use Rattle.page_pages.specs.Forms.{form_file}
use Rattle.page_pages.proofs.form.put_form_file.Goals as goal

pub returns : goal.returns
unfolding form_file
returns c = c.put_all.ensures
