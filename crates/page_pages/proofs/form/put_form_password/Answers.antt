use Rattle.page_pages.specs.Forms.{form_password}
use Rattle.page_pages.proofs.form.put_form_password.Goals as goal

pub returns : goal.returns
unfolding form_password
returns c = c.put_all.ensures
