use Rattle.page_pages.specs.Forms.{form_choices}
use Rattle.page_pages.proofs.form.put_form_choices.Goals as goal

pub returns : goal.returns
unfolding form_choices
returns c = c.put_all.ensures
