use Rattle.page_pages.specs.Forms.{form_checks}
use Rattle.page_pages.proofs.form.put_form_checks.Goals as goal

pub returns : goal.returns
unfolding form_checks
returns c = c.put_all.ensures
