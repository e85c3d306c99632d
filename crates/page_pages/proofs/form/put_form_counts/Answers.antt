use Rattle.page_pages.specs.Forms.{form_counts}
use Rattle.page_pages.proofs.form.put_form_counts.Goals as goal

pub returns : goal.returns
unfolding form_counts
returns c = c.put_all.ensures
