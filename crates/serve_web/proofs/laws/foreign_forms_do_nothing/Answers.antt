use Rattle.serve_web.proofs.ForeignForms.{foreign_forms_do_nothing}
use Rattle.serve_web.proofs.laws.foreign_forms_do_nothing.Goals as goal

pub returns : goal.returns
returns g c = foreign_forms_do_nothing g.S.Store
