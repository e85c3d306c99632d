use Rattle.serve_desk.proofs.ForeignForms.{foreign_forms_do_nothing}
use Rattle.serve_desk.proofs.laws.foreign_forms_do_nothing_at_desk.Goals as goal

pub returns : goal.returns
returns g c = foreign_forms_do_nothing g.S.Store
