use Rattle.std.proofs.Common.{◌∷◌, [], refl, subst, sym}
use Rattle.input_fields.specs.Fields.{SaysNumber}
use Rattle.input_lines.proofs.lines.owner_action.Goals as goal

pub returns-in-Ok-clause-said : goal.returns-in-Ok-clause-said
returns-in-Ok-clause-said c =
    let account = c.in_ok-account in
    let job = c.in_ok-job.ensures.said in
    let request = c.in-Ok.ensures in
    let fields = account.account ∷ job.0 ∷ [] in
    (fields, (_, account.ensures.said, (_, job.1, refl)), (job.0, rw (request.act, request.account) refl, subst (SaysNumber job.0) (sym request.job) job.2))
