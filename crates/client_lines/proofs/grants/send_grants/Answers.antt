use Rattle.client_lines.specs.Grants.{SendsFileFront}
use Rattle.client_lines.proofs.Fronts.{AppendsUpTo-none}
use Rattle.client_lines.proofs.Refused.{OnErr-of}
use Rattle.client_lines.proofs.grants.send_grants.Goals as goal

pub returns-in_err-records-clause-front : goal.returns-in_err-records-clause-front
returns-in_err-records-clause-front g c =
    let file = g.met.S.Source.some_left c.args.input.now in
    let sent = g.W.Write.contents c.args.peer.now.writer in
    let none : SendsFileFront (g.S.Source.left c.args.input.now) sent sent =
    (file.0, file.1, AppendsUpTo-none _ _) in
    OnErr-of _ _ none
