use Rattle.input_fields.proofs.LineLemmas.{pages_is}
use Rattle.input_fields.proofs.grant_line.pages_in.Goals as goal

-- pages are a number in decimal up to a most
pub returns-clause-said : goal.returns-clause-said
returns-clause-said c = pages_is c.number.result c.args.text.now c.number.ensures
