use Rattle.serve_web.proofs.PagePaths.{asks_by_its_path, paths_are_spelled, paths_lead}
use Rattle.serve_web.proofs.laws.pages_are_by_path.Goals as goal

pub returns : goal.returns
returns c = record { spelled = paths_are_spelled; lead = paths_lead; asked = asks_by_its_path }
