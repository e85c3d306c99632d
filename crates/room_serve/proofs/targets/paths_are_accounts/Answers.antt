use Rattle.room_serve.proofs.Paths.{named_by_path, path_names, path_of_one}
use Rattle.room_serve.proofs.targets.paths_are_accounts.Goals as goal

pub returns : goal.returns
returns c = record { named = named_by_path; taken = path_names; one = path_of_one }
