use Rattle.std.proofs.Common.{◌≡◌, ◌++◌, ◌∙◌, OnOk, List, ℕ, ap, take, subst}
use Rattle.std.proofs.lemmas.List.{take_min}
use Rattle.serve_log.specs.LogLines.{shown}
use Rattle.serve_log.proofs.refusal.put_path.Goals as goal

pub returns : goal.returns
returns c = subst (λ (text : List ℕ). OnOk c.put_shown.result (c.put_shown.new.output.items ≡ c.args.output.now.items ++ shown text)) (ap (λ n. take n c.args.path.now) c.min.ensures ∙ take_min 256 c.args.path.now) c.put_shown.ensures
