use Rattle.std.proofs.Common.{rules, not, ◌==◌}
use Rattle.std.proofs.lemmas.Fn.{filter_same}
use Rattle.account_rules.specs.declared.job.Document.{Document}
use Rattle.room_core.proofs.documents.retain_others.Goals as goal

pub returns : goal.returns
returns c = filter_same _ (λ (document : Document). not (document.job == c.args.job)) _ (λ x b f called. search (rules, called)) _ _ c.retain.ensures.filtered
