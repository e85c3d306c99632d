use Rattle.std.proofs.Common.{◌≡◌, ◌∙◌, subst, sym, Option, IfSome}
use Rattle.account_rules.specs.Formats.{media_type}
use Rattle.account_rules.specs.declared.format.Format.{Format}
use Rattle.account_rules.proofs.FormatLemmas.{some_named, none_named}
use Rattle.account_rules.proofs.format.Format.of_media_type.Goals as goal

pub returns-clause-some : goal.returns-clause-some
returns-clause-some c = subst (λ (found : Option Format). IfSome found (λ format. c.args.text.now ≡ media_type format)) (sym (c.copied.ensures ∙ c.first_spelled.ensures)) (some_named c.args.text.now)

pub returns-clause-none : goal.returns-clause-none
returns-clause-none c none = none_named c.args.text.now (sym (c.copied.ensures ∙ c.first_spelled.ensures) ∙ none)
