use Rattle.std.proofs.Common.{sym, ◌∙◌}
use Rattle.ipp_coding.specs.Plain.{plain_value}
use Rattle.account_asks.specs.Syntaxes.{is_value_of}
use Rattle.account_asks.specs.declared.syntax.Syntax.TheVariants.{Keywords}
use Rattle.std.proofs.lemmas.List.Folds.{list_all-map}
use Rattle.account_asks.proofs.syntax.Syntax.fits.Goals as goal

pub returns-in-Keywords : goal.returns-in-Keywords
returns-in-Keywords c = rw c.in-Keywords.is (c.are_keywords.ensures ∙ sym (list_all-map (is_value_of Keywords) plain_value c.args.values.now))
