use Rattle.std.proofs.Common.{rules, codes, Some, None, sym, ◌∙◌}
use Rattle.std.proofs.lemmas.Bool.Decides.{Decides-eqb}
use Rattle.std.proofs.lemmas.List.{take_rest}
use Rattle.std.proofs.lemmas.Slice.Eq.{strip_prefix_is}
use Rattle.ipp_notation.proofs.Words.{account_of, script_behind, script_has_space, script_of, word_told}
use Rattle.ipp_notation.proofs.line.is_of_script.Goals as goal

pub returns-in_default : goal.returns-in_default
returns-in_default c = (search rules, λ is. absurd (script_has_space c.args.words.now is c.in_default.ensures))

pub returns-in-Some-strip_prefix : goal.returns-in-Some-strip_prefix
returns-in-Some-strip_prefix c =
    let words = c.args.words.now in
    let account = c.in-Some-strip_prefix.account.now in
    let s = c.in-Some.space in
    let behind = sym (take_rest words s) ∙ strip_prefix_is Decides-eqb _ (codes " ipp ") (Some c.in-Some-strip_prefix.account) c.in-Some-strip_prefix.ensures.cases in
    let told = word_told account c.memchr-in-Some-strip_prefix.result c.is_none.result c.memchr-in-Some-strip_prefix.ensures c.is_none.ensures in (
      λ yes. script_of words account s c.in-Some.ensures behind (told.0 yes),
      λ is. told.1 (account_of words account s c.in-Some.ensures behind is),
    )

pub returns-in-None : goal.returns-in-None
returns-in-None c =
    let words = c.args.words.now in
    let s = c.in-Some.space in
    (search rules, λ is. absurd (strip_prefix_is Decides-eqb _ (codes " ipp ") None c.in-None.ensures.cases is.account (take_rest words s ∙ script_behind words s is c.in-Some.ensures)))
