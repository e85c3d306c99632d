use Rattle.std.proofs.Common.{◌≡◌, [], ◌∷◌, ◌++◌, rules, tests}
use Rattle.std.proofs.lemmas.Bool.Decides.{Decides-eqb}
use Rattle.std.proofs.lemmas.Iterator.Consumers.{YieldsList-at, YieldsList-from_enumerate}
use Rattle.std.proofs.lemmas.Iterator.Splits.{YieldsList-from_slice_split}
use Rattle.std.proofs.lemmas.List.Elements.{All-push}
use Rattle.std.proofs.lemmas.Slice.Eq.{strip_suffix_is}
use Rattle.input_lines.specs.Lines.{IsAllowed}
use Rattle.input_lines.specs.Saying.{AreTexts, IsLineOf}
use Rattle.input_lines.proofs.Inputs.{AllZip-more, AllZip-texts, AreTexts-of, is_feed, texts_of, yielded_whole}
use Rattle.input_lines.proofs.lines.Grammar.read.Goals as goal

pub loop-index-preserved : goal.loop-index-preserved
loop-index-preserved c =
    let so_far = c.loop-index.invariant in
    let pushed : c.push.new.self.items ≡ c.loop-index.lines.items ++ c.in-Ok.line ∷ [] = search rules in (
      rw pushed (All-push (IsAllowed c.args.self) _ _ so_far.0 c.in-Ok.ensures.allowed),
      rw pushed (AllZip-more _ _ _ _ _ so_far.1 c.in-Ok.ensures.said),
    )

pub returns-clause-said : goal.returns-clause-said
returns-clause-said c =
    let text = c.unwrap_or-text.result.now in
    let all = yielded_whole c.loop-index.yielded _ c.loop-index.yielded_by _ _ c.in-None.is c.next.ensures.steps
    (YieldsList-at c.into_iter-index-iterator.ensures.into_iter_gives
    (YieldsList-from_enumerate (YieldsList-at c.enumerate-index-items.ensures.source
    (YieldsList-from_slice_split _ is_feed text c.split.ensures.rest c.split.ensures.done c.split.ensures.closure (λ x b q k. search (rules, tests)))) c.enumerate-index-items.ensures.count)) in
    let whole = AreTexts-of c.args.input c.strip_suffix.result _ (strip_suffix_is Decides-eqb c.args.input.now (10 ∷ []) _ c.strip_suffix.ensures.cases) in
    let texts : AreTexts c.args.input.now (texts_of text) = rw c.unwrap_or-text.ensures whole in
    (texts_of text, texts, AllZip-texts (IsLineOf c.args.self) c.loop-index.yielded (texts_of text) 0 _ all c.loop-index.invariant.1)
