use Rattle.std.proofs.Common.{rules, tests}
use Rattle.std.proofs.lemmas.Iterator.Search.{any_from_yields_List}
use Rattle.std.proofs.lemmas.Iterator.Splits.{YieldsList-from_slice_split}
use Rattle.input_http.specs.Words.{is_same_word, without_margin}
use Rattle.std.proofs.Common.{[], ◌∷◌}
use Rattle.listen_http.proofs.words.lists.Goals as goal

pub returns : goal.returns
returns c =
    any_from_yields_List (λ item. is_same_word (without_margin (32 ∷ 9 ∷ []) item) c.args.word.now) _ _ _ c.any.ensures.ran
    (YieldsList-from_slice_split _ _ c.args.value.now c.split.ensures.rest c.split.ensures.done c.split.ensures.closure (λ x r q k. search (rules, tests))) (λ x b q k. search (rules, tests))
