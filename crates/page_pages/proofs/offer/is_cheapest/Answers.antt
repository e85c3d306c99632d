use Rattle.std.proofs.Common.{rules, tests, ◌&&◌, Bool, ◌∙◌, sym, ap}
use Rattle.std.proofs.lemmas.Iterator.{YieldsList-from_slice}
use Rattle.std.proofs.lemmas.Iterator.Search.{all_from_yields_List}
use Rattle.std.specs.List.{list_all}
use Rattle.page_pages.specs.Offers.{is_at_most}
use Rattle.page_pages.proofs.offer.is_cheapest.Goals as goal

pub returns-then-it : goal.returns-then-it
returns-then-it c =
    all_from_yields_List (is_at_most c.args.it.now) _ _ c.all.result c.all.ensures.ran (YieldsList-from_slice c.args.devices.now cc) (λ x b q k. search (rules, tests))
    ∙ sym (ap (λ (on : Bool). on && list_all (is_at_most c.args.it.now) c.args.devices.now) c.if-it.true)
