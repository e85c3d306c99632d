use Rattle.std.proofs.Common.{refl}
use Rattle.std.proofs.lemmas.List.{get_or-replicate}
use Rattle.page_overview.proofs.overview.Overview.new.Goals as goal

pub returns-clause-shows : goal.returns-clause-shows
returns-clause-shows c = record {
  waiting = refl;
  unsettled = refl;
  charged = refl;
  beyond = refl;
  days = λ place within. get_or-replicate 31 place 0 0 within;
  begun = c.new.ensures.items;
  longest = c.new-2.ensures.items;
  accounts = c.new-3.ensures.items;
}
