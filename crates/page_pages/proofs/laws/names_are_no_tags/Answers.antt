use Rattle.page_pages.proofs.TagLemmas.{names_are_no_tags}
use Rattle.page_pages.proofs.laws.names_are_no_tags.Goals as goal

pub returns : goal.returns
returns c = names_are_no_tags
