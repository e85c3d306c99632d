use Rattle.page_markup.proofs.Escapes.{clean_text}
use Rattle.page_markup.proofs.laws.never_marks_up.Goals as goal

pub returns : goal.returns
returns c = clean_text
