use Rattle.page_markup.proofs.Escapes.{read_text}
use Rattle.page_markup.proofs.laws.is_read_back.Goals as goal

pub returns : goal.returns
returns c = read_text
