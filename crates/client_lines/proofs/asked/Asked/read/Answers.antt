use Rattle.std.proofs.Common.{◌++◌, codes, ap, sym, ◌∙◌}
use Rattle.client_lines.proofs.WordLemmas.{name-read, words-cut}
use Rattle.client_lines.proofs.asked.Asked.read.Goals as goal

pub returns : goal.returns
returns c =
    let word = c.in_ok-word.word.now in
    let front = word ++ codes " " in
    let device = c.in_ok-_device._device.now in
    let account = c.in_ok-account.account.now in
    let number = c.in_ok-account.job.now in
    let job = c.in_ok-job.ensures in
    record {
      word = word;
      device = device;
      number = number;
      words = c.in_ok-word.ensures.parts
          ∙ words-cut front device _ _ c.in_ok-_device.ensures.parts
          ∙ words-cut (front ++ device ++ codes " ") account _ number c.in_ok-account.ensures.parts
          ∙ ap (λ name. front ++ device ++ codes " " ++ name ++ codes " " ++ number)
          (name-read _ account _ c.in_ok-account-2.ensures);
      asks = sym c.asks_documents.ensures ∙ c.if-not-asks_documents.false;
      is_word = c.in_ok-_device.ensures.word;
      is_job = (job.0.0, sym job.1);
    }
