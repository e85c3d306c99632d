use Rattle.std.proofs.Common.{◌++◌, codes, sym, ◌∙◌}
use Rattle.client_lines.proofs.WordLemmas.{number-between, words-cut}
use Rattle.client_lines.proofs.documents.length_said.Goals as goal

pub returns-clause-said : goal.returns-clause-said
returns-clause-said c =
    let document = codes "document" ++ codes " " in
    let number = c.in_ok-own.own.now in
    let copies = c.in_ok-copies.copies.now in
    let format = c.in_ok-_format._format.now in
    let own = c.in_ok-_job.ensures in
    let length = c.in_ok-length.ensures in
    record {
      number = number;
      copies = copies;
      format = format;
      length = c.in_ok-_format.bytes.now;
      words = c.in_ok-words.ensures
          ∙ words-cut document number _ _ c.in_ok-own.ensures.parts
          ∙ words-cut (document ++ number ++ codes " ") copies _ _ c.in_ok-copies.ensures.parts
          ∙ words-cut (document ++ number ++ codes " " ++ copies ++ codes " ") format _ _ c.in_ok-_format.ensures.parts;
      is_format = c.in_ok-_format.ensures.word;
      is_job = (own.0.0, number-between _ _ own.0.1 own.0.2);
      is_length = (length.0.0, sym length.1);
    }
