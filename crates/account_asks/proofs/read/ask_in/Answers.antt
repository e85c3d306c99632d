use Rattle.ipp_coding.specs.Plain.{plain_message, plain_attribute}
use Rattle.std.proofs.Common.{map}
use Rattle.account_asks.specs.ProofAskParts.{plain_parts}
use Rattle.account_asks.proofs.Spelled.{unsupported_spelled}
use Rattle.account_asks.proofs.Wholes.{asks_bare, parts_refused, document_refused, all_passed, asks_whole, good_whole}
use Rattle.account_asks.proofs.read.ask_in.Goals as goal

pub returns-in-Err-clause-asked : goal.returns-in-Err-clause-asked
returns-in-Err-clause-asked c =
    asks_bare c.refused.result c.in-Err.refusal _ c.refused.ensures (parts_refused c.args.account c.args.header c.args.operation (plain_message c.args.message.now) _ c.in-Err.ensures.told)

pub returns-in-Ok-template_and_document-clause-asked : goal.returns-in-Ok-template_and_document-clause-asked
returns-in-Ok-template_and_document-clause-asked c =
    let fine = rw c.as_slice-unsupported.ensures at c.in-Ok-template_and_document.ensures.told in
    asks_whole c.ask_with.result _ _ c.ask_with.ensures.asked c.ask_with.ensures.memory
    (all_passed c.args.account c.args.header c.args.operation (plain_message c.args.message.now) (plain_parts c.in-Ok.parts) c.in_ok-templates.templates.copies (map plain_attribute c.in_ok-templates.templates.unsupported)
    c.in-Ok.ensures.told c.in_ok-templates.ensures.copies c.in_ok-templates.ensures.unsupported fine)

pub returns-in-Ok-template_and_document-clause-fields : goal.returns-in-Ok-template_and_document-clause-fields
returns-in-Ok-template_and_document-clause-fields c =
    good_whole c.ask_with.result _ c.ask_with.ensures.asked record {
      base_fits = c.in-Ok.ensures.within.base_fits;
      job_in_range = c.in-Ok.ensures.within.job_in_range;
      name_fits = c.in-Ok.ensures.within.name_fits;
      password_fits = c.in-Ok.ensures.within.password_fits;
      copies_from_one = c.in_ok-templates.ensures.within.0;
      copies_at_most = c.in_ok-templates.ensures.within.1;
      impressions_at_most = c.in-Ok.ensures.within.impressions_at_most;
      limit_from_one = c.in-Ok.ensures.within.limit_from_one;
      unsupported_spelled = rw c.in_ok-templates.ensures.unsupported (unsupported_spelled c.args.operation (plain_message c.args.message.now) c.requires);
      document_fits = c.in-Ok-template_and_document.ensures.fits;
    }

pub returns-in-Err-template_and_document-clause-asked : goal.returns-in-Err-template_and_document-clause-asked
returns-in-Err-template_and_document-clause-asked c =
    let failed = rw c.as_slice-unsupported.ensures at c.in-Err-template_and_document.ensures.told in
    document_refused c.args.account c.args.header c.args.operation (plain_message c.args.message.now) (plain_parts c.in-Ok.parts) (map plain_attribute c.in_ok-templates.templates.unsupported) _
    c.in-Ok.ensures.told c.in_ok-templates.ensures.unsupported failed

pub returns-in-Err-template_and_document-clause-spelled : goal.returns-in-Err-template_and_document-clause-spelled
returns-in-Err-template_and_document-clause-spelled c =
    rw c.in_ok-templates.ensures.unsupported (unsupported_spelled c.args.operation (plain_message c.args.message.now) c.requires)
